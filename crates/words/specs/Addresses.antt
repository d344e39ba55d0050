-- Bit addresses and word numbers: document 01, 'Memory and addresses'.
--   address n          the bit address n
--   word_at a          the word that bit address a lies in
--   step a             the bit address one word on
--   stepped_from s a   that, or a itself where s says that there is no step
use Rattle.std.specs.Prelude.{ℕ, ◌+◌, ◌/◌, ◌%◌, ◌^◌, Bool, cond}
use Rattle.words.specs.declared.BitAddress.{BitAddress}
use Rattle.words.specs.declared.WordNumber.{WordNumber}

abbrev pub address : ℕ → BitAddress
address n = record { 0 = n }

-- "Bit address b is bit b mod 16 of word b div 16"; "a cycle uses pointer div 16" (house)
abbrev pub word_at : BitAddress → WordNumber
word_at a = record { 0 = a.0 / 16 }

-- "The pointer gains 16 modulo 2^32"
abbrev pub step : BitAddress → BitAddress
step a = record { 0 = (a.0 + 16) % 2 ^ 32 }

abbrev pub stepped_from : Bool → BitAddress → BitAddress
stepped_from s a = cond s (step a) a
