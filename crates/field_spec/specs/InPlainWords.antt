-- What a sceptical reader means by the words of document 01, 'Fields'. The laws are said with these; no contract cites them.
--   Covers a n b       bit address b is one of the field's: a, a + 1, .., a + n - 1
--   Holds a n w        word w holds a bit of the field: it is touched
--   Counted a n w      word w is one of those that the cycles are added up over
--   Missing words a n  a touched word isn't in a memory of so many words
--   partly a n w       1 for a word that is only partly covered, else 0
--   number_of m        the whole memory as one number, its first word lowest
--   InRange n z        z is one of -2^(n - 1) to 2^(n - 1) - 1
--   same_bits z        the unsigned number of 32 bits with the bits of the signed number z
use Rattle.std.specs.Prelude.{ℕ, suc, ◌+◌, ◌-◌, ◌*◌, ◌^◌, ◌≤◌, ◌<◌, cond, List, [], ◌∷◌, ◌≡◌, ℤ, pos, negsuc}
use Rattle.words.specs.Addresses.{word_at}
use Rattle.words.specs.declared.BitAddress.{BitAddress}
use Rattle.words.specs.declared.WordNumber.{WordNumber}
use Rattle.field_spec.specs.Count.{touched, wholly_covered}

-- ---- bits and words of a field

pub record Covers (a : BitAddress) (n : ℕ) (b : BitAddress) : Type 0 where
  pub from : a.0 ≤ b.0
  pub to : b.0 < a.0 + n

pub record Holds (a : BitAddress) (n : ℕ) (w : WordNumber) : Type 0 where
  pub bit : BitAddress
  pub covered : Covers a n bit
  pub in_word : word_at bit ≡ w

pub record Counted (a : BitAddress) (n : ℕ) (w : WordNumber) : Type 0 where
  pub from : (word_at a).0 ≤ w.0
  pub to : w.0 < (word_at a).0 + touched a n

abbrev pub partly : BitAddress → ℕ → WordNumber → ℕ
partly a n w = cond (wholly_covered a n w) 0 1

pub record Missing (words : ℕ) (a : BitAddress) (n : ℕ) : Type 0 where
  pub word : WordNumber
  pub holds : Holds a n word
  pub beyond : words ≤ word.0

-- ---- memory

unfoldable pub number_of : List ℕ → ℕ
number_of [] = 0
number_of (w ∷ m) = number_of m * 2 ^ 16 + w

-- ---- signed numbers (`negsuc k` is -1 - k)

pub data InRange (n : ℕ) : ℤ → Type 0 where
  at_least_zero : {k : ℕ} → k < 2 ^ (n - 1) → InRange n (pos k)
  below_zero : {k : ℕ} → k < 2 ^ (n - 1) → InRange n (negsuc k)

abbrev pub same_bits : ℤ → ℕ
same_bits (pos k) = k
same_bits (negsuc k) = 2 ^ 32 - suc k
