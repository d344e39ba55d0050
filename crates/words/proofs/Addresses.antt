-- What the definitions of addresses say: a word has sixteen bit addresses, and the pointer's step goes one word on.
use Rattle.std.proofs.Common.{◌≡◌, ℕ, suc, ◌+◌, ◌*◌, ◌%◌, ◌^◌, ◌<◌, Bool, true, false, refl, arith}
use Rattle.words.specs.Addresses.{address, word_at, step, stepped_from}
use Rattle.words.specs.declared.BitAddress.{BitAddress}

-- A bit address is sixteen times its word number, plus its remainder by sixteen.
pub bit_in_word : (a : BitAddress) → a.0 ≡ (word_at a).0 * 16 + a.0 % 16
bit_in_word a = omega arith

-- Bit addresses 16 n to 16 n + 15 lie in word n.
pub word_of_bit : (n k : ℕ) → k < 16 → (word_at (address (n * 16 + k))).0 ≡ n
word_of_bit n k h = omega arith

-- The step keeps the four low bits.
pub step_keeps_low_bits : (a : BitAddress) → (step a).0 % 16 ≡ a.0 % 16
step_keeps_low_bits a = omega arith

-- Where adding 16 stays below 2^32, the step goes to the next word.
pub step_next : (a : BitAddress) → a.0 + 16 < 2 ^ 32 → (word_at (step a)).0 ≡ suc (word_at a).0
step_next a h = omega arith

-- The step goes from word to word, modulo 2^28.
pub step_of_word : (a : BitAddress) → (word_at (step a)).0 ≡ ((word_at a).0 + 1) % 2 ^ 28
step_of_word a = omega arith

-- The step goes from FFFFFFF0h to 0.
pub step_wraps : step (address 0xfffffff0) ≡ address 0
step_wraps = refl

-- The stepped address has 32 bits.
pub step_fits : (a : BitAddress) → (step a).0 < 2 ^ 32
step_fits a = omega arith

-- An address of 32 bits that is stepped, or stays, has 32 bits.
pub stepped_fits : (s : Bool) (a : BitAddress) → a.0 < 2 ^ 32 → (stepped_from s a).0 < 2 ^ 32
stepped_fits true a h = step_fits a
stepped_fits false a h = h

-- A step that is taken goes one word on; where none is taken the address stays.
pub step_or_stay : (a : BitAddress) → (stepped_from true a ≡ step a) × (stepped_from false a ≡ a)
step_or_stay a = (refl, refl)
