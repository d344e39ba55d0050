-- What it is for a list to be bytes, or words, number by number: the hypotheses of many laws ask no more than that each number fits.
use Rattle.std.proofs.Common.{ℕ, zero, suc, ◌<◌, ◌↔◌, List, [], ◌∷◌, get_or, arith}
use Rattle.words.specs.Bytes.{AreBytes}
use Rattle.words.specs.Memory.{AreWords}

-- a list with one number more in front, all below n
one_more_below : (n x : ℕ) (l : List ℕ) → ((k : ℕ) → get_or (x ∷ l) k 0 < n) ↔ ((x < n) × ((k : ℕ) → get_or l k 0 < n))
one_more_below n x l = (λ h. (h 0, λ k. h (suc k)), both)
  where
    both : (x < n) × ((k : ℕ) → get_or l k 0 < n) → (k : ℕ) → get_or (x ∷ l) k 0 < n
    both p zero = p.0
    both p (suc k) = p.1 k

-- The empty list is bytes.
pub no_bytes : AreBytes []
no_bytes k = omega arith

-- A list is bytes exactly if its first number is below 256 and the others are bytes.
pub bytes_exactly : (x : ℕ) (l : List ℕ) → AreBytes (x ∷ l) ↔ ((x < 256) × AreBytes l)
bytes_exactly = one_more_below 256

-- The empty list is words.
pub no_words : AreWords []
no_words k = omega arith

-- A list is words exactly if its first number is below 65,536 and the others are words.
pub words_exactly : (x : ℕ) (l : List ℕ) → AreWords (x ∷ l) ↔ ((x < 65536) × AreWords l)
words_exactly = one_more_below 65536
