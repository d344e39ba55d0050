-- One word of the lent memory: document 01, 'Memory and addresses'.
--   over_limit n     a memory of n words is too long
--   AreWords m       every number of the list is one of 16 bits, as what is lent always is
--   in_memory m n    word n is in the lent memory m
--   fetch_at m n     what a fetch of word n finds
--   store_at m n w   the memory after a store of w to word n
use Rattle.std.specs.Prelude.{◌≡◌, ℕ, ◌<◌, Bool, cond, Option, Some, None, List, length, nat_lt, slice_index, slice_set}
use Rattle.words.specs.declared.WordNumber.{WordNumber}

-- "Memory is a lent slice of 16-bit words, at most 32,768"
abbrev pub over_limit : ℕ → Bool
over_limit words = nat_lt 32768 words

abbrev pub AreWords : List ℕ → Type 0
AreWords m = (k : ℕ) → slice_index m k < 65536

-- "A cycle whose word is not in the lent memory is empty"
abbrev pub in_memory : List ℕ → WordNumber → Bool
in_memory m n = nat_lt n.0 (length m)

-- the word, or none where memory has no such word
unfoldable pub fetch_at : List ℕ → WordNumber → Option ℕ
fetch_at m n = cond (in_memory m n) (Some (slice_index m n.0)) None

-- "an empty store is dropped" (house)
unfoldable pub store_at : List ℕ → WordNumber → ℕ → List ℕ
store_at m n w = cond (in_memory m n) (slice_set m n.0 w) m

-- what a store leaves: whether it fell inside, and the memory
pub record Stored (m : List ℕ) (n : WordNumber) (w : ℕ) (inside : Bool) (m' : List ℕ) : Type 0 where
  pub fell : inside ≡ in_memory m n
  pub memory : m' ≡ store_at m n w
