-- A cycle over lent bytes leaves the bytes of the words that the cycle leaves, so one word's two bytes are all that need be touched.
-- By cases on the cycle; a store's by whether its word is in memory.
use Prim.Native.Nat.{ℕ, zero, suc, ◌%◌}
use mathlib.Core.Path.{◌≡◌, refl, sym, ap, ◌∙◌}
use mathlib.Core.Bool.{Bool, true, false, cond}
use mathlib.Core.List.{List, [], ◌∷◌}
use lib.ListN.{length, set}
use Rattle.words.specs.Bytes.{AreBytes}
use Rattle.words.specs.Memory.{in_memory, store_at}
use Rattle.words.specs.declared.WordNumber.{WordNumber}
use Rattle.registers.specs.declared.Registers.{Registers}
use Rattle.port_spec.specs.Cycle.{memory_after}
use Rattle.port_spec.specs.declared.Due.{Due}
use Rattle.port_spec.specs.declared.Due.TheVariants.{Nothing, Fetch, Store}
use Rattle.door_spec.specs.Bytes.{words_of, bytes_of}
use Rattle.door_spec.proofs.WordsAndBytes.{twice, twice_one, bytes_of_words}
use Rattle.door.specs.Parts.{put_word, store_bytes, bytes_after}

-- A word stored is its two bytes stored.
pub bytes_of_set : (m : List ℕ) (n w : ℕ) → bytes_of (set m n w) ≡ put_word (bytes_of m) n w
unfolding bytes_of
bytes_of_set [] n w = refl
bytes_of_set (v ∷ rest) zero w = refl
bytes_of_set (v ∷ rest) (suc n) w = rw (twice_one, twice, bytes_of_set rest n w)

module _ (b : List ℕ) (even : length b % 2 ≡ 0) (s : AreBytes b) where
  -- A store of two bytes leaves the bytes of the words with one word stored.
  pub stored_bytes : (n : WordNumber) (w : ℕ) → store_bytes b n w ≡ bytes_of (store_at (words_of b) n w)
  unfolding store_bytes store_at
  stored_bytes n w = go (in_memory (words_of b) n)
    where
      go : (t : Bool) → cond t (put_word b n.0 w) b ≡ bytes_of (cond t (set (words_of b) n.0 w) (words_of b))
      go true = sym (bytes_of_set (words_of b) n.0 w ∙ ap (λ (x : List ℕ). put_word x n.0 w) (bytes_of_words b even s))
      go false = sym (bytes_of_words b even s)

  -- Any cycle over bytes leaves the bytes of the words that the same cycle over words leaves.
  pub cycled_bytes : (r : Registers) (due : Due) → bytes_after r due b ≡ bytes_of (memory_after r due (words_of b))
  unfolding bytes_after memory_after
  cycled_bytes r Nothing = sym (bytes_of_words b even s)
  cycled_bytes r (Fetch t) = sym (bytes_of_words b even s)
  cycled_bytes r (Store t) = stored_bytes _ r.latch
