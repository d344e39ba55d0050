-- What the definitions of one word of memory say: found again where it was stored, none and nothing beyond the end;
-- and words of 16 bits stay so.
-- Each law goes by cases on whether the word is in memory.
use Rattle.std.proofs.Common.{is_some, unwrap_or, Some, None, ◌≡◌, ℕ, zero, suc, ◌<◌, Bool, true, false, cond, ◌≢◌, ◌↔◌, List, [], ◌∷◌, length, get_or, set, refl, length-set, get_or-set_other, get_or-set_same, ltb-true, lt-ltb}
use lib.Seq.{set-get_or}
use Rattle.words.specs.Memory.{over_limit, AreWords, in_memory, fetch_at, store_at}
use Rattle.words.specs.declared.WordNumber.{WordNumber}

-- A memory is too long exactly if it has more than 32,768 words.
pub over_limit_when : (words : ℕ) → over_limit words ≡ true ↔ 32768 < words
over_limit_when words = (ltb-true 32768 words, lt-ltb 32768 words)

module _ (m : List ℕ) (n : WordNumber) where
  -- A word is in the lent memory exactly if its number is below the memory's length.
  pub in_memory_when : in_memory m n ≡ true ↔ n.0 < length m
  in_memory_when = (ltb-true n.0 (length m), lt-ltb n.0 (length m))

  -- A fetch inside memory brings its word, and says so.
  pub fetched_inside : in_memory m n ≡ true → fetch_at m n ≡ Some (get_or m n.0 0)
  unfolding fetch_at
  fetched_inside e = rw e

  -- A fetch beyond memory brings none.
  pub fetched_beyond : in_memory m n ≡ false → fetch_at m n ≡ None
  unfolding fetch_at
  fetched_beyond e = rw e

  -- A fetch brings a word exactly if memory has it.
  pub fetched_some : is_some (fetch_at m n) ≡ in_memory m n
  unfolding fetch_at
  fetched_some = go (in_memory m n)
    where
      go : (t : Bool) → is_some (cond t (Some (get_or m n.0 0)) None) ≡ t
      go true = refl
      go false = refl

  -- A fetch with a filler for a word that is not there brings the word or that filler.
  pub fetched_or : (filler : ℕ) → unwrap_or (fetch_at m n) filler ≡ cond (in_memory m n) (get_or m n.0 0) filler
  unfolding fetch_at
  fetched_or filler = go (in_memory m n)
    where
      go : (t : Bool) → unwrap_or (cond t (Some (get_or m n.0 0)) None) filler ≡ cond t (get_or m n.0 0) filler
      go true = refl
      go false = refl

  -- A store beyond memory is dropped.
  pub stored_beyond : (w : ℕ) → in_memory m n ≡ false → store_at m n w ≡ m
  unfolding store_at
  stored_beyond w e = rw e

  -- A store inside is found in its own word.
  pub stored_here : (w : ℕ) → in_memory m n ≡ true → get_or (store_at m n w) n.0 0 ≡ w
  unfolding store_at
  stored_here w e = rw e (get_or-set_same m n.0 w 0 (ltb-true _ _ e))

  -- A store changes no other word.
  pub stored_elsewhere : (w k : ℕ) → k ≢ n.0 → get_or (store_at m n w) k 0 ≡ get_or m k 0
  unfolding store_at
  stored_elsewhere w k d = go (in_memory m n)
    where
      go : (t : Bool) → get_or (cond t (set m n.0 w) m) k 0 ≡ get_or m k 0
      go true = get_or-set_other m n.0 k w 0 d
      go false = refl

  -- No store changes the length.
  pub stored_length : (w : ℕ) → length (store_at m n w) ≡ length m
  unfolding store_at
  stored_length w = go (in_memory m n)
    where
      go : (t : Bool) → length (cond t (set m n.0 w) m) ≡ length m
      go true = length-set m n.0 w
      go false = refl

  -- What was stored inside memory is fetched again.
  pub fetch_stored : (w : ℕ) → in_memory m n ≡ true → fetch_at (store_at m n w) n ≡ Some w
  unfolding fetch_at
  fetch_stored w e = rw (stored_length w, e, stored_here w e)

  -- What was fetched, stored again, changes nothing, whatever filler stands for a word that is not there.
  pub store_fetched : (filler : ℕ) → store_at m n (unwrap_or (fetch_at m n) filler) ≡ m
  unfolding store_at
  store_fetched filler = rw (fetched_or filler) (go (in_memory m n))
    where
      go : (t : Bool) → cond t (set m n.0 (cond t (get_or m n.0 0) filler)) m ≡ m
      go true = set-get_or m n.0 0
      go false = refl

-- ---- words of 16 bits
set_words : (m : List ℕ) (i w k : ℕ) → AreWords m → w < 65536 → get_or (set m i w) k 0 < 65536
set_words [] i w k h p = h k
set_words (v ∷ rest) zero w zero h p = p
set_words (v ∷ rest) zero w (suc k) h p = h (suc k)
set_words (v ∷ rest) (suc i) w zero h p = h 0
set_words (v ∷ rest) (suc i) w (suc k) h p = set_words rest i w k (λ j. h (suc j)) p

module _ (m : List ℕ) (n : WordNumber) (h : AreWords m) where
  -- What a fetch brings has 16 bits, inside memory and, if the filler has, beyond it.
  pub fetched_word : (filler : ℕ) → filler < 65536 → unwrap_or (fetch_at m n) filler < 65536
  fetched_word filler p = rw (fetched_or m n filler) (go (in_memory m n))
    where
      go : (t : Bool) → cond t (get_or m n.0 0) filler < 65536
      go true = h n.0
      go false = p

  -- A store of 16 bits leaves words of 16 bits.
  pub stored_words : (w : ℕ) → w < 65536 → AreWords (store_at m n w)
  unfolding store_at
  stored_words w p k = go (in_memory m n)
    where
      go : (t : Bool) → get_or (cond t (set m n.0 w) m) k 0 < 65536
      go true = set_words m n.0 w k h p
      go false = h k
