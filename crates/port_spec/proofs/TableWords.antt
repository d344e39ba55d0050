-- What the answers that hand memory out say of it: its words, held, where it has words; filler, hollow, where it has none.
-- Document 01, 'Memory and addresses'. One answer by whether its word is in memory; n answers by the pointer's step to the
-- next word.
use Prim.Native.Nat.{ℕ, zero, suc, ◌+◌, ◌^◌, ◌<◌, ◌≤◌}
use native.Mathlib.Nat.{zero-add, suc-add}
use native.Mathlib.Omega.{arith}
use mathlib.Core.Path.{◌≡◌, refl, ap}
use mathlib.Core.List.{List, ◌∷◌, ◌++◌, map}
use lib.ListN.{length, get_or, replicate}
use lib.Seq.{drop-cons}
use borrow.Author.Tests.{lt-ltb, le-ltb}
use Rattle.words.specs.Addresses.{word_at, step}
use Rattle.words.specs.Memory.{fetch_at}
use Rattle.words.specs.declared.BitAddress.{BitAddress}
use Rattle.words.proofs.Addresses.{step_next}
use Rattle.port_spec.specs.Cycle.{cycle_of}
use Rattle.port_spec.specs.Table.{hand, handed, on_by, table, Lies, Given, given, held_word, filler}
use Rattle.port_spec.specs.declared.Cycle.TheVariants.{Empty}

module _ (m : List ℕ) where
  -- ---- one answer
  -- A word that is in memory is handed out as held.
  pub held_here : (a : BitAddress) → (word_at a).0 < length m → given (hand m a) ≡ held_word (get_or m (word_at a).0 0)
  unfolding hand fetch_at
  held_here a h = rw (lt-ltb (word_at a).0 (length m) h)

  hollow_here : (a : BitAddress) → length m ≤ (word_at a).0 → given (hand m a) ≡ filler
  unfolding hand fetch_at
  hollow_here a h = rw (le-ltb (word_at a).0 (length m) h)

  -- The cycle of a read is marked empty where memory has no word one on.
  pub ahead_empty : (a : BitAddress) → length m ≤ (word_at (step a)).0 → (hand m a).cycle ≡ Empty
  unfolding hand cycle_of
  ahead_empty a h = rw (le-ltb (word_at (step a)).0 (length m) h)

  -- ---- n answers
  -- A table that lies in memory is handed out word for word, all held.
  pub table_handed : length m ≤ 32768 → (n : ℕ) (a : BitAddress) → Lies m a n →
      map given (handed m a n) ≡ map held_word (table m a n)
  unfolding handed
  table_handed k zero a h = refl
  table_handed k (suc n) a h =
      let next = step_next a (omega arith) in
      let rest = table_handed k n (step a) (rw next (omega arith)) in
      rw (held_here a (omega arith), drop-cons m (word_at a).0 0 (omega arith), rest, next)

  -- Beyond memory all that is handed out is filler, up to word 2^28, where the pointer comes round.
  pub filler_handed : (n : ℕ) (a : BitAddress) → length m ≤ (word_at a).0 → (word_at a).0 + n ≤ 2 ^ 28 →
      map given (handed m a n) ≡ replicate n filler
  unfolding handed
  filler_handed zero a h q = refl
  filler_handed (suc zero) a h q = rw (hollow_here a h)
  filler_handed (suc (suc n)) a h q =
      let next = step_next a (omega arith) in
      let rest = filler_handed (suc n) (step a) (rw next (omega arith)) (rw next (omega arith)) in
      rw (hollow_here a h) (ap (λ (l : List Given). filler ∷ l) rest)

  -- What n + j answers hand out is what n do, and then j from n words on.
  pub handed_on : (n j : ℕ) (a : BitAddress) →
      map given (handed m a (n + j)) ≡ map given (handed m a n) ++ map given (handed m (on_by n a) j)
  unfolding handed on_by
  handed_on zero j a = rw zero-add
  handed_on (suc n) j a = rw suc-add (ap (λ (l : List Given). given (hand m a) ∷ l) (handed_on n j (step a)))
