-- What `rising` says of ticks, in plain words. By the list.
use Prim.Native.Nat.{ℕ, zero, suc, ◌<◌, ◌≤◌}
use native.Mathlib.Omega.{arith}
use mathlib.Core.Path.{◌≡◌}
use mathlib.Core.Bool.{true, false, true≢false}
use mathlib.Core.List.{List, [], ◌∷◌}
use mathlib.Core.Logic.{⊎_elim}
use lib.Dec.{ltb}
use lib.ListN.{length, get_or}
use borrow.Author.Tests.{ltb-true, ltb-false}
use Rattle.std.proofs.lemmas.Bool.{and_parts, cases_Bool}
use Rattle.sheet_spec.specs.Reading.{rising}

-- Of ticks that are found to rise, each lies after the one before it.
pub rises : (ts : List ℕ) → rising ts ≡ true → (k : ℕ) → suc k < length ts → get_or ts k 0 < get_or ts (suc k) 0
unfolding rising
rises [] e k h = absurd (omega arith)
rises (t ∷ []) e k h = absurd (omega arith)
rises (t ∷ u ∷ rest) e zero h = ltb-true t u (and_parts (ltb t u) (rising (u ∷ rest)) e).0
rises (t ∷ u ∷ rest) e (suc k) h = rises (u ∷ rest) (and_parts (ltb t u) (rising (u ∷ rest)) e).1 k (omega arith)

-- Of ticks that are found not to rise, some tick does not lie after the one before it.
pub falls : (ts : List ℕ) → rising ts ≡ false → (k : ℕ) × (suc k < length ts) × (get_or ts (suc k) 0 ≤ get_or ts k 0)
unfolding rising
falls [] e = absurd (true≢false e)
falls (t ∷ []) e = absurd (true≢false e)
falls (t ∷ u ∷ rest) e =
    ⊎_elim
    (λ x. let r = falls (u ∷ rest) (rw x at e) in (suc r.0, omega (arith, r.1), r.2))
    (λ x. (0, omega arith, ltb-false t u x))
    (cases_Bool (ltb t u))

-- What rises from each number to the next lies nowhere below its first.
pub none_before_first : (f : ℕ → ℕ) (n : ℕ) → ((k : ℕ) → suc k < n → f k < f (suc k)) → (k : ℕ) → k < n → f 0 ≤ f k
none_before_first f n r zero h = omega arith
none_before_first f n r (suc k) h =
    let before = none_before_first f n r k (omega arith) in
    omega (arith, before, r k h)
