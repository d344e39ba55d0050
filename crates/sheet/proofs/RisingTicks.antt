-- Ticks that rise: judged by each tick and the next.
use Prim.Native.Nat.{ℕ}
use native.Mathlib.Numerals.{add-one}
use native.Mathlib.Omega.{arith}
use mathlib.Core.Path.{◌≡◌, sym}
use mathlib.Core.Bool.{Bool, true, false}
use mathlib.Core.List.{List}
use mathlib.Core.Logic.{⊎_elim}
use lib.Dec.{ltb}
use borrow.Author.Tests.{ltb-true, ltb-false}
use Rattle.std.specs.List.{IsAllAdjacentAnswer}
use Rattle.std.proofs.lemmas.Bool.{cases_Bool}
use Rattle.sheet_spec.specs.Reading.{rising}
use Rattle.sheet_spec.specs.Sheet.{ticks_refusal}
use Rattle.sheet_spec.proofs.Rising.{rises, falls}

-- The answer of the test on each tick and the next is whether the ticks rise.
pub rising_answer : (ticks : List ℕ) (r : Bool) → IsAllAdjacentAnswer (λ x y b. b ≡ ltb x y) ticks r → r ≡ rising ticks
rising_answer ticks true h =
    ⊎_elim
    (λ t. sym t)
    (λ f.
    let p = falls ticks f in
    let e = add-one p.0 in
    let above = ltb-true _ _ (sym (rw e at (h p.0 0 (omega (arith, p.1))))) in
    absurd (omega (arith, p.2, above)))
    (cases_Bool (rising ticks))
rising_answer ticks false h =
    ⊎_elim
    (λ t.
    let e = add-one h.0 in
    let below = rises ticks t h.0 (omega (arith, h.1)) in
    absurd (omega (arith, below, ltb-false _ _ (sym (rw e at (h.2 0))))))
    (λ f. sym f)
    (cases_Bool (rising ticks))

-- Ticks that are not refused rise.
pub unrefused_rise : (hollow : Bool) (ticks : List ℕ) → ticks_refusal hollow ticks ≡ 0 → rising ticks ≡ true
unfolding ticks_refusal
unrefused_rise true ticks e = absurd (omega arith)
unrefused_rise false ticks e =
    ⊎_elim (λ t. t) (λ f. absurd (let n : ◌≡◌ {A = ℕ} 44 0 = rw f at e in omega arith)) (cases_Bool (rising ticks))
