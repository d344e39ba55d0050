-- `write_all`: what one write more takes of the rest of the text comes behind what was appended before.
use Rattle.std.proofs.Common.{◌≡◌, ℕ, ◌+◌, ◌-◌, ◌≤◌, ◌∙◌, List, length, take, drop, arith, length-drop, sym, ap, subst}
use Rattle.std.proofs.Math.Seq.{take-add, drop-drop}
use Rattle.std.proofs.lemmas.List.{take_rest}
use Rattle.std.specs.Io.KnownBytes.{Appends}
use Rattle.std.proofs.KnownBytes.{Appends-trans}
use Rattle.std.specs.declared.option.Option.{Option}
use Rattle.output.proofs.write_all.Goals as goal

-- behind n bytes of the rest of a text its rest is shorter, and what stands before that is appended
taken : (a b c : Option (List ℕ)) (t rest rest' : List ℕ) (n : ℕ) → length rest ≤ length t → rest ≡ drop (length t - length rest) t →
    Appends a b (take (length t - length rest) t) → n ≤ length rest → Appends b c (take n rest) → rest' ≡ drop n rest →
    (length rest' ≤ length t) × (rest' ≡ drop (length t - length rest') t) × Appends a c (take (length t - length rest') t)
taken a b c t rest rest' n h e p k q f =
    let done = length t - length rest in
    let left : length rest' ≡ length rest - n = ap length f ∙ length-drop n rest in
    let now : done + n ≡ length t - length rest' = omega (arith, left, h, k) in (
      omega (arith, left, h),
      f ∙ ap (drop n) e ∙ drop-drop n done t ∙ ap (λ (m : ℕ). drop m t) now,
      subst (λ (m : ℕ). Appends a c (take m t)) now
          (subst (Appends a c) (sym (take-add done n t)) (Appends-trans a b c _ _ p (subst (λ (l : List ℕ). Appends b c (take n l)) e q))),
    )

pub loop-rest-preserved : goal.loop-rest-preserved
loop-rest-preserved g c =
    let k = c.loop-rest.invariant in
    taken _ _ _ _ _ _ _ k.0 k.1 k.2 c.in-Ok.ensures.bound c.in-Ok.ensures.bytes (take_rest c.loop-rest.rest.now c.in-Ok.n)
