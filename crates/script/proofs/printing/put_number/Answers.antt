-- `script::printing::put_number` meets its contract: the digits lie in the part that was lent, after the space.
use Prim.Native.Nat.{ℕ, zero, suc, ◌+◌, ◌-◌, ◌/◌, ◌≤◌}
use native.Mathlib.Numerals.{add-one}
use native.Mathlib.Omega.{arith}
use mathlib.Core.Path.{◌≡◌, refl, ap, ◌∙◌}
use mathlib.Core.List.{List, ◌++◌}
use lib.ListN.{length, take, drop, set, length-append, length-set, length-take, length-drop}
use Rattle.script.specs.Answers.{digits}
use Rattle.script.proofs.Laying.{byte_laid, pushed, follows}
use Rattle.script.proofs.printing.put_number.Goals as goal

length_digits : (n v : ℕ) → length (digits n v) ≡ n
unfolding digits
length_digits zero v = refl
length_digits (suc n) v = simp length-append (rw (length_digits n (v / 16)) (add-one n))

pub returns : goal.returns
returns c =
    let a = c.args in
    let line : List ℕ = set a.line.now a.at 32 in
    let space = byte_laid a.line.now a.at 32 (omega (arith, c.requires)) in
    let fits : a.at + 1 + a.count ≤ length line = simp length-set c.requires in
    let from = a.at + 1 in
    let part : length (take (from + a.count - from) (drop from line)) ≡ a.count = simp (length-take, length-drop) (omega (arith, fits)) in
    let made = c.put_digits.ensures ∙ ap (λ (n : ℕ). digits n a.value) part in
    let all = pushed (a.at + 1) a.count line c.put_digits.new.places fits
    (ap length made ∙ length_digits a.count a.value) in
    follows space (record { laid = all ∙ ap (λ (t : List ℕ). take (a.at + 1) line ++ t) made })
