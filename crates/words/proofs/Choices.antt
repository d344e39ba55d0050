-- Tests that are one.
use Rattle.std.proofs.Common.{◌≡◌, Bool, true, false, ◌↔◌, sym, refl, true≢false}
use mathlib.Core.Bool.{false≢true, beq}

-- Two tests are one if each holds where the other does.
pub same_test : (s t : Bool) → (s ≡ true → t ≡ true) → (t ≡ true → s ≡ true) → s ≡ t
same_test true t f g = sym (f refl)
same_test false true f g = g refl
same_test false false f g = refl

-- Two tests are one exactly if the library's test of whether they are comes out true.
pub come_out_alike : (s t : Bool) → beq s t ≡ true ↔ s ≡ t
come_out_alike true true = (λ _. refl, λ _. refl)
come_out_alike true false = (λ e. absurd (false≢true e), λ e. absurd (true≢false e))
come_out_alike false true = (λ e. absurd (false≢true e), λ e. absurd (false≢true e))
come_out_alike false false = (λ _. refl, λ _. refl)
