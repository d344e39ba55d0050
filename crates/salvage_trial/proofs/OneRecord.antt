-- A record is carried out by a call on first places, and those to be written then come back.
use Prim.Native.Nat.{ℕ, ◌≤◌, min}
use native.Mathlib.Omega.{arith}
use mathlib.Core.Path.{◌≡◌, ap, ◌∙◌}
use mathlib.Core.List.{List, ◌++◌}
use lib.ListN.{length, take, drop}
use Rattle.words.specs.Lent.{given_back}
use Rattle.salvage_spec.specs.Salvage.{salvage_answer, bytes_after, SalvagedTranscript}
use Rattle.salvage_spec.specs.declared.Salvaged.{Salvaged}
use Rattle.salvage_trial.specs.CarriedOut.{answer_from, bytes_from, CarriedOut}

-- No more places are lent than there are.
pub smaller_of : (k m : ℕ) {n : ℕ} → n ≡ min k m → n ≤ m
smaller_of k m e = omega arith

-- The call on the lent parts, of which those to be written come back, is what the record asks for.
pub carried : {k m given room : ℕ} {s out : List ℕ} {o : Salvaged} {part : List ℕ} → given ≡ min k (length s) → room ≡ min m (length out) →
    SalvagedTranscript (take given s) (take room out) o part → CarriedOut k m s out o (part ++ drop room out)
unfolding answer_from bytes_from
carried {k} {m} {given} {room} {s} {out} {o} {part} e f x =
    let lent_s = ap (λ (n : ℕ). take n s) e in
    let lent_out = ap (λ (n : ℕ). take n out) f in
    let back = ap (λ (n : ℕ). part ++ drop n out) f in
    record {
      answer = x.answer ∙ (λ i. salvage_answer (lent_s i) (length (lent_out i)));
      bytes = back ∙ ap (given_back m out) (x.bytes ∙ (λ i. bytes_after (lent_s i) (lent_out i)));
    }
