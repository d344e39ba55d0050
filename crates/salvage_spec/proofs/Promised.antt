-- What the contract of salvage promises, said of any outcome that it allows: each answer when and only then, what a refusal leaves, what is
-- left when it is done. `AsManyBytes` has what follows for the length.
use Prim.Native.Nat.{ℕ}
use native.Mathlib.Omega.{arith}
use mathlib.Core.Path.{◌≡◌, refl, sym, ap, ◌∙◌, subst}
use mathlib.Core.Bool.{Bool, cond}
use mathlib.Core.List.{List}
use mathlib.Core.Logic.{◌↔◌, ◌≢◌}
use lib.ListN.{length, take, drop}
use lib.Seq.{take-append_seam, drop-append_seam}
use borrow.Author.Tests.{eq-eqb, ne_eqb}
use Rattle.transcript_spec.specs.Lists.{over}
use Rattle.salvage_spec.specs.InPlainWords.{SalvagedAs, SalvagedAll}
use Rattle.salvage_spec.specs.InPlainWords as plain
use Rattle.salvage_spec.specs.Salvage.{run, salvage_answer, bytes_after, SalvagedTranscript}
use Rattle.salvage_spec.specs.declared.Salvaged.{Salvaged}
use Rattle.salvage_spec.proofs.Divides.{found}
use Rattle.salvage_spec.proofs.Exactly.{salvages_exactly}

module _ {s out : List ℕ} {o : Salvaged} {out' : List ℕ} (p : SalvagedTranscript s out o out') where
  -- The answer of salvage has a row of `SalvagedAs` that holds of the string.
  pub salvage_answers : SalvagedAs s (length out) o
  salvage_answers = (salvages_exactly s (length out) o).0 (sym p.answer)

  -- The answer of salvage is a exactly if a's row of `SalvagedAs` holds: the string is good records and a rest, which is nothing or begins
  -- with a bad record, and the records fit, or they do not (24).
  pub salvage_exactly : (a : Salvaged) → o ≡ a ↔ SalvagedAs s (length out) a
  salvage_exactly a =
      (λ e. subst (SalvagedAs s (length out)) e salvage_answers, λ w. p.answer ∙ (salvages_exactly s (length out) a).1 w)

  number_is : o.number ≡ (salvage_answer s (length out)).number
  number_is = ap (λ (a : Salvaged). a.number) p.answer

  -- Refused, salvage answers 24 and zeros, and every byte stays.
  pub salvage_refused : o.number ≢ 0 → (o ≡ record { number = 24; kept = 0; left = 0; stop = 0 }) × (out' ≡ out)
  unfolding bytes_after
  salvage_refused d = (
    zeros salvage_answers d,
    p.bytes
        ∙ ap (λ (t : Bool). cond t (over (run s) out) out) (ne_eqb (salvage_answer s (length out)).number 0 (λ z. d (number_is ∙ z))),
  )
    where
      zeros : {a : Salvaged} → SalvagedAs s (length out) a → a.number ≢ 0 → a ≡ record { number = 24; kept = 0; left = 0; stop = 0 }
      zeros (plain.SalvagedAs.done x h) d = absurd (d refl)
      zeros (plain.SalvagedAs.too_small x h) d = refl

  -- Where salvage answers 0, the string divides into good records and a rest as is reported; the records stand in the first bytes, and the
  -- later ones are as they were.
  pub salvage_done : o.number ≡ 0 → SalvagedAll s out o out'
  unfolding bytes_after
  salvage_done z = finish salvage_answers z
    where
      finish : {a : Salvaged} → SalvagedAs s (length out) a → a.number ≡ 0 → SalvagedAll s out a out'
      finish (plain.SalvagedAs.too_small x h) e = absurd (omega arith)
      finish (plain.SalvagedAs.done {es} {t} {u} {n} x h) e =
          let left : out' ≡ over t out =
          p.bytes
          ∙ ap (λ (b : Bool). cond b (over (run s) out) out) (eq-eqb (salvage_answer s (length out)).number 0 (sym number_is ∙ z))
          ∙ ap (λ (l : List ℕ). over l out) (found x).kept in
          record {
            entries = es;
            kept = t;
            left = u;
            divides = x;
            count = refl;
            bytes_left = refl;
            fits = h;
            written = ap (take (length t)) left ∙ take-append_seam t _;
            later = ap (drop (length t)) left ∙ drop-append_seam t _;
          }
