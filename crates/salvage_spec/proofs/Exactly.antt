-- Demand 1 for salvage: its answer is o exactly if the string, in plain words and record by record, says so (`SalvagedAs`).
use Prim.Native.Nat.{ℕ}
use mathlib.Core.Path.{◌≡◌, sym, ap, ◌∙◌, subst}
use mathlib.Core.Bool.{Bool, cond}
use mathlib.Core.List.{List}
use mathlib.Core.Logic.{⊎_elim, ◌↔◌}
use lib.Dec.{ltb}
use lib.ListN.{length}
use borrow.Author.Tests.{lt-ltb, le-ltb}
use Rattle.std.proofs.lemmas.Bool.{cases_lt}
use Rattle.transcript_spec.specs.declared.Entry.{Entry}
use Rattle.salvage_spec.specs.InPlainWords.{Divides, SalvagedAs}
use Rattle.salvage_spec.specs.InPlainWords as plain
use Rattle.salvage_spec.specs.Salvage.{run, report, salvage_answer}
use Rattle.salvage_spec.specs.declared.Salvaged.{Salvaged}
use Rattle.salvage_spec.proofs.Divides.{found, divides}

module _ (s : List ℕ) (room : ℕ) where
  -- the answer of a string, by its parts
  by_parts : {es : List Entry} {t u : List ℕ} {n : ℕ} → Divides s es t u n →
      salvage_answer s room ≡ cond (ltb room (length t)) (report 24 0 0 0) (report 0 (length es) (length u) n)
  unfolding salvage_answer
  by_parts d = let f = found d in rw (f.kept, f.entries, f.left, f.refusal)

  says : (o : Salvaged) → SalvagedAs s room o → salvage_answer s room ≡ o
  says _ (plain.SalvagedAs.done {es} {t} {u} {n} d h) =
      by_parts d ∙ ap (λ (z : Bool). cond z (report 24 0 0 0) (report 0 (length es) (length u) n)) (le-ltb room (length t) h)
  says _ (plain.SalvagedAs.too_small {es} {t} {u} {n} d h) =
      by_parts d ∙ ap (λ (z : Bool). cond z (report 24 0 0 0) (report 0 (length es) (length u) n)) (lt-ltb room (length t) h)

  -- one answer or another always holds, since every string divides
  some : (o : Salvaged) × SalvagedAs s room o
  some =
      ⊎_elim
      (λ h. (_, plain.SalvagedAs.too_small (divides s) h))
      (λ h. (_, plain.SalvagedAs.done (divides s) h))
      (cases_lt room (length (run s)))

  -- The answer of salvage is o exactly if o's row of `SalvagedAs` holds: the string is good records and a rest, which is nothing or begins
  -- with a bad record, and the records fit, or they do not (24).
  pub salvages_exactly : (o : Salvaged) → salvage_answer s room ≡ o ↔ SalvagedAs s room o
  salvages_exactly o = (λ e. subst (SalvagedAs s room) (sym (says some.0 some.1) ∙ e) some.1, says o)
