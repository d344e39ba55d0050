-- Any two outcomes that the statement of a call allows are one.
use Prim.Native.Nat.{ℕ}
use mathlib.Core.Path.{◌≡◌}
use mathlib.Core.List.{List}
use Rattle.std.specs.Prelude.{Result}
use Rattle.words.proofs.One.{one_value}
use Rattle.transcript_spec.specs.Lists.{Lists}
use Rattle.transcript_lines.specs.Putting.{PutLines}
use Rattle.transcript_lines.specs.Taking.{TookLines}
use Rattle.transcript_lines.specs.declared.NotPut.{NotPut}
use Rattle.transcript_lines.specs.declared.NotTaken.{NotTaken}

-- Taking lines has one outcome.
pub one_took : {t : List ℕ} {l : Lists} {o p : Result ℕ NotTaken} {l' l'' : Lists} →
    TookLines t l o l' → TookLines t l p l'' → (o ≡ p) × (l' ≡ l'')
one_took x y = (one_value x.answer y.answer, one_value x.lists y.lists)

-- Putting lines has one outcome.
pub one_put : {l : Lists} {out : List ℕ} {o p : Result ℕ NotPut} {out' out'' : List ℕ} →
    PutLines l out o out' → PutLines l out p out'' → (o ≡ p) × (out' ≡ out'')
one_put x y = (one_value x.answer y.answer, one_value x.text y.text)
