-- Any two outcomes that the statement of the call allows are one.
use Prim.Native.Nat.{ℕ}
use mathlib.Core.Path.{◌≡◌}
use mathlib.Core.List.{List}
use Rattle.words.proofs.One.{one_value}
use Rattle.salvage_spec.specs.Salvage.{SalvagedTranscript}
use Rattle.salvage_spec.specs.declared.Salvaged.{Salvaged}

-- A salvage has one outcome.
pub one_salvaged : {s out : List ℕ} {o p : Salvaged} {out' out'' : List ℕ} →
    SalvagedTranscript s out o out' → SalvagedTranscript s out p out'' → (o ≡ p) × (out' ≡ out'')
one_salvaged p q = (one_value p.answer q.answer, one_value p.bytes q.bytes)
