-- Any two outcomes that the statement of a delivery allows are one.
use Prim.Native.Nat.{ℕ}
use mathlib.Core.Path.{◌≡◌}
use mathlib.Core.List.{List}
use Rattle.words.proofs.One.{one_value}
use Rattle.transcript_spec.specs.Lists.{Lists}
use Rattle.stream_spec.specs.Stream.{TookDelivery}
use Rattle.stream_spec.specs.declared.Stream.{Stream}
use Rattle.stream_spec.specs.declared.Streamed.{Streamed}

-- A delivery has one outcome.
pub one_delivery : {st : Stream} {s : List ℕ} {l l' l'' : Lists} {o p : Streamed} →
    TookDelivery st s l o l' → TookDelivery st s l p l'' → (o ≡ p) × (l' ≡ l'')
one_delivery p q = (one_value p.answer q.answer, one_value p.lists q.lists)
