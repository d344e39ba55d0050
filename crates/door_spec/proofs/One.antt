-- Any two outcomes that the statement of a call allows are one.
use Prim.Native.Nat.{ℕ}
use mathlib.Core.Path.{◌≡◌}
use mathlib.Core.List.{List}
use Rattle.words.proofs.One.{one_value}
use Rattle.port_spec.specs.declared.Access.{Access}
use Rattle.door_spec.specs.Door.{Called}

-- A call has one outcome.
pub one_called : {image memory : List ℕ} {a : Access} {x y : ℕ} {i j m n : List ℕ} →
    Called image memory a x i m → Called image memory a y j n → (x ≡ y) × (i ≡ j) × (m ≡ n)
one_called p q =
    (one_value p.answered q.answered, one_value p.image_left q.image_left, one_value p.memory_left q.memory_left)
