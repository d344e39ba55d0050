-- Any two outcomes that a statement allows are one. The functions that are lent nothing to change state one equation each, and
-- `one_value` of crate words is their law.
use Prim.Native.Nat.{ℕ}
use mathlib.Core.Path.{◌≡◌}
use mathlib.Core.Bool.{Bool}
use mathlib.Core.List.{List}
use Rattle.words.specs.declared.WordNumber.{WordNumber}
use Rattle.words.proofs.One.{one_value}
use Rattle.registers.specs.declared.Registers.{Registers}
use Rattle.port_spec.specs.declared.Due.{Due}
use Rattle.port_spec.specs.declared.Carried.{Carried}
use Rattle.port_spec.specs.declared.Outcome.{Outcome}
use Rattle.door.specs.Parts.{StoredBytes, CycledBytes, Closed}

-- A store over bytes has one outcome.
pub one_stored : {b b' b'' : List ℕ} {n : WordNumber} {w : ℕ} {i j : Bool} →
    StoredBytes b n w i b' → StoredBytes b n w j b'' → (i ≡ j) × (b' ≡ b'')
one_stored p q = (one_value p.fell q.fell, one_value p.memory q.memory)

-- A cycle over bytes has one outcome.
pub one_cycled : {r : Registers} {due : Due} {b b' b'' : List ℕ} {c d : Carried} →
    CycledBytes r due b c b' → CycledBytes r due b d b'' → (c ≡ d) × (b' ≡ b'')
one_cycled p q = (one_value p.outcome q.outcome, one_value p.memory q.memory)

-- The closing of a call has one outcome.
pub one_closed : {o : Outcome} {v w : ℕ} {i j : List ℕ} → Closed o v i → Closed o w j → (v ≡ w) × (i ≡ j)
one_closed p q = (one_value p.answered q.answered, one_value p.image_left q.image_left)
