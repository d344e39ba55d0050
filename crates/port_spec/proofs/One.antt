-- Any two outcomes that a statement allows are one. The functions that are lent nothing to change state one equation each, and
-- `one_value` of crate words is their law.
use Prim.Native.Nat.{ℕ}
use mathlib.Core.Path.{◌≡◌}
use mathlib.Core.List.{List}
use Rattle.words.proofs.One.{one_value}
use Rattle.registers.specs.declared.Registers.{Registers}
use Rattle.port_spec.specs.Cycle.{Cycled}
use Rattle.port_spec.specs.Host.{Accessed}
use Rattle.port_spec.specs.declared.Access.{Access}
use Rattle.port_spec.specs.declared.Due.{Due}
use Rattle.port_spec.specs.declared.Carried.{Carried}
use Rattle.port_spec.specs.declared.Outcome.{Outcome}

-- A cycle has one outcome.
pub one_cycled : {r : Registers} {due : Due} {m m' m'' : List ℕ} {c d : Carried} →
    Cycled r due m c m' → Cycled r due m d m'' → (c ≡ d) × (m' ≡ m'')
one_cycled p q = (one_value p.outcome q.outcome, one_value p.memory q.memory)

-- An access by the host has one outcome.
pub one_accessed : {r : Registers} {m m' m'' : List ℕ} {a : Access} {o p : Outcome} →
    Accessed r m a o m' → Accessed r m a p m'' → (o ≡ p) × (m' ≡ m'')
one_accessed p q = (one_value p.outcome q.outcome, one_value p.memory q.memory)
