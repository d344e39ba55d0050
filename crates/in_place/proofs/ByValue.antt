-- The access in place and the access by value are one access: what either states, the other states of the same answer, record and
-- memory.
use Prim.Native.Nat.{ℕ}
use mathlib.Core.Path.{ap, ◌∙◌}
use mathlib.Core.List.{List}
use Rattle.registers.specs.declared.Registers.{Registers}
use Rattle.port_spec.specs.Host.{access, Accessed}
use Rattle.port_spec.specs.declared.Access.{Access}
use Rattle.port_spec.specs.declared.Answer.{Answer}
use Rattle.port_spec.specs.declared.Outcome.{Outcome}
use Rattle.in_place.specs.InPlace.{AccessedInPlace}

-- an answer and a record, as the access by value returns them
abbrev pub returned : Answer → Registers → Outcome
returned x r = record { answer = x; registers = r }

-- What the access by value leaves, put into the record, is what the access in place leaves.
pub by_value_in_place : {r : Registers} {m m' : List ℕ} {a : Access} {o : Outcome} →
    Accessed r m a o m' → AccessedInPlace r m a o.answer o.registers m'
by_value_in_place e =
    record {
      answer = ap (λ (o : Outcome). o.answer) e.outcome;
      registers = ap (λ (o : Outcome). o.registers) e.outcome;
      memory = e.memory;
    }

-- What the access in place answers and leaves in the record is the outcome of the access by value.
pub in_place_by_value : {r r' : Registers} {m m' : List ℕ} {a : Access} {x : Answer} →
    AccessedInPlace r m a x r' m' → Accessed r m a (returned x r') m'
in_place_by_value {r} {r'} {m} {m'} {a} {x} e =
    record {
      outcome =
          ap (λ (y : Answer). returned y r') e.answer ∙
          ap (λ (q : Registers). returned (access r m a).answer q) e.registers;
      memory = e.memory;
    }
