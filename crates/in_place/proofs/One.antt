-- Any two outcomes that a statement allows are one. For `host_access_by_lending`, which states what `port::host_access` does,
-- `one_accessed` of crate port_spec is that law.
use Prim.Native.Nat.{ℕ}
use mathlib.Core.Path.{◌≡◌}
use mathlib.Core.List.{List}
use Rattle.words.proofs.One.{one_value}
use Rattle.in_place.specs.InPlace.{AccessedInPlace}
use Rattle.registers.specs.declared.Registers.{Registers}
use Rattle.port_spec.specs.declared.Access.{Access}
use Rattle.port_spec.specs.declared.Answer.{Answer}

-- An access in place has one answer, and leaves one record and one memory.
pub one_in_place : {r r' r'' : Registers} {m m' m'' : List ℕ} {a : Access} {x y : Answer} →
    AccessedInPlace r m a x r' m' → AccessedInPlace r m a y r'' m'' → (x ≡ y) × (r' ≡ r'') × (m' ≡ m'')
one_in_place p q =
    (one_value p.answer q.answer, one_value p.registers q.registers, one_value p.memory q.memory)
