-- One access by the host that updates the bench's register record in place: document 01, 'Blocks and the two doors'.
--   AccessedInPlace   what such an access leaves: its answer, the record and the memory
use Rattle.std.specs.Prelude.{ℕ, List, ◌≡◌}
use Rattle.registers.specs.declared.Registers.{Registers}
use Rattle.port_spec.specs.Host.{access, access_memory}
use Rattle.port_spec.specs.declared.Access.{Access}
use Rattle.port_spec.specs.declared.Answer.{Answer}

-- "The bench keeps one register record for the day; besides the form by value, a single host access updates that record in
-- place": r and m are the record and the memory at entry, r' and m' the same at exit, x the answer
pub record AccessedInPlace (r : Registers) (m : List ℕ) (a : Access) (x : Answer) (r' : Registers) (m' : List ℕ) : Type 0 where
  pub answer : x ≡ (access r m a).answer
  pub registers : r' ≡ (access r m a).registers
  pub memory : m' ≡ access_memory r m a
