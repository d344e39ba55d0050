-- Without its closing byte an access starts no cycle: document 01, "The closing byte is ..", "If the closing byte is selected ..".
-- An access that calls for none has none, and leaves the memory, whether it is done or refused.
use Prim.Native.Nat.{ℕ}
use mathlib.Core.Path.{◌≡◌, refl}
use mathlib.Core.Bool.{Bool, true, false, cond, ◌&&◌}
use mathlib.Core.List.{List}
use lib.Dec.{eqb}
use Rattle.control.specs.Control.{closes}
use Rattle.registers.specs.declared.Registers.{Registers}
use Rattle.port_spec.specs.Cycle.{carried, memory_after}
use Rattle.port_spec.specs.Host.{read_due, write_due, begin_access, lanes_of, number_for, done, access, access_memory}
use Rattle.port_spec.specs.declared.Access.{Access}
use Rattle.port_spec.specs.declared.Access.TheVariants.{Read, Write}
use Rattle.port_spec.specs.declared.Cycle.TheVariants.{None}
use Rattle.port_spec.specs.declared.Due.{Due}
use Rattle.port_spec.specs.declared.Due.TheVariants.{Nothing}
use Rattle.port_spec.specs.declared.Outcome.{Outcome}
use Rattle.port_spec.proofs.Taken.{either_done}

module _ (r : Registers) (m : List ℕ) (a : Access) (e : (begin_access r a).due ≡ Nothing) where
  -- An access that calls for no cycle has none.
  pub uncalled_cycle : (access r m a).answer.cycle ≡ None
  unfolding done carried
  uncalled_cycle = either_done r m a (λ (o : Outcome). o.answer.cycle ≡ None) (rw e) (λ _. refl)

  -- An access that calls for no cycle leaves the registers, if it wrote to none.
  pub uncalled_registers : (begin_access r a).registers ≡ r → (access r m a).registers ≡ r
  unfolding done carried
  uncalled_registers s = either_done r m a (λ (o : Outcome). o.registers ≡ r) (rw e s) (λ _. refl)

  -- An access that calls for no cycle leaves the memory.
  pub uncalled_memory : access_memory r m a ≡ m
  unfolding access_memory memory_after
  uncalled_memory = go (eqb (number_for m a) 0)
    where
      go : (t : Bool) → cond t (memory_after (begin_access r a).registers (begin_access r a).due m) m ≡ m
      go true = rw e
      go false = refl

-- Without the closing byte no cycle is called for.
pub open_calls_none : (r : Registers) (a : Access) → closes r.control (lanes_of a) ≡ false → (begin_access r a).due ≡ Nothing
unfolding begin_access read_due write_due
open_calls_none r (Read k lanes) e = rw e (go (eqb k 2) _)
  where
    go : (t : Bool) (d : Due) → cond (t && false) d Nothing ≡ Nothing
    go true d = refl
    go false d = refl
open_calls_none r (Write k lanes w) e = rw e

-- "Starting the cycle on the first byte" is a mistake: an access without the closing byte has no cycle.
pub open_has_no_cycle : (r : Registers) (m : List ℕ) (a : Access) → closes r.control (lanes_of a) ≡ false →
    (access r m a).answer.cycle ≡ None
open_has_no_cycle r m a e = uncalled_cycle r m a (open_calls_none r a e)

-- An access without the closing byte leaves the memory.
pub open_keeps_memory : (r : Registers) (m : List ℕ) (a : Access) → closes r.control (lanes_of a) ≡ false → access_memory r m a ≡ m
open_keeps_memory r m a e = uncalled_memory r m a (open_calls_none r a e)
