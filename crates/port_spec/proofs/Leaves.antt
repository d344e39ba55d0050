-- What an access that is done (number 0) leaves, by the cycle that it calls for: the words of the laws on single registers.
use Prim.Native.Nat.{ℕ}
use mathlib.Core.Path.{◌≡◌, refl, ap}
use mathlib.Core.Bool.{Bool, true, false, not}
use mathlib.Core.List.{List}
use Rattle.words.specs.Addresses.{word_at, stepped_from}
use Rattle.words.specs.Memory.{in_memory, fetch_at}
use Rattle.words.specs.declared.WordNumber.{WordNumber}
use Rattle.words.proofs.MemoryWords.{fetched_some, fetched_beyond}
use Rattle.registers.specs.Registers.{with_latch}
use Rattle.registers.specs.declared.Registers.{Registers}
use Rattle.port_spec.specs.Cycle.{stepped, cycle_of, brought, after_fetch, after_store, carried, shows, standing}
use Rattle.port_spec.specs.Host.{begin_access, done, access}
use Rattle.port_spec.specs.declared.Access.{Access}
use Rattle.port_spec.specs.declared.Cycle.TheVariants.{Empty}
use Rattle.port_spec.specs.declared.Due.TheVariants.{Fetch, Store}
use Rattle.port_spec.specs.declared.Outcome.{Outcome}
use Rattle.port_spec.proofs.Taken.{as_done}

-- the registers after a store of w: held, and the pointer stepped where s says so
abbrev pub after_storing : Registers → ℕ → Bool → Registers
after_storing r w s = record { pointer = stepped_from s r.pointer; latch = w; control = r.control; hollow = false }

-- A fetch at the pointer leaves the registers standing there.
pub fetched_here : (r : Registers) (m : List ℕ) →
    (after_fetch r (brought (fetch_at m (word_at r.pointer)))).registers ≡ standing m r.control r.pointer
unfolding after_fetch standing
fetched_here r m = ap (λ (there : Bool). with_latch r (shows m r.pointer) (not there)) (fetched_some m (word_at r.pointer))

-- A fetch leaves the registers standing at its address, stepped to or not.
pub fetch_leaves : (r : Registers) (m : List ℕ) (s : Bool) →
    (carried r (Fetch s) m).registers ≡ standing m r.control (stepped_from s r.pointer)
unfolding carried stepped
fetch_leaves r m s = fetched_here (stepped s r) m

-- A fetch beyond memory leaves FFFFh in HSTDATA, hollow, and is marked empty.
pub missed_leaves : (r : Registers) (m : List ℕ) (n : WordNumber) → in_memory m n ≡ false →
    after_fetch r (brought (fetch_at m n)) ≡ record { registers = with_latch r 0xffff true; cycle = Empty }
unfolding after_fetch cycle_of
missed_leaves r m n e = rw (fetched_beyond m n e) refl

-- A store leaves HSTDATA held, and then steps or not.
pub store_leaves : (r : Registers) (m : List ℕ) (s : Bool) → (carried r (Store s) m).registers ≡ after_storing r r.latch s
unfolding carried after_store stepped
store_leaves r m s = refl

-- The registers after an access that is done are those that its cycle leaves.
pub left_by : (r : Registers) (m : List ℕ) (a : Access) → (access r m a).answer.number ≡ 0 →
    (access r m a).registers ≡ (carried (begin_access r a).registers (begin_access r a).due m).registers
unfolding done
left_by r m a n = ap (λ (o : Outcome). o.registers) (as_done r m a n)
