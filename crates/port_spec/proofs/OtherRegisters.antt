-- Registers 0, 1 and 3, sentence by sentence: document 01, 'The four host registers', over any registers and memory.
-- By what the access leaves (`Leaves`); a write of these registers stores nothing, and a read of them does nothing at all.
use Prim.Native.Nat.{ℕ}
use mathlib.Core.Path.{◌≡◌, refl, sym, ◌∙◌}
use mathlib.Core.Bool.{Bool, true, false, false≢true, cond, ◌&&◌}
use mathlib.Core.List.{List}
use mathlib.Core.Logic.{◌≢◌}
use lib.Dec.{eqb}
use borrow.Author.Tests.{ne_eqb}
use Rattle.control.specs.Control.{lbl, closes, fetches, host_low, control_laid}
use Rattle.registers.specs.Registers.{with_control, written}
use Rattle.registers.specs.declared.Registers.{Registers}
use Rattle.port_spec.specs.Cycle.{carried, memory_after, standing}
use Rattle.port_spec.specs.Host.{read_due, write_due, begin_access, access, access_memory}
use Rattle.port_spec.specs.declared.Access.{Access}
use Rattle.port_spec.specs.declared.Access.TheVariants.{Read, Write}
use Rattle.port_spec.specs.declared.Cycle.TheVariants.{None}
use Rattle.port_spec.specs.declared.Due.{Due}
use Rattle.port_spec.specs.declared.Due.TheVariants.{Nothing, Fetch}
use Rattle.port_spec.proofs.Taken.{as_done_memory}
use Rattle.port_spec.proofs.OpenByte.{uncalled_cycle, uncalled_memory, uncalled_registers}
use Rattle.port_spec.proofs.Leaves.{fetch_leaves, left_by}

module _ (r : Registers) (m : List ℕ) where
  abbrev c : ℕ
  c = r.control

  module _ (k lanes w : ℕ) (h : eqb k 2 ≡ false) (n : (access r m (Write k lanes w)).answer.number ≡ 0) where
    -- A write, with the closing byte, of the half that fetches: "memory is fetched at the new pointer. This fetch doesn't increment,
    -- whatever INCR says." What is found there is left in HSTDATA.
    pub load_fetches : closes c lanes ≡ true → fetches c k ≡ true →
        (access r m (Write k lanes w)).registers ≡ standing m (written r k lanes w).control (written r k lanes w).pointer
    unfolding begin_access write_due
    load_fetches e f = left_by r m (Write k lanes w) n ∙ rw (e, h, f) (fetch_leaves (written r k lanes w) m false)

    load_calls_none : (closes c lanes && fetches c k) ≡ false → (begin_access r (Write k lanes w)).due ≡ Nothing
    unfolding begin_access write_due
    load_calls_none e = rw h (go (closes c lanes) (fetches c k) _ e)
      where
        go : (t u : Bool) (d : Due) → (t && u) ≡ false → cond t (cond u d Nothing) Nothing ≡ Nothing
        go true true d e = absurd (false≢true (sym e))
        go true false d e = refl
        go false u d e = refl

    -- A write of register 0, 1 or 3 without the closing byte, or of one that does not fetch, starts no cycle.
    pub load_has_no_cycle : (closes c lanes && fetches c k) ≡ false → (access r m (Write k lanes w)).answer.cycle ≡ None
    load_has_no_cycle e = uncalled_cycle r m (Write k lanes w) (load_calls_none e)

    -- A write of register 0, 1 or 3 that is done, without the closing byte or of one that does not fetch, leaves the registers as written,
    -- and no more.
    pub load_open : (closes c lanes && fetches c k) ≡ false → (access r m (Write k lanes w)).registers ≡ written r k lanes w
    unfolding begin_access carried
    load_open e = left_by r m (Write k lanes w) n ∙ rw (load_calls_none e)

    -- No write of registers 0, 1 and 3 stores to memory.
    pub load_keeps_memory : access_memory r m (Write k lanes w) ≡ m
    unfolding begin_access write_due memory_after
    load_keeps_memory = as_done_memory r m (Write k lanes w) n ∙ rw h (go (closes c lanes) (fetches c k) _)
      where
        go : (t u s : Bool) → memory_after (written r k lanes w) (cond t (cond u (Fetch s) Nothing) Nothing) m ≡ m
        go true true s = refl
        go true false s = refl
        go false u s = refl

  reads_quietly : (k lanes : ℕ) → eqb k 2 ≡ false → (begin_access r (Read k lanes)).due ≡ Nothing
  unfolding begin_access read_due
  reads_quietly k lanes e = rw e

  -- "Reading registers 0, 1 and 3 changes nothing", and starts no cycle.
  pub record ReadLeaves (a : Access) : Type 0 where
    pub registers : (access r m a).registers ≡ r
    pub memory : access_memory r m a ≡ m
    pub cycle : (access r m a).answer.cycle ≡ None

  -- A read of any register but HSTDATA, done or refused, changes neither registers nor memory, and has no cycle.
  pub read_changes_nothing : (k lanes : ℕ) → k ≢ 2 → ReadLeaves (Read k lanes)
  unfolding begin_access
  read_changes_nothing k lanes h =
      let e = reads_quietly k lanes (ne_eqb k 2 h) in
      record {
        registers = uncalled_registers r m (Read k lanes) e refl;
        memory = uncalled_memory r m (Read k lanes) e;
        cycle = uncalled_cycle r m (Read k lanes) e;
      }

  -- "Writing register 3" changes the selected bytes of HSTCTL by the host's rule, and no other register.
  pub control_written : (lanes w : ℕ) → (access r m (Write 3 lanes w)).answer.number ≡ 0 →
      (access r m (Write 3 lanes w)).registers ≡ with_control r (control_laid host_low lanes c w)
  unfolding written fetches
  control_written lanes w n = load_open 3 lanes w refl n (go (closes c lanes) (lbl c))
    where
      go : (t b : Bool) → (t && cond b false false) ≡ false
      go true true = refl
      go true false = refl
      go false b = refl
