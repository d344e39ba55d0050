-- Register 2, HSTDATA, sentence by sentence: document 01, 'The four host registers', over any registers and memory.
-- By what the access leaves (`Leaves`), where the closing byte is selected and where it is not.
use Prim.Native.Nat.{ℕ}
use mathlib.Core.Path.{◌≡◌, refl, ap, ◌∙◌}
use mathlib.Core.Bool.{Bool, true, false, cond, ◌&&◌}
use mathlib.Core.List.{List}
use lib.Dec.{eqb}
use Rattle.words.specs.Addresses.{address, word_at}
use Rattle.words.specs.Bytes.{replaced}
use Rattle.words.specs.Memory.{store_at}
use Rattle.control.specs.Control.{incr, incw, closes}
use Rattle.registers.specs.Registers.{with_latch, written}
use Rattle.registers.specs.declared.Registers.{Registers}
use Rattle.port_spec.specs.Cycle.{carried, memory_after, standing}
use Rattle.port_spec.specs.Host.{read_due, write_due, begin_access, number_for, access, access_memory}
use Rattle.port_spec.specs.Deeds.{content, Says, ahead}
use Rattle.port_spec.specs.declared.Access.TheVariants.{Read, Write}
use Rattle.port_spec.specs.declared.Due.TheVariants.{Nothing, Fetch}
use Rattle.port_spec.proofs.Taken.{as_done_memory}
use Rattle.port_spec.proofs.NoMiss.{says}
use Rattle.port_spec.proofs.Leaves.{after_storing, fetch_leaves, store_leaves, left_by}

module _ (r : Registers) (m : List ℕ) where
  abbrev c : ℕ
  c = r.control

  module _ (lanes : ℕ) (n : (access r m (Read 2 lanes)).answer.number ≡ 0) where
    -- A read of HSTDATA that is done: "If the closing byte is selected, then: with INCR 1 the pointer gains 16; then a fetch". The step
    -- comes first, and HSTCTL stays.
    pub read_fetches : closes c lanes ≡ true → (access r m (Read 2 lanes)).registers ≡ standing m c (ahead r)
    unfolding begin_access read_due
    read_fetches e = left_by r m (Read 2 lanes) n ∙ rw e (fetch_leaves r m (incr c))

    -- A read of HSTDATA without the closing byte changes no register.
    pub read_open : closes c lanes ≡ false → (access r m (Read 2 lanes)).registers ≡ r
    unfolding begin_access read_due carried
    read_open e = left_by r m (Read 2 lanes) n ∙ rw e

  module _ (lanes w : ℕ) (n : (access r m (Write 2 lanes w)).answer.number ≡ 0) where
    -- A write of HSTDATA that is done, with the closing byte: "the whole of HSTDATA is stored at the pointer", with the written bytes in
    -- it, and at the pointer as it stood before any step.
    pub write_stores : closes c lanes ≡ true →
        access_memory r m (Write 2 lanes w) ≡ store_at m (word_at r.pointer) (replaced lanes r.latch w)
    unfolding begin_access write_due written memory_after
    write_stores e = as_done_memory r m (Write 2 lanes w) n ∙ rw e

    -- After a write of HSTDATA that is done, with the closing byte, "the hollow mark clears, then with INCW 1 the pointer gains 16",
    -- wherever the pointer was: HSTDATA is as written, held, and the pointer stepped where INCW is set.
    pub write_steps : closes c lanes ≡ true →
        (access r m (Write 2 lanes w)).registers ≡ after_storing r (replaced lanes r.latch w) (incw c)
    unfolding begin_access write_due written
    write_steps e = left_by r m (Write 2 lanes w) n ∙
        rw e (store_leaves (with_latch r (replaced lanes r.latch w) r.hollow) m (incw c))

    -- A write of HSTDATA that is done, without the closing byte, lays its byte into HSTDATA; the mark and the other registers stay.
    pub write_open : closes c lanes ≡ false →
        (access r m (Write 2 lanes w)).registers ≡ with_latch r (replaced lanes r.latch w) r.hollow
    unfolding begin_access write_due written carried
    write_open e = left_by r m (Write 2 lanes w) n ∙ rw e

  -- A read stores nothing, of HSTDATA or of any register, done or refused.
  pub read_keeps_memory : (k lanes : ℕ) → access_memory r m (Read k lanes) ≡ m
  unfolding access_memory begin_access read_due memory_after
  read_keeps_memory k lanes = go (eqb (number_for m (Read k lanes)) 0) (eqb k 2 && closes c lanes) _
    where
      go : (t u s : Bool) → cond t (memory_after r (cond u (Fetch s) Nothing) m) m ≡ m
      go true true s = refl
      go true false s = refl
      go false u s = refl

  -- "The pointer gains 16 modulo 2^32: after FFFFFFF0h comes 0": so goes the step of a read, before its fetch.
  pub read_wraps : (lanes : ℕ) → (access r m (Read 2 lanes)).answer.number ≡ 0 → closes c lanes ≡ true → incr c ≡ true →
      r.pointer ≡ address 0xfffffff0 →
      (access r m (Read 2 lanes)).registers ≡ standing m c (address 0)
  read_wraps lanes n e i p = read_fetches lanes n e ∙ rw (i, p)

  -- "The pointer gains 16 modulo 2^32: after FFFFFFF0h comes 0": so goes the step of a write, after its store.
  pub write_wraps : (lanes w : ℕ) → (access r m (Write 2 lanes w)).answer.number ≡ 0 → closes c lanes ≡ true → incw c ≡ true →
      r.pointer ≡ address 0xfffffff0 →
      (access r m (Write 2 lanes w)).registers.pointer ≡ address 0
  write_wraps lanes w n e i p = ap (λ (q : Registers). q.pointer) (write_steps lanes w n e) ∙ rw (i, p)

  -- "A read after a write that goes to memory instead of giving the written word" is a mistake: once its closing byte is written,
  -- HSTDATA is read back as it was written, held, on whatever lanes and whatever memory holds, also where the store was dropped.
  pub written_read_back : (lanes w : ℕ) → (access r m (Write 2 lanes w)).answer.number ≡ 0 → closes c lanes ≡ true →
      (m' : List ℕ) (lanes' : ℕ) → (access (access r m (Write 2 lanes w)).registers m' (Read 2 lanes')).answer.number ≡ 0 →
      Says (access (access r m (Write 2 lanes w)).registers m' (Read 2 lanes')).answer lanes'
      (record { word = replaced lanes r.latch w; hollow = false })
  written_read_back lanes w n e m' lanes' n' =
      says (access r m (Write 2 lanes w)).registers m' lanes' n' (ap content (write_steps lanes w n e))
