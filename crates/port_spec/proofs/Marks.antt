-- What one deed leaves in HSTDATA, and the mark of its cycle: document 01, 'The four host registers' and 'The processor's side'.
-- By cases on the access, and on the tests that choose its cycle.
--   CycleLeaves, leaves  what an access that is done leaves: the mark of its cycle, HSTDATA's word and hollow mark
--   data_begun           HSTDATA with the bytes that the host lays there, before any cycle
--   data_put             HSTDATA after a write by the processor
--   judges, mark_shown   after each deed the onlooker judges right, and each answer shows that judgement
use Prim.Native.Nat.{ℕ}
use mathlib.Core.Path.{◌≡◌, refl, sym, ap, ◌∙◌}
use mathlib.Core.Bool.{Bool, true, false, cond, not, ◌&&◌, ◌||◌}
use mathlib.Core.List.{List}
use lib.Dec.{eqb, ltb}
use borrow.Author.Tests.{eqb-true, ne_eqb}
use Rattle.words.specs.Addresses.{word_at, stepped_from}
use Rattle.words.specs.Bytes.{replaced}
use Rattle.words.specs.Memory.{in_memory, fetch_at}
use Rattle.words.specs.declared.WordNumber.{WordNumber}
use Rattle.words.proofs.MemoryWords.{fetched_some}
use Rattle.control.specs.Control.{incw, incr, closes, fetches}
use Rattle.registers.specs.Registers.{written}
use Rattle.registers.specs.Processor.{processor_written, processor_writes}
use Rattle.registers.specs.declared.Registers.{Registers}
use Rattle.registers.specs.declared.ProcessorWrite.{ProcessorWrite}
use Rattle.port_spec.specs.Cycle.{stepped, cycle_of, brought, after_fetch, after_store, carried}
use Rattle.port_spec.specs.Host.{read_due, write_due, begin_access, done}
use Rattle.port_spec.specs.Sequences.{Machine, answer_of, after}
use Rattle.port_spec.specs.Deeds.{Deed, host, processor, reset, elsewhere, does, Content, content, reads_data, writes_data, has_cycle}
use Rattle.port_spec.specs.Deeds.{word_used, judged, expected, Shows}
use Rattle.port_spec.specs.declared.Access.{Access}
use Rattle.port_spec.specs.declared.Access.TheVariants.{Read, Write}
use Rattle.port_spec.specs.declared.Due.TheVariants.{Nothing, Fetch, Store}
use Rattle.port_spec.specs.declared.Cycle.TheVariants.{None}
use Rattle.port_spec.specs.declared.Carried.{Carried}
use Rattle.port_spec.specs.declared.Outcome.{Outcome}
use Rattle.port_spec.proofs.Taken.{either_done}

-- ---- the cycle

-- HSTDATA after a fetch of word n: hollow where memory does not have it
abbrev pub found : List ℕ → WordNumber → Content
found m n = record { word = (brought (fetch_at m n)).word; hollow = not (in_memory m n) }

-- HSTDATA after a store: the word that it has, held
abbrev pub kept : Registers → Content
kept r = record { word = r.latch; hollow = false }

-- c is what a cycle makes of registers r: `called` says whether there is one, `stores` whether it is a store or a fetch; n is its word
pub record CycleLeaves (r : Registers) (m : List ℕ) (called stores : Bool) (n : WordNumber) (c : Carried) : Type 0 where
  pub cycle : c.cycle ≡ cond called (cycle_of (in_memory m n)) None
  pub data_left : content c.registers ≡ cond called (cond stores (kept r) (found m n)) (content r)

module _ (r : Registers) (m : List ℕ) where
  -- The cycle of an access is at the word that it uses, a store for a write of HSTDATA, and else a fetch.
  pub leaves : (a : Access) →
      CycleLeaves (begin_access r a).registers m (has_cycle r a) (writes_data a) (word_used r a)
      (carried (begin_access r a).registers (begin_access r a).due m)
  unfolding begin_access read_due write_due has_cycle word_used carried after_fetch after_store stepped
  leaves (Read register lanes) = go (eqb register 2 && closes r.control lanes) (incr r.control)
    where
      go : (t s : Bool) → CycleLeaves r m t false (word_at (stepped_from s r.pointer)) (carried r (cond t (Fetch s) Nothing) m)
      go true s =
          let there = fetched_some m (word_at (stepped_from s r.pointer)) in
          record { cycle = rw there refl; data_left = rw there refl }
      go false s = record { cycle = refl; data_left = refl }
  leaves (Write register lanes w) =
      go (written r register lanes w) (closes r.control lanes) (eqb register 2) (fetches r.control register) (incw r.control) _
      refl
    where
      go : (q : Registers) (t b f s u : Bool) → (stepped u q).pointer ≡ q.pointer →
          CycleLeaves q m (t && (b || f)) b (word_at q.pointer)
          (carried q (cond t (cond b (Store s) (cond f (Fetch u) Nothing)) Nothing) m)
      go q true true f s u e = record { cycle = refl; data_left = refl }
      go q true false true s u e =
          let there = fetched_some m (word_at q.pointer) in
          record { cycle = rw (e, there); data_left = rw (e, there) }
      go q true false false s u e = record { cycle = refl; data_left = refl }
      go q false b f s u e = record { cycle = refl; data_left = refl }

-- ---- what is written to HSTDATA

-- what is so of either thing is so of the chosen one
chosen : {A B : Type 0} (f : A → B) (t : Bool) {x y : A} {z : B} → f x ≡ z → f y ≡ z → f (cond t x y) ≡ z
chosen f true p q = p
chosen f false p q = q

-- the word in HSTDATA with the bytes that an access writes there
abbrev pub laid_on : Access → ℕ → ℕ
laid_on (Read register lanes) old = old
laid_on (Write register lanes w) old = cond (eqb register 2) (replaced lanes old w) old

module _ (r : Registers) where
  -- Before any cycle only a write of HSTDATA changes it, and that leaves the hollow mark.
  pub data_begun : (a : Access) → content (begin_access r a).registers ≡ record { word = laid_on a r.latch; hollow = r.hollow }
  unfolding begin_access written
  data_begun (Read register lanes) = refl
  data_begun (Write register lanes w) = go (eqb register 2) refl
    where
      go : (t : Bool) → eqb register 2 ≡ t →
          content (written r register lanes w) ≡ record { word = cond t (replaced lanes r.latch w) r.latch; hollow = r.hollow }
      go true e = rw (eqb-true register 2 e)
      go false e = rw e (chosen content (ltb register 2) refl refl)

  -- The processor's write of HSTDATA clears the hollow mark; its other writes leave HSTDATA.
  pub data_put : (register w : ℕ) →
      content (processor_writes r register w).registers ≡ cond (eqb register 2) (record { word = w; hollow = false }) (content r)
  unfolding processor_writes processor_written begin_access
  data_put register w = go (eqb register 2) refl
    where
      go : (t : Bool) → eqb register 2 ≡ t →
          content (processor_writes r register w).registers ≡ cond t (record { word = w; hollow = false }) (content r)
      go true e = rw (eqb-true register 2 e)
      go false e =
          chosen (λ (x : ProcessorWrite). content x.registers) (ltb 4 register) refl
          (rw e (chosen content (ltb register 2) (rw e at (data_begun (Write register 3 w))) (chosen content (eqb register 3) refl refl)))

-- ---- the onlooker
judges_cycle : (r q : Registers) (m : List ℕ) (a : Access) (n : WordNumber) → q.hollow ≡ r.hollow → (called stores there : Bool) →
    writes_data a ≡ stores → in_memory m n ≡ there →
    (cond called (cond stores (kept q) (found m n)) (content q)).hollow ≡ judged r.hollow a (cond called (cycle_of there) None)
unfolding judged cycle_of
judges_cycle r q m a n k true true true e i = refl
judges_cycle r q m a n k true true false e i = rw e
judges_cycle r q m a n k true false true e i = rw i
judges_cycle r q m a n k true false false e i = rw (e, i)
judges_cycle r q m a n k false stores there e i = k

-- After each deed HSTDATA is hollow exactly if the onlooker expects it.
pub judges : (s : Machine) (d : Deed) → (does s d).registers.hollow ≡ expected s.registers.hollow s d
unfolding does expected after answer_of done judged
judges s (host a) =
    let r = s.registers in
    let m = s.memory in
    let hollow : Content → Bool = λ c. c.hollow in
    either_done r m a (λ (o : Outcome). o.registers.hollow ≡ judged r.hollow a o.answer.cycle)
    (ap hollow (leaves r m a).data_left ∙
    judges_cycle r (begin_access r a).registers m a (word_used r a) (ap hollow (data_begun r a)) (has_cycle r a) _ _ refl refl ∙
    ap (judged r.hollow a) (sym (leaves r m a).cycle))
    (λ _. refl)
judges s (processor register w) = ap (λ (c : Content). c.hollow) (data_put s.registers register w) ∙ go (eqb register 2)
  where
    go : (t : Bool) → (cond t (record { word = w; hollow = false }) (content s.registers)).hollow ≡ cond t false s.registers.hollow
    go true = refl
    go false = refl
judges s reset = refl
judges s (elsewhere m) = refl

begun_mark : (r : Registers) (a : Access) → (begin_access r a).hollow ≡ (reads_data a && r.hollow)
unfolding begin_access
begun_mark r (Read register lanes) = refl
begun_mark r (Write register lanes w) = refl

-- Each answer shows the mark that HSTDATA had, if it is to a read of it that is done, and else none.
pub mark_shown : (s : Machine) (d : Deed) → Shows s.registers.hollow s d
unfolding answer_of done
mark_shown s (host a) =
    either_done s.registers s.memory a
    (λ (o : Outcome). o.answer.hollow ≡ (eqb o.answer.number 0 && (reads_data a && s.registers.hollow)))
    (begun_mark s.registers a)
    (λ n. rw (ne_eqb _ _ n))
mark_shown s (processor register w) = tt
mark_shown s reset = tt
mark_shown s (elsewhere m) = tt
