-- What the contract of an access by the host promises, said of any outcome that `Accessed` allows, with the call's own arguments: the
-- number when and only then; what a refusal returns and leaves; of an access that is done what is answered and left, register by register;
-- its cycle's mark. And of a cycle, of any outcome that `Cycled` allows. `CallAfterCall` goes on with calls in sequence.
use Prim.Native.Nat.{ℕ, ◌≤◌}
use mathlib.Core.Path.{◌≡◌, refl, sym, ap, ◌∙◌}
use mathlib.Core.Bool.{Bool, true, false, cond, ◌&&◌}
use mathlib.Core.List.{List}
use mathlib.Core.Logic.{◌≢◌}
use lib.ListN.{length}
use borrow.Author.Tests.{ne_eqb}
use Rattle.words.specs.Addresses.{word_at, stepped_from}
use Rattle.words.specs.Bytes.{replaced, shown}
use Rattle.words.specs.Memory.{in_memory, store_at}
use Rattle.words.proofs.Contracts.{Contract}
use Rattle.words.proofs.MemoryWords.{fetched_some}
use Rattle.control.specs.Control.{incw, closes, fetches, host_low, control_laid}
use Rattle.registers.specs.Registers.{with_latch, with_control, register_word, written}
use Rattle.registers.specs.declared.Registers.{Registers}
use Rattle.port_spec.specs.Cycle.{cycle_number, brought, stepped, cycle_of, after_fetch, after_store, carried, memory_after, Cycled, standing}
use Rattle.port_spec.specs.Host.{register_of, lanes_of, access, Accessed}
use Rattle.port_spec.specs.Deeds.{content, Says, writes_data, has_cycle, ahead, word_used}
use Rattle.port_spec.specs.declared.Access.{Access}
use Rattle.port_spec.specs.declared.Access.TheVariants.{Read, Write}
use Rattle.port_spec.specs.declared.Carried.{Carried}
use Rattle.port_spec.specs.declared.Cycle.TheVariants.{None, Inside, Empty}
use Rattle.port_spec.specs.declared.Due.TheVariants.{Nothing, Fetch, Store}
use Rattle.port_spec.specs.declared.Outcome.{Outcome}
use Rattle.port_spec.proofs.Numbers.{AccessWhen, numbered, refuses}
use Rattle.port_spec.proofs.HostTold.{read_answers, write_is_silent}
use Rattle.port_spec.proofs.OpenByte.{open_has_no_cycle, open_keeps_memory}
use Rattle.port_spec.proofs.Leaves.{after_storing, fetch_leaves, store_leaves}
use Rattle.port_spec.proofs.DataRegister.{read_fetches, read_open, write_stores, write_steps, write_open, read_keeps_memory}
use Rattle.port_spec.proofs.OtherRegisters.{read_changes_nothing, load_fetches, load_open, load_keeps_memory, control_written}
use Rattle.port_spec.proofs.FetchedFromOptionU16.from.Kinds as fetched_kinds
use Rattle.port_spec.proofs.FetchedFromOptionU16.from.Reads as fetched
use Rattle.port_spec.proofs.U32FromCycle.from.Kinds as from_kinds
use Rattle.port_spec.proofs.U32FromCycle.from.Reads as from
use Rattle.port_spec.proofs.NoMiss.{TrueMark, true_mark, rule, hollow_filler, miss_leaves}

-- ---- any access
module _ {r : Registers} {m : List ℕ} {a : Access} {o : Outcome} {m' : List ℕ} (k : Accessed r m a o m') where
  -- The number of an access is one of 0 to 3, each when, and only then (`AccessWhen`).
  pub returns_number : AccessWhen (length m) (register_of a) (lanes_of a) o.answer.number
  returns_number = rw k.outcome (numbered r m a)

  -- Refused, an access answers zeros, and leaves the registers and the memory.
  pub refused_access : o.answer.number ≢ 0 →
      (o.answer.word ≡ 0) × (o.answer.hollow ≡ false) × (o.answer.cycle ≡ None) × (o.registers ≡ r) × (m' ≡ m)
  refused_access d =
      let f = refuses r m a (λ z. d (ap (λ (x : Outcome). x.answer.number) k.outcome ∙ z)) in
      rw (k.outcome, k.memory) (f.word, f.hollow, f.cycle, f.registers, f.memory)

  -- Without the closing byte an access has no cycle, and leaves the memory.
  pub open_access : closes r.control (lanes_of a) ≡ false → (o.answer.cycle ≡ None) × (m' ≡ m)
  open_access e = rw (k.outcome, k.memory) (open_has_no_cycle r m a e, open_keeps_memory r m a e)

  -- Done, the cycle of an access is marked inside exactly if one was called for and its word is in the lent memory, empty exactly if one
  -- was called for and its word isn't, and none exactly if none was called for.
  pub marks_its_cycle : o.answer.number ≡ 0 → TrueMark o.answer.cycle (has_cycle r a) (in_memory m (word_used r a))
  marks_its_cycle z =
      rw k.outcome (true_mark r m a (sym (ap (λ (x : Outcome). x.answer.number) k.outcome) ∙ z))

  -- A fetch that missed memory leaves FFFFh in HSTDATA, and hollow.
  pub miss_shows : writes_data a ≡ false → o.answer.cycle ≡ Empty → content o.registers ≡ hollow_filler
  miss_shows w e =
      ap (λ (x : Outcome). content x.registers) k.outcome ∙
      miss_leaves r m a w (sym (ap (λ (x : Outcome). x.answer.cycle) k.outcome) ∙ e)

-- the number, of the definition
done_there : {r : Registers} {m : List ℕ} {a : Access} {o : Outcome} {m' : List ℕ} → Accessed r m a o m' → o.answer.number ≡ 0 →
    (access r m a).answer.number ≡ 0
done_there k z = sym (ap (λ (x : Outcome). x.answer.number) k.outcome) ∙ z

-- ---- a read
module _ {r : Registers} {m : List ℕ} {register lanes : ℕ} {o : Outcome} {m' : List ℕ} (k : Accessed r m (Read register lanes) o m') where
  -- A read, done or refused, leaves the memory.
  pub read_leaves_memory : m' ≡ m
  read_leaves_memory = k.memory ∙ read_keeps_memory r m register lanes

  -- A read that is done answers its register's word as it stood, on the lanes asked for, an unselected byte 0.
  pub read_hands_out : o.answer.number ≡ 0 → o.answer.word ≡ shown lanes (register_word r register)
  read_hands_out z = ap (λ (x : Outcome). x.answer.word) k.outcome ∙ read_answers r m register lanes (done_there k z)

  -- "Reading registers 0, 1 and 3 changes nothing", and has no cycle.
  pub read_of_others : register ≢ 2 → (o.registers ≡ r) × (o.answer.cycle ≡ None)
  read_of_others d =
      let q = read_changes_nothing r m register lanes d in
      rw k.outcome (q.registers, q.cycle)

-- a read of HSTDATA that is done
module _ {r : Registers} {m : List ℕ} {lanes : ℕ} {o : Outcome} {m' : List ℕ} (k : Accessed r m (Read 2 lanes) o m')
    (z : o.answer.number ≡ 0) where
  -- A read of HSTDATA that is done hands out the word that was held, on its lanes, and says whether that was filler.
  pub hands_out_the_held_word : Says o.answer lanes (content r)
  hands_out_the_held_word =
      let q = rule r m lanes (done_there k z) in
      rw k.outcome (record { word = q.word; hollow = q.hollow })

  -- A read of HSTDATA that is done, with the closing byte: "with INCR 1 the pointer gains 16; then a fetch"; the registers stand at the
  -- word ahead.
  pub read_then_fetches : closes r.control lanes ≡ true → o.registers ≡ standing m r.control (ahead r)
  read_then_fetches e = ap (λ (x : Outcome). x.registers) k.outcome ∙ read_fetches r m lanes (done_there k z) e

  -- Without the closing byte a read of HSTDATA changes no register.
  pub read_stays : closes r.control lanes ≡ false → o.registers ≡ r
  read_stays e = ap (λ (x : Outcome). x.registers) k.outcome ∙ read_open r m lanes (done_there k z) e

-- ---- a write
module _ {r : Registers} {m : List ℕ} {register lanes w : ℕ} {o : Outcome} {m' : List ℕ}
    (k : Accessed r m (Write register lanes w) o m') where
  -- A write, done or refused, answers no word and no hollow mark.
  pub write_answers_nothing : (o.answer.word ≡ 0) × (o.answer.hollow ≡ false)
  write_answers_nothing =
      let q = write_is_silent r m register lanes w in
      rw k.outcome (q.word, q.hollow)

  -- a write of a register but HSTDATA that is done
  module _ (d : register ≢ 2) (z : o.answer.number ≡ 0) where
    -- A write of another register than HSTDATA leaves the memory.
    pub write_leaves_memory : m' ≡ m
    write_leaves_memory = k.memory ∙ load_keeps_memory r m register lanes w (ne_eqb register 2 d) (done_there k z)

    -- A write that is done, with the closing byte, of the half that fetches: "memory is fetched at the new pointer. This fetch doesn't
    -- increment, whatever INCR says".
    pub load_then_fetches : closes r.control lanes ≡ true → fetches r.control register ≡ true →
        o.registers ≡ standing m (written r register lanes w).control (written r register lanes w).pointer
    load_then_fetches e f =
        ap (λ (x : Outcome). x.registers) k.outcome ∙
        load_fetches r m register lanes w (ne_eqb register 2 d) (done_there k z) e f

    -- A write of a register but HSTDATA that is done, without the closing byte or of one that does not fetch, replaces the selected bytes
    -- of its register, and no more.
    pub write_replaces : (closes r.control lanes && fetches r.control register) ≡ false → o.registers ≡ written r register lanes w
    write_replaces e =
        ap (λ (x : Outcome). x.registers) k.outcome ∙
        load_open r m register lanes w (ne_eqb register 2 d) (done_there k z) e

-- A write of HSTCTL that is done changes its selected bytes by the host's rule, and no other register.
pub write_of_control : {r : Registers} {m : List ℕ} {lanes w : ℕ} {o : Outcome} {m' : List ℕ} → Accessed r m (Write 3 lanes w) o m' →
    o.answer.number ≡ 0 → o.registers ≡ with_control r (control_laid host_low lanes r.control w)
write_of_control {r} {m} {lanes} {w} k z =
    ap (λ (x : Outcome). x.registers) k.outcome ∙ control_written r m lanes w (done_there k z)

-- a write of HSTDATA that is done
module _ {r : Registers} {m : List ℕ} {lanes w : ℕ} {o : Outcome} {m' : List ℕ} (k : Accessed r m (Write 2 lanes w) o m')
    (z : o.answer.number ≡ 0) where
  -- A write of HSTDATA that is done, with the closing byte: "the whole of HSTDATA is stored at the pointer", as it stood before any step.
  pub write_then_stores : closes r.control lanes ≡ true → m' ≡ store_at m (word_at r.pointer) (replaced lanes r.latch w)
  write_then_stores e = k.memory ∙ write_stores r m lanes w (done_there k z) e

  -- After a write of HSTDATA that is done, with the closing byte, "the hollow mark clears, then with INCW 1 the pointer gains 16".
  pub write_then_steps : closes r.control lanes ≡ true → o.registers ≡ after_storing r (replaced lanes r.latch w) (incw r.control)
  write_then_steps e = ap (λ (x : Outcome). x.registers) k.outcome ∙ write_steps r m lanes w (done_there k z) e

  -- A write of HSTDATA that is done, without the closing byte, lays its byte into HSTDATA; the mark and the other registers stay.
  pub write_stays_open : closes r.control lanes ≡ false → o.registers ≡ with_latch r (replaced lanes r.latch w) r.hollow
  write_stays_open e = ap (λ (x : Outcome). x.registers) k.outcome ∙ write_open r m lanes w (done_there k z) e

-- ---- a cycle that is due, done by itself
module _ {r : Registers} {m : List ℕ} {c : Carried} {m' : List ℕ} where
  -- Where no cycle is due, nothing changes, and none is marked.
  pub no_cycle_done : Cycled r Nothing m c m' → (c.registers ≡ r) × (c.cycle ≡ None) × (m' ≡ m)
  unfolding carried memory_after
  no_cycle_done k = rw (k.outcome, k.memory) (refl, refl, refl)

  -- A fetch leaves the registers standing at its address, stepped to or not, is marked by whether its word is there, and leaves the memory.
  pub fetch_done : {s : Bool} → Cycled r (Fetch s) m c m' →
      (c.registers ≡ standing m r.control (stepped_from s r.pointer))
      × (c.cycle ≡ cond (in_memory m (word_at (stepped_from s r.pointer))) Inside Empty)
      × (m' ≡ m)
  unfolding carried memory_after after_fetch stepped cycle_of
  fetch_done {s} k = (
    ap (λ (x : Carried). x.registers) k.outcome ∙ fetch_leaves r m s,
    ap (λ (x : Carried). x.cycle) k.outcome ∙ ap cycle_of (fetched_some m (word_at (stepped_from s r.pointer))),
    k.memory,
  )

  -- A store leaves HSTDATA held, and steps or not, is marked by whether its word is there, and stores HSTDATA at the pointer.
  pub store_done : {s : Bool} → Cycled r (Store s) m c m' →
      (c.registers ≡ after_storing r r.latch s)
      × (c.cycle ≡ cond (in_memory m (word_at r.pointer)) Inside Empty)
      × (m' ≡ store_at m (word_at r.pointer) r.latch)
  unfolding carried memory_after after_store cycle_of
  store_done {s} k =
      (ap (λ (x : Carried). x.registers) k.outcome ∙ store_leaves r m s, ap (λ (x : Carried). x.cycle) k.outcome, k.memory)

-- ---- what a fetch brings
-- `Fetched::from` takes any found, a word or none, and all that its contract allows is `brought` of it.
pub fetched_contract : Contract fetched_kinds.ps fetched_kinds.r fetched.Pre fetched.Post
    (λ κs args f left.
    let found = args.0 in
    f ≡ brought found)
fetched_contract = record { takes_any = λ κs args. tt; says = λ κs args f left p. p }

-- ---- the number of a cycle
-- `u32::from` takes any c, a cycle, and all that its contract allows is `cycle_number` of it, at most 2.
pub number_of_cycle_contract : Contract from_kinds.ps from_kinds.r from.Pre from.Post
    (λ κs args n left.
    let c = args.0 in
    (n ≡ cycle_number c) × (n ≤ 2))
number_of_cycle_contract = record { takes_any = λ κs args. tt; says = λ κs args n left p. p }
