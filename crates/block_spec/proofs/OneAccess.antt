-- One access of a block that is not refused, both bytes of HSTDATA: document 01, 'The four host registers', as the block's
-- loops do it. By what crate port_spec says of register 2.
use Prim.Native.Nat.{ℕ, ◌≤◌, ◌<◌}
use native.Mathlib.Nat.{add-zero}
use native.Mathlib.Omega.{arith}
use mathlib.Core.Path.{◌≡◌, refl, sym, ap, ◌∙◌}
use mathlib.Core.Bool.{Bool, true, false, not}
use mathlib.Core.List.{List, [], ◌∷◌}
use mathlib.Core.Logic.{⊎_elim}
use lib.ListN.{length}
use Rattle.words.specs.Addresses.{word_at}
use Rattle.words.specs.Memory.{in_memory, store_at}
use Rattle.std.proofs.lemmas.Bool.{cases_Bool}
use Rattle.words.proofs.Lanes.{shown_whole, replaced_whole}
use Rattle.control.specs.Control.{incw}
use Rattle.control.proofs.ClosingByte.{both_close}
use Rattle.registers.specs.Registers.{with_latch, written}
use Rattle.registers.specs.declared.Registers.{Registers}
use Rattle.port_spec.specs.Cycle.{standing, stepped}
use Rattle.port_spec.specs.Deeds.{ahead, has_cycle, word_used}
use Rattle.port_spec.specs.Host.{access}
use Rattle.port_spec.specs.Sequences.{machine, answer_of, after, answers, ends}
use Rattle.port_spec.specs.Table.{reading}
use Rattle.port_spec.specs.declared.Access.TheVariants.{Read, Write}
use Rattle.port_spec.proofs.Numbers.{numbered}
use Rattle.port_spec.proofs.NoMiss.{rule, true_mark}
use Rattle.port_spec.proofs.Leaves.{after_storing}
use Rattle.port_spec.proofs.DataRegister.{read_fetches, write_stores, write_steps}
use Rattle.block_spec.specs.Block.{counted, tally, is_empty}
use Rattle.block_spec.specs.Parts.{ReadInto, WrittenFrom}

module _ (r : Registers) (m : List ℕ) (few : length m ≤ 32768) where
  -- ---- a read
  -- With a memory of at most 32,768 words, a read of both bytes of HSTDATA is not refused.
  pub read_accepted : (access r m (Read 2 3)).answer.number ≡ 0
  read_accepted = (numbered r m (Read 2 3)).done.1 (few, omega arith, omega arith, omega arith)

  -- With a memory of at most 32,768 words, a read of both bytes of HSTDATA hands out the word that is held, with its mark, and then
  -- fetches.
  pub one_read : r.latch < 65536 →
      ReadInto (machine r m) 1 (record { registers = standing m r.control (ahead r); tallied = counted r.hollow }) (r.latch ∷ [])
  unfolding reading answers ends tally answer_of after
  one_read h =
      let says = rule r m 3 read_accepted in
      record {
        registers = sym (read_fetches r m 3 read_accepted (both_close r.control));
        tallied = ap (λ (b : Bool). counted b) (sym says.hollow) ∙ sym (add-zero _);
        words = ap (λ (w : ℕ). w ∷ []) (sym (says.word ∙ shown_whole r.latch h));
      }

  -- ---- a write
  module _ (w : ℕ) (h : w < 65536) where
    -- With a memory of at most 32,768 words, a write of both bytes of HSTDATA is not refused.
    pub write_accepted : (access r m (Write 2 3 w)).answer.number ≡ 0
    write_accepted = (numbered r m (Write 2 3 w)).done.1 (few, omega arith, omega arith, omega arith)

    -- Its store fell empty exactly if the pointer's word is not in memory.
    falls : is_empty (access r m (Write 2 3 w)).answer.cycle ≡ not (in_memory m (word_at r.pointer))
    unfolding has_cycle word_used written
    falls =
        let told = true_mark r m (Write 2 3 w) write_accepted in
        let called : has_cycle r (Write 2 3 w) ≡ true = rw (both_close r.control) refl in
        ⊎_elim
        (λ e. rw (told.inside.1 (called, e), e) refl)
        (λ e. rw (told.empty.1 (called, e), e) refl)
        (cases_Bool (in_memory m (word_at r.pointer)))

    -- With a memory of at most 32,768 words, a write of both bytes of HSTDATA stores the word, holds it, and then steps where INCW is set;
    -- beyond memory the store falls empty.
    pub one_write :
        WrittenFrom (machine r m) (w ∷ [])
        (record {
          registers = stepped (incw r.control) (with_latch r w false);
          tallied = counted (not (in_memory m (word_at r.pointer)));
        })
        (store_at m (word_at r.pointer) w)
    unfolding answers ends tally answer_of after stepped
    one_write =
        let whole = replaced_whole r.latch w h in
        let closing = both_close r.control in
        record {
          registers = sym (write_steps r m 3 w write_accepted closing ∙ ap (λ (x : ℕ). after_storing r x (incw r.control)) whole);
          tallied = ap (λ (b : Bool). counted b) (sym falls) ∙ sym (add-zero _);
          memory = sym (write_stores r m 3 w write_accepted closing ∙ ap (store_at m (word_at r.pointer)) whole);
        }
