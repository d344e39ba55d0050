-- What a block wrote, a block reads back: the words lie in memory from the pointer's word on, and reading from there hands them
-- out, all held.
use Prim.Native.Nat.{ℕ, ◌+◌, ◌-◌, ◌*◌, ◌≤◌, ◌<◌}
use native.Mathlib.Omega.{arith}
use mathlib.Core.Path.{◌≡◌, sym, ap, ◌∙◌}
use mathlib.Core.Bool.{true}
use mathlib.Core.List.{List}
use mathlib.Core.Logic.{⊎_elim}
use lib.ListN.{length, get_or, drop, length-take, length-drop, get_or-eq_default}
use lib.Seq.{get_or-take, get_or-drop}
use Rattle.words.specs.Addresses.{word_at}
use Rattle.words.specs.Memory.{AreWords}
use Rattle.std.proofs.lemmas.Bool.{cases_lt}
use Rattle.control.specs.Control.{incr, incw}
use Rattle.registers.specs.declared.Registers.{Registers}
use Rattle.port_spec.specs.Table.{Memory, loaded, table, Lies}
use Rattle.port_spec.specs.Sequences.{machine}
use Rattle.block_spec.specs.Block.{block_number, list_part, with_list_part, block_write, memory_left, block_read, list_after}
use Rattle.block_spec.specs.Parts.{stepped_by, WrittenFrom, GoesStraight}
use Rattle.block_spec.specs.declared.BlockWrite.{BlockWrite}
use Rattle.block_spec.proofs.Numbers.{when, write_taken, memory_taken}
use Rattle.block_spec.proofs.Lent.{laid_length, laid_inside, laid_part, laid_before, laid_behind}
use Rattle.block_spec.proofs.Straight.{wrote, copied_write}
use Rattle.block_spec.proofs.EveryWordOfABlock.{every_word_of_a_block}

-- A block write with INCW set, of n words, one or more, that find room in memory from the pointer's word on: it is done, no store
-- falls empty, the words lie there, all else of memory stays, the control register stays, and the pointer stands just past them.
pub record Laid (r : Registers) (m l : List ℕ) (place n : ℕ) : Type 0 where
  pub number : (block_write r m l place n).number ≡ 0
  pub empties : (block_write r m l place n).empties ≡ 0
  pub control : (block_write r m l place n).registers.control ≡ r.control
  pub pointer : (block_write r m l place n).registers.pointer.0 ≡ r.pointer.0 + 16 * n
  pub words : table (memory_left r m l place n) r.pointer n ≡ list_part l place n
  pub before : (k : ℕ) → k < (word_at r.pointer).0 → get_or (memory_left r m l place n) k 0 ≡ get_or m k 0
  pub behind : (k : ℕ) → (word_at r.pointer).0 + n ≤ k → get_or (memory_left r m l place n) k 0 ≡ get_or m k 0
  pub size : length (memory_left r m l place n) ≡ length m

-- A block read of n words into l' at place', with registers q and memory m', of words that a block write took from l at `place`: it is
-- done, hands out those words, and counts none hollow.
pub record ReadBack (l : List ℕ) (place n : ℕ) (l' : List ℕ) (place' : ℕ) (q : Registers) (m' : List ℕ) : Type 0 where
  pub number : (block_read q m' l' place' n).number ≡ 0
  pub words : list_part (list_after q m' l' place' n) place' n ≡ list_part l place n
  pub hollows : (block_read q m' l' place' n).hollows ≡ 0

part_words : (l : List ℕ) (place n : ℕ) → AreWords l → AreWords (list_part l place n)
part_words l place n w j =
    let none : n ≤ j → length (list_part l place n) ≤ j = λ h. simp (length-take, length-drop) (omega arith) in
    ⊎_elim
    (λ h. rw (get_or-take n (drop place l) j 0 h ∙ get_or-drop place l j 0) (w (place + j)))
    (λ h. rw (get_or-eq_default (list_part l place n) 0 (none h)) (omega arith))
    (cases_lt j n)

module _ (r : Registers) (m l : List ℕ) (place n : ℕ) (k : Memory m) (i : incw r.control ≡ true) (w : AreWords l)
    (some : 0 < n) (most : n ≤ 4096) (room : place + n ≤ length l) (there : Lies m r.pointer n) where
  abbrev ws : List ℕ
  ws = list_part l place n

  abbrev x : ℕ
  x = (word_at r.pointer).0

  size_of : length ws ≡ n
  size_of = simp (length-take, length-drop) (omega arith)

  accepted : block_number m l place n ≡ 0
  accepted = (when (length m) (length l) place n).done.1 (k.size, most, room)

  written :
      WrittenFrom (machine r m) ws (record { registers = wrote r n (get_or ws (n - 1) 0); tallied = 0 }) (with_list_part m x n ws)
  written =
      let straight : GoesStraight (incw r.control) (word_at r.pointer) (length m) (length ws) =
      record { memory = k.size; some = rw size_of some; stepping = i; inside = rw size_of there }
      in
      rw size_of at (copied_write ws r m straight (part_words l place n w))

  memory_is : memory_left r m l place n ≡ with_list_part m x n ws
  memory_is = memory_taken r m l place n accepted ∙ sym written.memory

  no_wrap : (stepped_by n r.pointer).0 ≡ r.pointer.0 + 16 * n
  no_wrap = omega (arith, k.size)

  -- With INCW set, one or more words that find room in memory are laid there by a block write that its list does not refuse: no store falls
  -- empty, all other words of memory and HSTCTL stay, and the pointer stands just past them.
  pub words_laid : Laid r m l place n
  words_laid =
      let o = write_taken r m l place n accepted in
      record {
        number = ap (λ (b : BlockWrite). b.number) o;
        empties = ap (λ (b : BlockWrite). b.empties) o ∙ sym written.tallied;
        control = ap (λ (b : BlockWrite). b.registers.control) o ∙ ap (λ (q : Registers). q.control) (sym written.registers);
        pointer =
            ap (λ (b : BlockWrite). b.registers.pointer.0) o ∙ ap (λ (q : Registers). q.pointer.0) (sym written.registers) ∙
            no_wrap;
        words = rw memory_is (laid_part x n m ws there size_of);
        before = λ j h. rw memory_is (laid_before x n m ws there size_of j h);
        behind = λ j h. rw memory_is (laid_behind x n m ws there size_of j h);
        size = rw memory_is (laid_length x n m ws there size_of);
      }

  words_there : AreWords (memory_left r m l place n)
  words_there j =
      let inside : (d : ℕ) → d < n → get_or (memory_left r m l place n) (x + d) 0 < 65536 =
      λ d q. rw (memory_is, laid_inside x n m ws there size_of d q) (part_words l place n w d) in
      ⊎_elim
      (λ h. rw (words_laid.before j h) (k.words j))
      (λ h. ⊎_elim
      (λ q. let e : x + (j - x) ≡ j = omega arith in rw e at (inside (j - x) (omega arith)))
      (λ q. rw (words_laid.behind j q) (k.words j))
      (cases_lt j (x + n)))
      (cases_lt j x)

  -- With INCW and INCR set, words that a block write laid in memory are handed out by a block read from where they begin, none hollow, into
  -- any list with room for them.
  pub reads_back : incr r.control ≡ true → (l' : List ℕ) (place' : ℕ) → place' + n ≤ length l' →
      let t = machine (block_write r m l place n).registers (memory_left r m l place n) in
      ReadBack l place n l' place' (loaded t r.pointer).registers t.memory
  reads_back c l' place' q =
      let laid = words_laid in
      let t = machine (block_write r m l place n).registers (memory_left r m l place n) in
      let k' : Memory t.memory = record { size = rw laid.size k.size; words = words_there } in
      let c' : incr t.registers.control ≡ true = rw laid.control c in
      let again = every_word_of_a_block t k' c' r.pointer l' place' n (rw laid.size there) (most, q) in
      record { number = again.number; words = again.words ∙ laid.words; hollows = again.hollows }
