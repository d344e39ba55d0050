-- Demand 3 for blocks: a block of any permitted length ends like its single accesses, place by place. Document 01, 'Blocks and the two
-- doors'. The definitions take the accesses as one run; here the run is taken apart, by its length. `Promised` says the same of calls, by
-- words and by bytes.
use Prim.Native.Nat.{ℕ, zero, suc, ◌+◌, ◌<◌, ◌≤◌}
use native.Mathlib.Omega.{arith}
use mathlib.Core.Path.{◌≡◌, refl, sym, ap, ◌∙◌}
use mathlib.Core.Bool.{true, false≢true}
use mathlib.Core.List.{List, [], ◌∷◌}
use mathlib.Core.Logic.{◌↔◌}
use lib.ListN.{length, get_or, drop, length-drop, length-take}
use lib.Seq.{get_or-drop, get_or-take}
use Rattle.registers.specs.declared.Registers.{Registers}
use Rattle.port_spec.specs.Sequences.{Machine, machine, words_in, answer_of, after, answers, ends}
use Rattle.port_spec.specs.Table.{reading}
use Rattle.port_spec.specs.declared.Access.TheVariants.{Read, Write}
use Rattle.port_spec.specs.declared.Cycle.{Cycle}
use Rattle.port_spec.specs.declared.Cycle.TheVariants.{None, Inside, Empty}
use Rattle.block_spec.specs.Block.{writing, list_part, counted, tally, hollows_in, is_empty, empties_in}
use Rattle.block_spec.specs.Block.{block_read, list_after, block_write, memory_left}
use Rattle.block_spec.specs.InPlainWords.{kth_read, kth_write, number_below}
use Rattle.block_spec.specs.declared.BlockRead.{BlockRead}
use Rattle.block_spec.specs.declared.BlockWrite.{BlockWrite}
use Rattle.block_spec.proofs.Numbers.{when, read_number, read_taken, list_taken, write_number, write_taken, memory_taken}
use Rattle.block_spec.proofs.Lent.{laid_length, laid_inside, laid_part, laid_before, laid_behind}
use Rattle.port_spec.proofs.Joined.{reads_keep_memory, filled_length}

-- ---- what is counted
-- A store is counted exactly if its cycle is marked empty.
pub counts_the_empty : (c : Cycle) → is_empty c ≡ true ↔ c ≡ Empty
counts_the_empty None = (λ e. absurd (false≢true e), λ e. absurd (false≢true (cc)))
counts_the_empty Inside = (λ e. absurd (false≢true e), λ e. absurd (false≢true (cc)))
counts_the_empty Empty = (λ _. refl, λ _. refl)

-- ---- a run taken apart
-- The k-th word handed out is the k-th read's.
word_at_place : (n k : ℕ) (s : Machine) → k < n → get_or (words_in (answers s (reading n))) k 0 ≡ (kth_read s k).word
unfolding answers reading ends
word_at_place zero k s h = absurd (omega (arith, h))
word_at_place (suc n) zero s h = refl
word_at_place (suc n) (suc k) s h = word_at_place n k (after s (Read 2 3)) (omega (arith, h))

-- The hollow words are counted over the reads.
hollows_counted : (n : ℕ) (s : Machine) → hollows_in (answers s (reading n)) ≡ number_below n (λ k. (kth_read s k).hollow)
unfolding answers reading ends tally number_below
hollows_counted zero s = refl
hollows_counted (suc n) s = ap (λ (x : ℕ). counted (answer_of s (Read 2 3)).hollow + x) (hollows_counted n (after s (Read 2 3)))

-- The empty stores are counted over the writes.
empties_counted : (ws : List ℕ) (s : Machine) →
    empties_in (answers s (writing ws)) ≡ number_below (length ws) (λ k. is_empty (kth_write s ws k).cycle)
unfolding answers ends tally number_below
empties_counted [] s = refl
empties_counted (w ∷ ws) s =
    ap (λ (x : ℕ). counted (is_empty (answer_of s (Write 2 3 w)).cycle) + x) (empties_counted ws (after s (Write 2 3 w)))

-- ---- a block read

-- An accepted block read: place + k holds what the k-th single read answers and every other place stays; the hollow words counted
-- are those of the reads; registers and memory end where the reads end.
pub record LikeReads (r : Registers) (m l : List ℕ) (place count : ℕ) : Type 0 where
  pub inside : (k : ℕ) → k < count → get_or (list_after r m l place count) (place + k) 0 ≡ (kth_read (machine r m) k).word
  pub before : (k : ℕ) → k < place → get_or (list_after r m l place count) k 0 ≡ get_or l k 0
  pub behind : (k : ℕ) → place + count ≤ k → get_or (list_after r m l place count) k 0 ≡ get_or l k 0
  pub size : length (list_after r m l place count) ≡ length l
  pub hollows : (block_read r m l place count).hollows ≡ number_below count (λ k. (kth_read (machine r m) k).hollow)
  pub ended : machine (block_read r m l place count).registers m ≡ ends (machine r m) (reading count)

-- An accepted block write: the words written are those of the list's part, the empty stores counted are those of the single writes, and
-- registers and memory end where they end.
pub record LikeWrites (r : Registers) (m l : List ℕ) (place count : ℕ) : Type 0 where
  pub words : (k : ℕ) → k < count → get_or (list_part l place count) k 0 ≡ get_or l (place + k) 0
  pub empties :
      (block_write r m l place count).empties ≡
      number_below count (λ k. is_empty (kth_write (machine r m) (list_part l place count) k).cycle)
  pub ended :
      machine (block_write r m l place count).registers (memory_left r m l place count) ≡
      ends (machine r m) (writing (list_part l place count))

module _ (r : Registers) (m l : List ℕ) (place count : ℕ) where
  -- An accepted block read ends like its single reads: place + k has what the k-th of them answers, every other place stays, the count is
  -- of their hollow marks, and registers and memory end as theirs do.
  pub like_reads : (block_read r m l place count).number ≡ 0 → LikeReads r m l place count
  like_reads n =
      let s = machine r m in
      let e = sym (read_number r m l place count) ∙ n in
      let fits = ((when (length m) (length l) place count).done.0 e).2 in
      let o = read_taken r m l place count e in
      let list = list_taken r m l place count e in
      let ws = words_in (answers s (reading count)) in
      let full = filled_length s count in
      record {
        inside = λ k h. rw list (laid_inside place count l ws fits full k h) ∙ word_at_place count k s h;
        before = λ k h. rw list (laid_before place count l ws fits full k h);
        behind = λ k h. rw list (laid_behind place count l ws fits full k h);
        size = rw list (laid_length place count l ws fits full);
        hollows = ap (λ (x : BlockRead). x.hollows) o ∙ hollows_counted count s;
        ended =
            ap (λ (x : BlockRead). machine x.registers m) o ∙
            ap (machine (ends s (reading count)).registers) (sym (reads_keep_memory s count));
      }

  -- An accepted block write ends like its single writes: the words are those of the list's part, the count is of their empty cycles, and
  -- registers and memory end as theirs do.
  pub like_writes : (block_write r m l place count).number ≡ 0 → LikeWrites r m l place count
  like_writes n =
      let s = machine r m in
      let ws = list_part l place count in
      let e = sym (write_number r m l place count) ∙ n in
      let fits = ((when (length m) (length l) place count).done.0 e).2 in
      let o = write_taken r m l place count e in
      let size : length ws ≡ count = simp (length-take, length-drop) (omega (arith, fits)) in
      record {
        words = λ k h. get_or-take count (drop place l) k 0 h ∙ get_or-drop place l k 0;
        empties =
            ap (λ (x : BlockWrite). x.empties) o ∙ empties_counted ws s ∙
            ap (λ (x : ℕ). number_below x (λ k. is_empty (kth_write s ws k).cycle)) size;
        ended =
            ap (λ (x : BlockWrite). machine x.registers (memory_left r m l place count)) o ∙
            ap (machine (ends s (writing ws)).registers) (memory_taken r m l place count e);
      }

  -- After an accepted block read the list's part is the words that the single reads hand out, and as many of these are hollow as it counts.
  pub reads_answer : (block_read r m l place count).number ≡ 0 →
      (list_part (list_after r m l place count) place count ≡ words_in (answers (machine r m) (reading count)))
      × ((block_read r m l place count).hollows ≡ hollows_in (answers (machine r m) (reading count)))
  reads_answer n =
      let s = machine r m in
      let e = sym (read_number r m l place count) ∙ n in
      let fits = ((when (length m) (length l) place count).done.0 e).2 in (
        rw (list_taken r m l place count e)
            (laid_part place count l (words_in (answers s (reading count))) fits (filled_length s count)),
        ap (λ (x : BlockRead). x.hollows) (read_taken r m l place count e),
      )

  -- As many stores of the single writes fell empty as an accepted block write counts.
  pub writes_answer : (block_write r m l place count).number ≡ 0 →
      (block_write r m l place count).empties ≡ empties_in (answers (machine r m) (writing (list_part l place count)))
  writes_answer n =
      ap (λ (x : BlockWrite). x.empties) (write_taken r m l place count (sym (write_number r m l place count) ∙ n))
