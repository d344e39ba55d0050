-- What the loop of `block::writing::write_singly` keeps: after i turns registers, count and memory are those of the first i words' writes.
use Rattle.std.proofs.Common.{◌≡◌, ℕ, ◌+◌, ◌<◌, ◌≤◌, Bool, false, not, List, [], ◌∷◌, ◌++◌, length, get_or, take, refl, ◌∙◌, add-one, arith, length-take-le, take_all, take-suc}
use Rattle.words.specs.Addresses.{word_at}
use Rattle.words.specs.Memory.{in_memory, store_at}
use Rattle.words.proofs.MemoryWords.{stored_length}
use Rattle.control.specs.Control.{incw}
use Rattle.registers.specs.Registers.{with_latch}
use Rattle.registers.specs.declared.Registers.{Registers}
use Rattle.port_spec.specs.Cycle.{stepped}
use Rattle.port_spec.specs.Sequences.{machine, answers, ends}
use Rattle.block_spec.specs.Block.{counted, tally}
use Rattle.block_spec.specs.Parts.{WrittenFrom}
use Rattle.block_spec.proofs.Joining.{join_writes, few_empties}
use Rattle.block_spec.proofs.OneAccess.{one_write}
use Rattle.block.proofs.writing.write_singly.Given as goal

pub record Writing (r : Registers) (m₀ part m : List ℕ) (q : Registers) (empties i : ℕ) : Type 0 where
  pub most : i ≤ length part
  pub size : length m ≡ length m₀
  pub written : WrittenFrom (machine r m₀) (take i part) (record { registers = q; tallied = empties }) m

pub begun : (r : Registers) (m part : List ℕ) → Writing r m part m r 0 0
unfolding answers ends tally
begun r m part = record { most = omega arith; size = refl; written = record { registers = refl; tallied = refl; memory = refl } }

-- the word that is written in turn i
abbrev word : List ℕ → ℕ → ℕ
word part i = get_or part i 0

module _ {r : Registers} {m₀ part m : List ℕ} {q : Registers} {e i : ℕ} (k : Writing r m₀ part m q e i) where
  abbrev inside : Bool
  inside = in_memory m (word_at q.pointer)

  -- one write more
  pub turned : length m₀ ≤ 32768 → i < length part → word part i < 65536 →
      Writing r m₀ part (store_at m (word_at q.pointer) (word part i)) (stepped (incw q.control) (with_latch q (word part i) false))
      (e + counted (not inside)) (i + 1)
  turned few more fits =
      let small : length m ≤ 32768 = omega (arith, k.size) in
      let words : take (i + 1) part ≡ take i part ++ (word part i ∷ []) = rw add-one (take-suc part i 0 more) in
      record {
        most = omega arith;
        size = stored_length m (word_at q.pointer) (word part i) ∙ k.size;
        written = rw words (join_writes (machine r m₀) m _ _ _ _ _ k.written (one_write q m small (word part i) fits));
      }

  -- so few that they can be counted
  pub countable : length part ≤ 4096 → e ≤ 4096
  countable few = omega (arith, k.most, k.written.tallied, length-take-le i part k.most, few_empties (machine r m₀) (take i part))

  -- all of them
  pub ended : length part ≤ i → WrittenFrom (machine r m₀) part (record { registers = q; tallied = e }) m
  ended all =
      let words : take i part ≡ part = take_all i part all in
      rw words at k.written

abbrev pub invariant-loop-word : goal.invariant-loop-word
invariant-loop-word l = Writing l.initial.q l.initial.memory l.part l.memory l.q l.empties l.word-index
