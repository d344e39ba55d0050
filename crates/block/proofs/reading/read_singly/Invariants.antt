-- What the loop of `block::reading::read_singly` keeps: after i turns registers, count and the first i places are those of i reads.
use Rattle.std.proofs.Common.{◌≡◌, ℕ, ◌+◌, ◌<◌, ◌≤◌, List, [], ◌∷◌, ◌++◌, length, take, set, refl, ◌∙◌, add-one, arith, length-set, take-suc-set}
use lib.Seq.{take-length}
use Rattle.registers.specs.declared.Registers.{Registers}
use Rattle.port_spec.specs.Cycle.{standing}
use Rattle.port_spec.specs.Deeds.{ahead}
use Rattle.port_spec.specs.Sequences.{machine, answers, ends}
use Rattle.port_spec.specs.Table.{Memory, reading}
use Rattle.port_spec.proofs.Handed.{shows_word}
use Rattle.block_spec.specs.Block.{counted, tally}
use Rattle.block_spec.specs.Parts.{ReadInto}
use Rattle.block_spec.proofs.Joining.{join_reads, few_hollows}
use Rattle.block_spec.proofs.OneAccess.{one_read}
use Rattle.block.proofs.reading.read_singly.Given as goal

pub record Reading (r : Registers) (m part₀ part : List ℕ) (q : Registers) (hollows i : ℕ) : Type 0 where
  pub most : i ≤ length part₀
  pub room : length part ≡ length part₀
  pub fits : q.latch < 65536
  pub read : ReadInto (machine r m) i (record { registers = q; tallied = hollows }) (take i part)

pub begun : (r : Registers) (m part : List ℕ) → r.latch < 65536 → Reading r m part part r 0 0
unfolding reading answers ends tally
begun r m part h =
    record { most = omega arith; room = refl; fits = h; read = record { registers = refl; tallied = refl; words = refl } }

module _ {r : Registers} {m part₀ part : List ℕ} {q : Registers} {h i : ℕ} (k : Reading r m part₀ part q h i) where
  -- one read more
  pub turned : Memory m → i < length part₀ →
      Reading r m part₀ (set part i q.latch) (standing m q.control (ahead q)) (h + counted q.hollow) (i + 1)
  unfolding standing
  turned words more =
      let there : i < length part = omega (arith, k.room) in
      let places : take (i + 1) (set part i q.latch) ≡ take i part ++ (q.latch ∷ []) =
      rw add-one (take-suc-set part i q.latch there) in
      record {
        most = omega arith;
        room = length-set part i q.latch ∙ k.room;
        fits = shows_word (machine q m) words (ahead q);
        read = rw places (join_reads r m i 1 _ _ _ _ k.read (one_read q m words.size k.fits));
      }

  -- so few that they can be counted
  pub countable : length part₀ ≤ 4096 → h ≤ 4096
  countable few = omega (arith, k.most, k.read.tallied, few_hollows (machine r m) i)

  -- all of them
  pub ended : length part₀ ≤ i → ReadInto (machine r m) (length part₀) (record { registers = q; tallied = h }) part
  ended all =
      let e : i ≡ length part = omega (arith, k.most, k.room) in
      let places : take i part ≡ part = rw e (take-length part) in
      rw k.room at (rw (places, e) at k.read)

abbrev pub invariant-loop-place : goal.invariant-loop-place
invariant-loop-place l = Reading l.initial.q l.memory l.initial.place-items l.place-items l.q l.hollows l.place-index
