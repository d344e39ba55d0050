-- `sheet::reading::read_ticks` meets its contract: after i turns machine, mark and the first i places are those of i reads.
use Prim.Native.Nat.{ℕ, ◌+◌, ◌≤◌, ◌<◌}
use native.Mathlib.Numerals.{add-one}
use native.Mathlib.Omega.{arith}
use mathlib.Core.Path.{◌≡◌, refl, ap, ◌∙◌}
use mathlib.Core.Bool.{Bool, false, ◌||◌}
use mathlib.Core.List.{List, [], ◌∷◌, ◌++◌}
use lib.ListN.{length, take, set, length-set}
use lib.Seq.{take_all, take-suc-set}
use Rattle.registers.specs.declared.Registers.{Registers}
use Rattle.port_spec.specs.Host.{Accessed}
use Rattle.port_spec.specs.Sequences.{Machine, machine, answers, ends}
use Rattle.port_spec.specs.Table.{reading}
use Rattle.port_spec.specs.declared.Access.TheVariants.{Read}
use Rattle.port_spec.specs.declared.Outcome.{Outcome}
use Rattle.sheet_spec.specs.Reading.{any_hollow}
use Rattle.sheet.specs.Parts.{ReadTicks}
use Rattle.sheet.proofs.ReadingOn.{memory_kept, read_more}
use Rattle.sheet.proofs.reading.read_ticks.Invariants.{Reading}
use Rattle.sheet.proofs.reading.read_ticks.Goals as goal

begun : (r : Registers) (m ticks : List ℕ) → Reading (machine r m) ticks m ticks r false 0
unfolding reading answers ends any_hollow
begun r m ticks = record { most = omega arith; room = refl; read = record { ends_at = refl; hollow = refl; words = refl } }

module _ {s : Machine} {ticks₀ m ticks : List ℕ} {q : Registers} {h : Bool} {i : ℕ} (k : Reading s ticks₀ m ticks q h i) where
  -- one read more
  turned : {o : Outcome} {m' : List ℕ} → i < length ticks₀ → Accessed q m (Read 2 3) o m' →
      Reading s ticks₀ m' (set ticks i o.answer.word) o.registers (h || o.answer.hollow) (i + 1)
  turned {o} more e =
      let w = o.answer.word in
      let there : i < length ticks = omega (arith, k.room) in
      let places : take (i + 1) (set ticks i w) ≡ take i ticks ++ (w ∷ []) = rw add-one (take-suc-set ticks i w there) in
      record {
        most = omega arith;
        room = length-set ticks i w ∙ k.room;
        read = rw places (read_more k.read e);
      }

  -- all of them
  ended : length ticks₀ ≤ i → ReadTicks s (length ticks₀) (record { registers = q; hollow = h }) m ticks
  ended all =
      let e : i ≡ length ticks₀ = omega (arith, k.most) in
      let places : take i ticks ≡ ticks = take_all i ticks (omega (arith, k.room)) in
      rw e at (rw places at k.read)

pub loop-tick-init : goal.loop-tick-init
loop-tick-init c = begun _ _ _

pub loop-tick-preserved : goal.loop-tick-preserved
loop-tick-preserved c =
    turned c.loop-tick.invariant c.loop-tick-test.true c.host_access-o.ensures

pub shape_of-memory : goal.shape_of-memory
shape_of-memory c = ap length (memory_kept c.loop-tick.invariant.read)

pub shape_of-ticks : goal.shape_of-ticks
shape_of-ticks c = c.loop-tick.invariant.room

pub returns : goal.returns
returns c = ended c.loop-tick.invariant (omega arith)
