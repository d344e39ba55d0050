-- `block::reading::read_singly` meets its contract: after i turns registers, count and the first i places are those of i reads.
use Rattle.std.proofs.Common.{arith}
use Rattle.port_spec.specs.Cycle.{stepped}
use Rattle.port_spec.specs.Table.{Memory}
use Rattle.block.proofs.Counts.{as_counted, at_most_1}
use Rattle.block.proofs.reading.read_singly.Invariants.{begun, turned, countable, ended}
use Rattle.block.proofs.reading.read_singly.Goals as goal

pub loop-place-init : goal.loop-place-init
loop-place-init c = begun _ _ _ (omega arith)

pub overflow_add-hollows : goal.overflow_add-hollows
overflow_add-hollows c =
    let few = countable c.loop-place.invariant c.requires.1 in
    omega (arith, few, c.from-hollows.ensures, at_most_1 c.loop-place.q.hollow)

pub loop-place-preserved : goal.loop-place-preserved
unfolding stepped
loop-place-preserved c =
    let words : Memory c.args.memory.now = record { size = c.requires.0; words = λ i. omega (arith, c.type_inv.memory i) } in
    rw (c.fetch_here-q.ensures, c.step_if.ensures, c.steps_reading.ensures, c.from-hollows.ensures, as_counted)
    (turned c.loop-place.invariant words (omega arith))

pub returns : goal.returns
returns c = ended c.loop-place.invariant (omega arith)
