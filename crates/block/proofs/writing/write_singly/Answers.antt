-- `block::writing::write_singly` meets its contract: after i turns registers, count and memory are those of the first i words'
-- writes.
use Rattle.std.proofs.Common.{not, arith}
use Rattle.block.proofs.Counts.{as_counted, at_most_1}
use Rattle.block.proofs.writing.write_singly.Invariants.{begun, turned, countable, ended}
use Rattle.block.proofs.writing.write_singly.Goals as goal

pub loop-word-init : goal.loop-word-init
loop-word-init c = begun _ _ _

pub overflow_add-empties : goal.overflow_add-empties
overflow_add-empties c =
    let few = countable c.loop-word.invariant c.requires.1 in
    omega (arith, few, c.from-empties.ensures, at_most_1 (not c.store_word-inside.result))

pub loop-word-preserved : goal.loop-word-preserved
loop-word-preserved c =
    let stored = c.store_word-inside.ensures in
    let w = c.word_of.ensures in
    let fits = c.type_inv.part c.loop-word.word-index in
    let more = c.loop-word-test.true in
    let held = c.set_latch.ensures in
    let steps = c.steps_writing.ensures in
    rw (c.step_if-q.ensures, held, steps, c.from-empties.ensures, as_counted, stored.fell, stored.memory, w)
    (turned c.loop-word.invariant c.requires.0 more (omega (arith, fits)))

pub shape_of-memory : goal.shape_of-memory
shape_of-memory c = c.loop-word.invariant.size

pub returns : goal.returns
returns c = ended c.loop-word.invariant (omega arith)
