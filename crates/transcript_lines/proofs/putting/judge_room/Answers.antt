-- `transcript_lines::putting::judge_room` meets its contract: each turn is one of those of `EntryByEntry`.
use Rattle.transcript_lines.proofs.EntryByEntry.{measured_start, measured_next, measured_out, measured_all}
use Rattle.transcript_lines.proofs.putting.judge_room.Goals as goal

pub loop-e-init : goal.loop-e-init
loop-e-init c =
    measured_start c.args.room (rw c.into_iter-e-iterator.ensures.into_iter_gives c.entries-e-items.ensures.all)

pub returns-then-left-size : goal.returns-then-left-size
returns-then-left-size c =
    measured_out c.loop-e.invariant c.in-Some.ensures.steps c.line_size-size.ensures c.if-left-size.true

pub loop-e-preserved : goal.loop-e-preserved
loop-e-preserved c =
    measured_next c.loop-e.invariant c.in-Some.ensures.steps c.line_size-size.ensures c.if-left-size.false

pub overflow_sub-result : goal.overflow_sub-result
overflow_sub-result c = c.loop-e.invariant.less

pub returns : goal.returns
returns c = measured_all c.loop-e.invariant c.in-None.ensures.steps.0
