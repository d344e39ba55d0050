-- `transcript_exchange::judging::judge_room` meets its contract: each turn is one of those of `RecordByRecord`.
use mathlib.Core.Path.{sym}
use Rattle.transcript_exchange.proofs.RecordByRecord.{measured_start, measured_on, measured_bad}
use Rattle.transcript_exchange.proofs.RecordByRecord.{measured_next, measured_out, measured_all}
use Rattle.transcript_exchange.proofs.judging.judge_room.Goals as goal
use Rattle.transcript_exchange.proofs.judging.judge_room.Goals.{in-Goes, in-Whole+else-left-size}
use Rattle.transcript_exchange.proofs.judging.judge_room.Goals.{else-loop-b-test, then-loop-b-test+in-Bad}

pub loop-b-init : goal.loop-b-init
loop-b-init c = rw c.fresh_part-part.ensures (measured_start _ _)

pub returns-then-left-size : goal.returns-then-left-size
returns-then-left-size c =
    measured_out c.loop-b.invariant c.loop-b-test.true (sym c.in-Whole.ensures) c.line_size-size.ensures c.if-left-size.true

pub loop-b-preserved : goal.loop-b-preserved
loop-b-preserved c =
    elim c.match-take_byte.branch [
      | in-Goes w ↦
          rw (w.part-is, w.left-is) (measured_on c.loop-b.invariant c.loop-b-test.true (sym w.in-Goes.ensures))
      | in-Whole+else-left-size w ↦
          rw (w.part-is, w.left-is, w.fresh_part-part-in-Whole.ensures)
          (measured_next c.loop-b.invariant c.loop-b-test.true (sym w.in-Whole.ensures) w.line_size-size.ensures
          w.if-left-size.false)
    ]

pub returns : goal.returns
returns c =
    elim c.loop-b-test.branch [
      | else-loop-b-test w ↦ measured_all c.loop-b.invariant w.loop-b-test.false
      | then-loop-b-test+in-Bad w ↦ measured_bad c.loop-b.invariant w.loop-b-test.true (sym w.in-Bad.ensures)
    ]
