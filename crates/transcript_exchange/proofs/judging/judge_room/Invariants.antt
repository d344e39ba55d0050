-- `transcript_exchange::judging::judge_room` meets its contract: each turn is one of those of `RecordByRecord`.
use Rattle.transcript_exchange.proofs.RecordByRecord.{Measured}
use Rattle.transcript_exchange.proofs.judging.judge_room.Given as goal

abbrev pub invariant-loop-b : goal.invariant-loop-b
invariant-loop-b l = Measured l.bytes l.room l.part l.left l.b-index
