-- `transcript::reading::read` meets its contract: its answer is right, and by that answer the lists are filled or left.
use Rattle.transcript.proofs.ReadOutcomes.{left_as_they_were, filled}
use Rattle.transcript.proofs.reading.read.Goals as goal

pub returns-then-answer-ne0-clause-read : goal.returns-then-answer-ne0-clause-read
returns-then-answer-ne0-clause-read c = left_as_they_were c.judge_bytes-answer.ensures c.len.ensures c.if-answer-ne0.true

pub returns-clause-read : goal.returns-clause-read
returns-clause-read c =
    filled c.judge_bytes-answer.ensures c.len.ensures c.if-answer-ne0.false c.fill_on.ensures.filled c.fresh_part.ensures
