-- `transcript::reading::judge_bytes` meets its contract: the answer follows from the scan and from the room.
use Rattle.transcript.proofs.ReadOutcomes.{right_answer}
use Rattle.transcript.proofs.reading.judge_bytes.Goals as goal

pub returns : goal.returns
returns c = right_answer _ _ c.answer_for.ensures c.scan.ensures
