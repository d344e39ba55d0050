-- `transcript_trial::carrying::call` meets its contract: each of the two calls leaves what the other may change.
use Rattle.transcript_trial.proofs.OneRecord.{by_reader, by_writer}
use Rattle.transcript_trial.proofs.carrying.call.Goals as goal

pub returns-then-reader : goal.returns-then-reader
returns-then-reader c = by_reader c.if-reader.true c.read_transcript.ensures

pub returns : goal.returns
returns c = by_writer c.if-reader.false c.write_transcript.ensures
