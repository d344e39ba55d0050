-- `transcript_command::turn` meets its contract: each way leaves what the exchange says of the bytes that were read.
use Rattle.transcript_command.specs.Ways.{lines_turned, bytes_turned}
use Rattle.transcript_command.proofs.turn.Goals as goal

pub returns-in-Bytes : goal.returns-in-Bytes
returns-in-Bytes c = rw (c.in-Bytes.is, c.unwrap-all.ensures) (lines_turned c.lines_to_bytes.ensures)

pub returns-in-Lines : goal.returns-in-Lines
returns-in-Lines c = rw (c.in-Lines.is, c.unwrap-all.ensures) (bytes_turned c.bytes_to_lines.ensures)
