-- `transcript_lines::lines::line_size` meets its contract: a read's line has six bytes, a write's eleven.
use mathlib.Core.Path.{sym, ap}
use lib.ListN.{length}
use Rattle.transcript_lines.proofs.LineBytes.{read_line, write_line}
use Rattle.transcript_lines.proofs.lines.line_size.Goals as goal

pub returns-then-e-eq0 : goal.returns-then-e-eq0
returns-then-e-eq0 c = sym (ap length (read_line c.args.e c.if-e-eq0.true))

pub returns-else-e-eq0 : goal.returns-else-e-eq0
returns-else-e-eq0 c = sym (ap length (write_line c.args.e c.if-e-eq0.false))
