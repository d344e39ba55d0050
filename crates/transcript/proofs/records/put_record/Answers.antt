-- `transcript::records::put_record` meets its contract: the head's groups and, for a write, the word's behind them.
use native.Mathlib.Omega.{arith}
use mathlib.Core.Path.{sym}
use Rattle.transcript_spec.proofs.Judged.{head_range}
use Rattle.transcript.proofs.Putting.{put_behind, put_length}
use Rattle.transcript_spec.proofs.RecordBytes.{head_fits, of_write, length_of_write, of_other}
use Rattle.transcript.proofs.records.put_record.Goals as goal

pub head_of-requires : goal.head_of-requires
head_of-requires c = c.requires.0

pub put_groups-after_head-requires : goal.put_groups-after_head-requires
put_groups-after_head-requires c =
    let e = c.args.e in
    rw c.head_of.ensures (omega (arith, (head_range e c.requires.0).1), omega (arith, c.requires.1, head_fits e))

pub put_groups-requires : goal.put_groups-requires
put_groups-requires c =
    let e = c.args.e in
    let head = rw c.head_of.ensures at c.put_groups-after_head.ensures in (
      omega (arith, c.requires.0.word),
      omega (arith, c.requires.1, head.end, length_of_write e c.if-e-eq1.true, put_length head),
    )

pub returns-then-e-eq1 : goal.returns-then-e-eq1
returns-then-e-eq1 c =
    let e = c.args.e in
    let head = rw c.head_of.ensures at c.put_groups-after_head.ensures in
    rw (of_write e c.if-e-eq1.true) (put_behind head c.put_groups.ensures)

pub returns : goal.returns
returns c =
    let e = c.args.e in
    rw (of_other e c.if-e-eq1.false, sym c.head_of.ensures) c.put_groups-after_head.ensures
