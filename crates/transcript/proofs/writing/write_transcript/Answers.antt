-- `transcript::writing::write_transcript` meets its contract: the whole list is judged, and by what is found it is refused or written.
use Rattle.transcript.proofs.Written.{bad_entry, too_small, can_write, written}
use Rattle.transcript.proofs.writing.write_transcript.Goals as goal

pub returns-in-Err : goal.returns-in-Err
returns-in-Err c = rw (c.refuse.ensures, c.from.ensures) (bad_entry _ _ c.judge.ensures c.in-Err.is)

pub returns-then-bytes-wanted : goal.returns-then-bytes-wanted
returns-then-bytes-wanted c =
    rw (c.refuse-then-bytes-wanted.ensures, c.from-then-bytes-wanted.ensures)
    (too_small _ _ c.judge.ensures c.in-Ok.is c.if-bytes-wanted.true)

pub put_records-requires : goal.put_records-requires
put_records-requires c = can_write _ _ c.judge.ensures c.in-Ok.is c.if-bytes-wanted.false

pub returns : goal.returns
returns c = written _ _ c.judge.ensures c.in-Ok.is c.if-bytes-wanted.false c.put_records.ensures
