-- `transcript_lines::putting::put_lines` meets its contract, by its answer.
use Rattle.std.proofs.Common.{sym}
use Rattle.std.proofs.lemmas.Result.{err_from_is_err_and}
use Rattle.transcript_lines.proofs.Results.{refused_put, written_room, done_put}
use Rattle.transcript_lines.proofs.putting.put_lines.Goals as goal

pub returns-in_err-written : goal.returns-in_err-written
returns-in_err-written c =
    let a = c.args in
    let p = err_from_is_err_and c.from_residual.result c.from_residual.ensures.1 in
    rw (p.1, p.2, sym c.in_err-written.was)
    (refused_put _ a.text.now c.judge_room-fits.ensures c.judge_entries.ensures c.in_err-written.was)

pub fill_text-requires : goal.fill_text-requires
fill_text-requires c =
    let a = c.args in
    written_room _ a.text.now c.judge_room-fits.ensures c.judge_entries.ensures c.in_ok-written.was

pub returns : goal.returns
returns c =
    let a = c.args in
    rw (sym c.in_ok-written.was)
    (done_put _ a.text.now c.judge_room-fits.ensures c.judge_entries.ensures c.in_ok-written.was c.fill_text.ensures)
