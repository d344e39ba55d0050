-- `transcript_exchange::turning::bytes_to_lines` meets its contract: by what was judged nothing is changed, or what is read is put as
-- lines.
use mathlib.Core.Path.{sym, subst}
use Rattle.std.proofs.lemmas.Result.{err_from_is_err_and}
use Rattle.transcript_spec.specs.Lists.{Lists}
use Rattle.transcript_lines.specs.Putting.{PutLines}
use Rattle.transcript_exchange.proofs.Results.{lines_refused, lines_done}
use Rattle.transcript_exchange.proofs.turning.bytes_to_lines.Goals as goal

pub returns-in_err-put : goal.returns-in_err-put
returns-in_err-put c =
    let p = err_from_is_err_and c.from_residual.result c.from_residual.ensures.1 in
    rw (p.1, p.2, sym c.in_err-put.was)
    (lines_refused _ _ _ c.len-room.ensures c.judge_bytes-answer.ensures c.judge_room.ensures c.judge.ensures c.in_err-put.was)

pub returns : goal.returns
returns c =
    let left = λ (l : Lists). PutLines l c.args.text.now c.put_lines.result c.put_lines.new.text in
    let put = subst left c.first-list.ensures c.put_lines.ensures in
    rw (sym c.in_ok-put.was)
    (lines_done _ _ _ c.len-room.ensures c.judge_bytes-answer.ensures c.judge_room.ensures c.judge.ensures
    c.in_ok-put.was c.read_transcript.ensures put)
