-- `transcript_exchange::turning::lines_to_bytes` meets its contract: by what was judged nothing is changed, or what is taken is written.
use mathlib.Core.Path.{sym, subst}
use Rattle.std.proofs.lemmas.Result.{err_from_is_err_and}
use Rattle.transcript_spec.specs.Lists.{Lists}
use Rattle.transcript_spec.specs.Writing.{WroteTranscript}
use Rattle.transcript_exchange.proofs.Results.{lines_not_taken, accesses_refused, bytes_done}
use Rattle.transcript_exchange.proofs.turning.lines_to_bytes.Goals as goal

pub returns-in_err-n : goal.returns-in_err-n
returns-in_err-n c =
    let p = err_from_is_err_and c.from_residual.result c.from_residual.ensures.1 in
    rw (p.1, p.2) (lines_not_taken _ _ _ c.len-room.ensures c.judge_lines.ensures c.in_err-n.was)

pub returns-in_err-written : goal.returns-in_err-written
returns-in_err-written c =
    let p = err_from_is_err_and c.from_residual-in_err-written.result c.from_residual-in_err-written.ensures.1 in
    rw (p.1, p.2, sym c.in_err-written.was)
    (accesses_refused _ _ _ c.len-room.ensures c.judge_lines.ensures c.in_ok-n.was c.judge_accesses.ensures c.in_err-written.was)

pub returns : goal.returns
returns c =
    let left = λ (l : Lists). WroteTranscript l c.args.bytes.now c.write_transcript.result c.write_transcript.new.bytes in
    let wrote = subst left c.first-list.ensures c.write_transcript.ensures in
    rw (sym c.in_ok-written.was)
    (bytes_done _ _ _ c.len-room.ensures c.judge_lines.ensures c.in_ok-n.was c.judge_accesses.ensures
    c.take_lines.ensures c.in_ok-written.was wrote)
