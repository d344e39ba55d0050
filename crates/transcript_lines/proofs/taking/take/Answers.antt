-- `transcript_lines::taking::take` meets its contract, by its answer.
use Rattle.std.proofs.Common.{sym}
use Rattle.std.proofs.lemmas.Result.{err_from_is_err_and}
use Rattle.transcript_lists.specs.Lent.{lists_in}
use Rattle.transcript_lines.proofs.Results.{refused_take, taken_room, done_take}
use Rattle.transcript_lines.proofs.taking.take.Goals as goal

pub returns-in_err-count-clause-took : goal.returns-in_err-count-clause-took
returns-in_err-count-clause-took c =
    let a = c.args in
    let p = err_from_is_err_and c.from_residual.result c.from_residual.ensures.1 in
    rw (p.1, p.2, sym c.in_err-count.was)
    (refused_take a.text.now (lists_in a.list.now) c.len.ensures c.judge_lines.ensures c.in_err-count.was)

pub fill_lists-requires : goal.fill_lists-requires
fill_lists-requires c =
    let a = c.args in
    taken_room a.text.now (lists_in a.list.now) c.len.ensures c.judge_lines.ensures c.in_ok-count.was

pub returns-clause-took : goal.returns-clause-took
returns-clause-took c =
    let a = c.args in
    rw (sym c.in_ok-count.was)
    (done_take a.text.now (lists_in a.list.now) c.len.ensures c.judge_lines.ensures c.in_ok-count.was c.fill_lists.ensures.filled)
