-- `transcript::records::judge_entry` meets its contract: the entry is refused, or its record is counted.
use mathlib.Core.Path.{refl, sym}
use Rattle.std.proofs.lemmas.Result.{err_from_is_err_and}
use Rattle.words.proofs.RefusalNumbers.{none_is_0}
use Rattle.transcript_spec.proofs.WrittenExactly.{passes_good}
use Rattle.transcript.proofs.Judging.{said_refused, said_good}
use Rattle.transcript.proofs.records.judge_entry.Goals as goal

pub returns-in_err-judge : goal.returns-in_err-judge
returns-in_err-judge c =
    let p = err_from_is_err_and c.from_residual.result c.from_residual.ensures.1 in
    rw (p.1, p.2) (said_refused _ (rw c.in_err-judge.was at c.judge.ensures) (none_is_0 _))

pub count_bytes-requires : goal.count_bytes-requires
count_bytes-requires c = passes_good _ (sym (rw c.in_ok-judge.was at c.judge.ensures))

pub returns : goal.returns
returns c = said_good _ (rw c.in_ok-judge.was at c.judge.ensures) refl c.count_bytes.ensures
