-- `transcript_exchange::judging::judge_accesses` meets its contract: each turn is one of those of `AccessByAccess`.
use native.Mathlib.Omega.{arith}
use mathlib.Core.Path.{◌∙◌, ap}
use Rattle.words.proofs.RefusalNumbers.{none_is_0}
use Rattle.listing.specs.declared.Accesses.{Accesses}
use Rattle.transcript.proofs.Judging.{refusal_said, none_said, size_said}
use Rattle.transcript_exchange.proofs.AccessByAccess.{judged_start, judged_next, judged_refused, judged_all}
use Rattle.transcript_exchange.proofs.judging.judge_accesses.Goals as goal

pub loop-a-init : goal.loop-a-init
loop-a-init c =
    let whole = ap (λ (x : Accesses). x.left.now) c.into_iter-a-iterator.ensures.into_iter_gives ∙ c.good_lines-a-items.ensures in
    (tt, tt, judged_start _ whole)

pub returns : goal.returns
returns c =
    c.fit.ensures ∙ judged_all c.loop-a.invariant.2 c.in-None.ensures.steps _

pub returns-in-Err : goal.returns-in-Err
returns-in-Err c =
    let h = refusal_said _ _ c.judge_entry.ensures c.in-Err.is in
    rw c.from.ensures
    (judged_refused c.loop-a.invariant.2 c.in-Some.ensures.steps c.entry_of.ensures h (none_is_0 _) _)

pub overflow_add-wanted : goal.overflow_add-wanted
overflow_add-wanted c =
    let said = c.judge_entry.ensures in
    let next =
    judged_next c.loop-a.invariant.2 c.in-Some.ensures.steps c.entry_of.ensures
    (none_said _ _ said c.in-Ok.is) (size_said _ _ said c.in-Ok.is) in
    omega (arith, next.less)

pub loop-a-preserved : goal.loop-a-preserved
loop-a-preserved c =
    let said = c.judge_entry.ensures in (
      tt,
      tt,
      judged_next c.loop-a.invariant.2 c.in-Some.ensures.steps c.entry_of.ensures
          (none_said _ _ said c.in-Ok.is) (size_said _ _ said c.in-Ok.is),
    )
