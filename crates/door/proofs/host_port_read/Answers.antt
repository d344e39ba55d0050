-- `door::host_port_read` meets its contract: refused, or loaded, begun, fetched for and closed.
use mathlib.Core.Path.{sym, ◌∙◌}
use Rattle.port_spec.proofs.Named.{never_0}
use Rattle.door.proofs.NoStore.{read_is_no_store}
use Rattle.door.proofs.Calls.{other_length, refused_call, closed_call}
use Rattle.door.proofs.host_port_read.Goals as goal

pub returns-in_default : goal.returns-in_default
returns-in_default c = rw c.refuse.ensures (other_length _ _ _ c.in_default.ensures.cases)

pub returns-in-Err : goal.returns-in-Err
returns-in-Err c =
    let n = c.in-Err.ensures in
    rw (← c.in-Some.ensures.cases.same, c.refuse-in-Err.ensures, n) (refused_call _ _ _ (λ e. never_0 _ (n ∙ e)))

pub fetch_if_due-requires : goal.fetch_if_due-requires
fetch_if_due-requires c = rw c.begin_read-b.ensures (read_is_no_store _ _ _)

pub returns : goal.returns
returns c =
    let b = rw c.load.ensures at c.begin_read-b.ensures in
    rw (← c.in-Some.ensures.cases.same)
    (closed_call _ _ _ (sym c.in_default-judge_call.ensures) (λ k. (c.type_inv.memory k).fits)
    (rw b at c.fetch_if_due.ensures)
    (rw b at c.close_call.ensures))
