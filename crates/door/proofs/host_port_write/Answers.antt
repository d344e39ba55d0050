-- `door::host_port_write` meets its contract: refused, or loaded, begun, carried out over the bytes and closed.
use mathlib.Core.Path.{sym, ◌∙◌}
use borrow.Author.Rules.{rules}
use Rattle.words.specs.Bytes.{AreBytes}
use Rattle.port_spec.proofs.Named.{never_0}
use Rattle.door.proofs.Calls.{other_length, refused_call, closed_call}
use Rattle.door.proofs.host_port_write.Goals as goal
use Rattle.door.proofs.host_port_write.Goals.{After-load}

-- the memory as it was lent, before the cycle
lent_bytes : (c : After-load) → AreBytes c.args.memory.now
lent_bytes c = search rules

pub returns-in_default : goal.returns-in_default
returns-in_default c = rw c.refuse.ensures (other_length _ _ _ c.in_default.ensures.cases)

pub returns-in-Err : goal.returns-in-Err
returns-in-Err c =
    let n = c.in-Err.ensures in
    rw (← c.in-Some.ensures.cases.same, c.refuse-in-Err.ensures, n) (refused_call _ _ _ (λ e. never_0 _ (n ∙ e)))

pub returns : goal.returns
returns c =
    let b = rw c.load.ensures at c.begin_write-b.ensures in
    rw (← c.in-Some.ensures.cases.same)
    (closed_call _ _ _ (sym c.in_default-judge_call.ensures) (lent_bytes (goal.at.returns c).After-load)
    (rw b at c.carry_bytes.ensures)
    (rw b at c.close_call.ensures))
