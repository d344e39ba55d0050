-- `next` of the iterator over the entries meets its contract: entry i is the first of those that are left from place i on.
use Rattle.std.proofs.Common.{rules}
use mathlib.Core.Path.{ap}
use lib.ListN.{length}
use Rattle.transcript_spec.specs.Lists.{size}
use Rattle.transcript_spec.proofs.EntriesLeft.{next_left, none_left}
use Rattle.transcript_lists.specs.Lent.{lists_of}
use Rattle.transcript_lists.proofs.EntriesIterator.next.Goals as goal

pub returns-then-len-self-clause-steps : goal.returns-then-len-self-clause-steps
returns-then-len-self-clause-steps c =
    let l = lists_of c.args.self.now.list in
    let none = none_left l (size l) _ (rw c.len.ensures at c.if-len-self.true) in
    (none, none)

pub returns-clause-steps : goal.returns-clause-steps
returns-clause-steps c =
    let l = lists_of c.args.self.now.list in
    rw c.entry-e.ensures (next_left l (size l) _ (rw c.len.ensures at c.if-len-self.false))

pub returns-clause-goes : goal.returns-clause-goes
returns-clause-goes c =
    let l = lists_of c.args.self.now.list in
    let step = ap length (next_left l (size l) c.args.self.now.place (rw c.len.ensures at c.if-len-self.false)) in
    search (rules, step)
