-- `transcript_lines::taking::judge_lines` meets its contract: each turn is one of those of `Turns`.
use mathlib.Core.Path.{◌≡◌, sym}
use mathlib.Core.Logic.{◌≢◌}
use lib.ListN.{length}
use borrow.Author.Rules.{rules}
use borrow.Author.Tests.{tests, lt-ltb, le-ltb}
use Rattle.transcript_lines.proofs.Turns.{one_more, ends_bad, ends_even}
use Rattle.transcript_lines.proofs.taking.judge_lines.Goals as goal

pub loop-count-preserved : goal.loop-count-preserved
loop-count-preserved c = one_more c.loop-count.invariant c.in-Some.ensures.steps

pub returns-then-not-is_empty : goal.returns-then-not-is_empty
returns-then-not-is_empty c =
    let some : length c.next.new.self.left.now ≢ 0 = search (rules, tests, c.if-not-is_empty.true, c.is_empty.ensures) in
    ends_bad c.loop-count.invariant c.in_default.ensures.steps c.args.room some

pub returns-then-room-count : goal.returns-then-room-count
returns-then-room-count c =
    let none : length c.next.new.self.left.now ≡ 0 = search (rules, tests, c.if-not-is_empty.false, c.is_empty.ensures) in
    rw (sym (ends_even c.loop-count.invariant c.in_default.ensures.steps c.args.room none), lt-ltb _ _ c.if-room-count.true)

pub returns : goal.returns
returns c =
    let none : length c.next.new.self.left.now ≡ 0 = search (rules, tests, c.if-not-is_empty.false, c.is_empty.ensures) in
    rw (sym (ends_even c.loop-count.invariant c.in_default.ensures.steps c.args.room none), le-ltb _ _ c.if-room-count.false)
