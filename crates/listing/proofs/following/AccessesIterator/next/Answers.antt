-- The next good line lies in the text, and what is left is shorter.
use native.Mathlib.Omega.{arith}
use mathlib.Core.Path.{sym, ◌∙◌}
use lib.ListN.{length-take, length-drop}
use borrow.Author.Rules.{rules}
use Rattle.listing.proofs.LineByLine.{good_within}
use Rattle.listing.proofs.following.AccessesIterator.next.Goals as goal

pub slice_bounds-self-count : goal.slice_bounds-self-count
slice_bounds-self-count c = (good_within _ (sym c.front_line.ensures ∙ c.in-Good.is)).1

pub slice_bounds-self-start : goal.slice_bounds-self-start
slice_bounds-self-start c =
    let lies = good_within _ (sym c.front_line.ensures ∙ c.in-Good.is) in
    search (rules, lies)

pub returns-clause-goes : goal.returns-clause-goes
returns-clause-goes c =
    let lies = good_within _ (sym c.front_line.ensures ∙ c.in-Good.is) in
    record { on = λ f. (tt, tt, simp (length-take, length-drop) (omega (arith, lies.0, lies.1))); keeps = tt; rests = λ f. tt }
