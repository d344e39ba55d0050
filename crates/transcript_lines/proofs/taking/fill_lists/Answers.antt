-- `transcript_lines::taking::fill_lists` meets its contract: each turn is one of those of `Filling`.
use mathlib.Core.Path.{refl, ap, ◌∙◌}
use Rattle.listing.specs.declared.Accesses.{Accesses}
use Rattle.transcript_lists.specs.Lent.{lists_in}
use Rattle.transcript_lists.proofs.Same.{still_same}
use Rattle.transcript_lines.proofs.Filling.{filled_start, filled_next, filled_all}
use Rattle.transcript_lines.proofs.taking.fill_lists.Goals as goal

pub loop-a-init : goal.loop-a-init
loop-a-init c =
    let whole = ap (λ (x : Accesses). x.left.now) c.into_iter-a-iterator.ensures.into_iter_gives ∙ c.good_lines-a-items.ensures in
    (tt, tt, filled_start c.args.text.now (lists_in c.args.list.now) whole, (refl, refl, refl, refl))

pub loop-a-preserved : goal.loop-a-preserved
loop-a-preserved c = (
  tt,
  tt,
  filled_next c.loop-a.invariant.2 c.requires c.in-Some.ensures.steps c.entry_of.ensures c.put.ensures.put,
  still_same c.args.list.now c.loop-a.list c.put.new.self c.loop-a.invariant.3 c.put.ensures.same,
)

pub returns-clause-filled : goal.returns-clause-filled
returns-clause-filled c = filled_all c.loop-a.invariant.2 c.requires c.in-None.ensures.steps
