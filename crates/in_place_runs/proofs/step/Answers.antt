-- `in_place_runs::step` meets its contract, by its test of the kind.
use borrow.Author.Tests.{eq-eqb, ne_eqb}
use Rattle.in_place_runs.specs.Script.{access_in}
use Rattle.in_place_runs.proofs.step.Goals as goal

pub returns-then-access-eq0 : goal.returns-then-access-eq0
unfolding access_in
returns-then-access-eq0 g c =
    rw (eq-eqb _ _ c.if-access-eq0.true) c.read.ensures

pub returns : goal.returns
unfolding access_in
returns g c =
    rw (ne_eqb _ _ c.if-access-eq0.false) c.write.ensures
