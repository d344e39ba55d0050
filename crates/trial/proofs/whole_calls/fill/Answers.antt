-- `trial::whole_calls::fill` meets its contract: after k turns the first k words are filled, and the next word to lay down is known.
use Rattle.std.proofs.Common.{refl, arith}
use Rattle.trial.specs.Calls.{filled}
use Rattle.trial.proofs.whole_calls.fill.Invariants.{turned, ended}
use Rattle.trial.proofs.whole_calls.fill.Goals as goal

pub loop-place-init : goal.loop-place-init
unfolding filled
loop-place-init c = record { most = omega arith; room = refl; laid = refl; next = omega arith; steps = refl }

pub loop-place-preserved : goal.loop-place-preserved
loop-place-preserved c = turned c.loop-place.invariant c.loop-place-test.true

pub returns : goal.returns
returns c = ended c.loop-place.invariant (omega arith)
