-- `trial::whole_calls::digest_of` meets its contract: h is the digest of the words that it has been over.
use Rattle.std.proofs.Common.{◌≡◌, length, refl, add-one, arith}
use Rattle.trial.specs.Calls.{digest}
use Rattle.trial.proofs.whole_calls.digest_of.Goals as goal

pub loop-word-init : goal.loop-word-init
unfolding digest
loop-word-init c = refl

pub loop-word-preserved : goal.loop-word-preserved
unfolding digest
loop-word-preserved c = rw (add-one, ← c.loop-word.invariant) (omega arith)

pub returns : goal.returns
returns c =
    let all : c.loop-word.word-index ≡ length c.args.words.now = omega arith in
    rw all at c.loop-word.invariant
