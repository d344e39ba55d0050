-- What the loop of `trial::whole_calls::digest_of` keeps: h is the digest of the words that it has been over.
use Rattle.std.proofs.Common.{◌≡◌}
use Rattle.trial.specs.Calls.{digest}
use Rattle.trial.proofs.whole_calls.digest_of.Given as goal

abbrev pub invariant-loop-word : goal.invariant-loop-word
invariant-loop-word l = l.h ≡ digest l.words l.word-index
