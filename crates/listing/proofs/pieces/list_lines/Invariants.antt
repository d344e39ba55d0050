-- `listing::pieces::list_lines` meets its contract: each turn is one of those of `Turns`.
use lib.ListN.{length}
use Rattle.listing.proofs.Turns.{Left}
use Rattle.listing.proofs.pieces.list_lines.Given as goal

abbrev pub invariant-loop-a : goal.invariant-loop-a
invariant-loop-a l = Left l.fn.r l.fn.memory l.input l.fn.output l.memory l.output l.registers l.lines.left.now l.wrote

abbrev pub decreases-loop-a : goal.decreases-loop-a
decreases-loop-a l = length l.lines.left.now
