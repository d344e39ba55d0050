-- `input::whole::fill_whole`: what came lies in the buffer, which is as long as it was. The measure is the room that is left: each turn
-- brings bytes, or is the last.
use Rattle.std.proofs.Common.{◌≡◌, ◌-◌, ◌≤◌, length}
use Rattle.input.proofs.whole.fill_whole.Given as goal

abbrev pub invariant-loop-all : goal.invariant-loop-all
invariant-loop-all l = (l.all ≤ length l.buffer) × (length l.buffer ≡ length l.initial.buffer)

abbrev pub decreases-loop-all : goal.decreases-loop-all
decreases-loop-all l = length l.buffer - l.all
