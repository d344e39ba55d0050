-- `transcript_lines::taking::judge_lines` meets its contract: each turn is one of those of `Turns`.
use lib.ListN.{length}
use Rattle.transcript_lines.proofs.Turns.{Come}
use Rattle.transcript_lines.proofs.taking.judge_lines.Given as goal

abbrev pub invariant-loop-count : goal.invariant-loop-count
invariant-loop-count l = Come l.text l.lines.left.now l.count

abbrev pub decreases-loop-count : goal.decreases-loop-count
decreases-loop-count l = length l.lines.left.now
