-- `transcript_exchange::judging::judge_accesses` meets its contract: each turn is one of those of `AccessByAccess`.
use Rattle.transcript_exchange.proofs.AccessByAccess.{Judged}
use Rattle.transcript_exchange.proofs.judging.judge_accesses.Given as goal

abbrev pub invariant-loop-a : goal.invariant-loop-a
invariant-loop-a l =
    (goal.iterator-loop-a).can_next l.a-iterator × (goal.iterator-loop-a).is_finite l.a-iterator
    × Judged l.text l.a-iterator.left.now l.count l.wanted
