-- `transcript_lines::taking::fill_lists` meets its contract: each turn is one of those of `Filling`.
use Rattle.transcript_lists.specs.Lent.{lists_in, SameLists}
use Rattle.transcript_lines.proofs.Filling.{Filled}
use Rattle.transcript_lines.proofs.taking.fill_lists.Given as goal

abbrev pub invariant-loop-a : goal.invariant-loop-a
invariant-loop-a l =
    (goal.iterator-loop-a).can_next l.a-iterator × (goal.iterator-loop-a).is_finite l.a-iterator
    × Filled l.text l.a-iterator.left.now (lists_in l.initial.list) (lists_in l.list) l.i × SameLists l.initial.list l.list
