-- `transcript_lines::putting::judge_room` meets its contract: each turn is one of those of `EntryByEntry`.
use Rattle.transcript_spec.specs.Lists.{entries_in}
use Rattle.transcript_lists.specs.Lent.{lists_of, entries_left}
use Rattle.transcript_lines.proofs.EntryByEntry.{Measured}
use Rattle.transcript_lines.proofs.putting.judge_room.Given as goal

abbrev pub invariant-loop-e : goal.invariant-loop-e
invariant-loop-e l = Measured (entries_in (lists_of l.fn.list)) l.room l.left (entries_left l.e-iterator)
