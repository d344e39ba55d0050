-- `transcript_lines::putting::fill_text` meets its contract: each turn is one of those of `EntryByEntry`.
use Rattle.transcript_spec.specs.Lists.{entries_in}
use Rattle.transcript_lists.specs.Lent.{lists_of, entries_left}
use Rattle.transcript_lines.proofs.EntryByEntry.{Laid}
use Rattle.transcript_lines.proofs.putting.fill_text.Given as goal

abbrev pub invariant-loop-e : goal.invariant-loop-e
invariant-loop-e l = Laid (entries_in (lists_of l.fn.list)) l.fn.text l.text l.at (entries_left l.e-iterator)
