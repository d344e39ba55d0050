-- `transcript_lines::putting::find_unsayable` meets its contract: the iterator gives the entries of the list.
use Rattle.std.proofs.Common.{rules}
use Rattle.std.proofs.lemmas.Iterator.Search.{position_from_yields_List}
use Rattle.transcript_lists.proofs.EachEntry.{all_given}
use Rattle.transcript_lines.specs.Lines.{unsayable}
use Rattle.transcript_lines.proofs.putting.find_unsayable.Goals as goal

pub returns : goal.returns
returns c =
    position_from_yields_List unsayable c.position.new.self _ _ c.position.ensures.ran (all_given c.entries.ensures.all)
    (λ x b q k. search rules)
