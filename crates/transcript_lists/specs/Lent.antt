-- The four lists that a call is lent, held together.
--   lists_of l         the numbers in the lists of a call that reads them
--   lists_in l         the numbers in the lists of a call that fills them
--   entries_left s     the entries that are still to come of the iterator over them
--   SameLists l l'     they are the same four slices, whatever stands in them
use Rattle.std.specs.Prelude.{◌≡◌, ◌-◌, List}
use Rattle.transcript_spec.specs.Lists.{Lists, lists, size, entries_from}
use Rattle.transcript_spec.specs.declared.Entry.{Entry}
use Rattle.transcript_lists.specs.declared.Entries.{Entries}
use Rattle.transcript_lists.specs.declared.Lists.{Lists as Shared}
use Rattle.transcript_lists.specs.declared.ListsMut.{ListsMut as Lent}

abbrev pub lists_of : Shared → Lists
lists_of l = lists l.kinds.now l.registers.now l.lanes.now l.words.now

abbrev pub lists_in : Lent → Lists
lists_in l = lists l.kinds.now l.registers.now l.lanes.now l.words.now

abbrev pub entries_left : Entries → List Entry
entries_left s = let l = lists_of s.list in entries_from l s.place (size l - s.place)

abbrev pub SameLists : Lent → Lent → Type 0
SameLists l l' =
    (l'.kinds.ghost_name ≡ l.kinds.ghost_name) × (l'.registers.ghost_name ≡ l.registers.ghost_name) ×
    (l'.lanes.ghost_name ≡ l.lanes.ghost_name) × (l'.words.ghost_name ≡ l.words.ghost_name)
