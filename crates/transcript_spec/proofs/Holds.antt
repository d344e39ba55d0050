-- The worked examples hold, in one statement: worked out by the definitions, they are what they were. By computation.
use mathlib.Core.Path.{◌≡◌, refl}
use mathlib.Core.List.{[], ◌∷◌, map}
use Rattle.words.specs.Bytes.{are_lanes}
use Rattle.transcript_spec.specs.Format.{groups, record_of, transcript_of}
use Rattle.transcript_spec.specs.Lists.{lists, entries_from, entries_in}
use Rattle.transcript_spec.specs.Reading.{with_group, head_read, word_read, byte_taken, feed, feeds, read_answer, lists_after}
use Rattle.transcript_spec.specs.Writing.{no_record, entry_refusal, first_bad, write_answer, bytes_after}
use Rattle.transcript_spec.specs.Examples.{entry, worked, reads, writes, examples}

-- The worked examples of `specs/Examples` hold, by computation: 1Dh A4h 34h both ways, every good head, each refusal and the order of any
-- two, heads 0 to 7, forty bytes, and what each call leaves.
pub examples_hold : map worked examples ≡ examples
unfolding
    examples reads writes are_lanes groups record_of transcript_of entries_from with_group head_read word_read byte_taken feed feeds
    read_answer
    lists_after no_record entry_refusal first_bad write_answer bytes_after
examples_hold = refl

-- Four lists that are not equally long: the shortest counts.
pub shortest_counts : entries_in (lists (1 ∷ 5 ∷ []) (2 ∷ []) (3 ∷ 6 ∷ []) (0x1234 ∷ 7 ∷ 8 ∷ [])) ≡ entry 1 2 3 0x1234 ∷ []
unfolding entries_from
shortest_counts = refl
