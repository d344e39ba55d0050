-- The worked examples hold, in one statement: worked out by the definitions, they are what they were. By computation.
use mathlib.Core.Path.{◌≡◌, refl}
use mathlib.Core.List.{map}
use Rattle.transcript_spec.specs.Reading.{with_group, head_read, word_read, byte_taken, feed, feeds}
use Rattle.salvage_spec.specs.Pieces.{held_of, piece_taken, piece_written, pieces_taken, pieces_written}
use Rattle.salvage_spec.specs.Salvage.{salvage_answer, bytes_after}
use Rattle.salvage_spec.specs.Examples.{worked, wholes, cuts, examples}

-- The worked examples of `specs/Examples` hold, by computation: each stop, in heads and in words, 24 at its edge, and inputs in pieces.
pub examples_hold : map worked examples ≡ examples
unfolding
    examples wholes cuts with_group head_read word_read byte_taken feed feeds salvage_answer bytes_after held_of piece_taken piece_written
    pieces_taken pieces_written
examples_hold = refl
