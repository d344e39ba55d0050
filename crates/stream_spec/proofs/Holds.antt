-- The worked examples hold, in one statement: worked out by the definitions, they are what they were. By computation.
use mathlib.Core.Path.{◌≡◌, refl}
use mathlib.Core.List.{map}
use Rattle.transcript_spec.specs.Lists.{entries_from}
use Rattle.transcript_spec.specs.Reading.{with_group, head_read, word_read, byte_taken, feed, feeds}
use Rattle.stream_spec.specs.Stream.{barred, delivery_answer, lists_after, end_answer}
use Rattle.stream_spec.specs.Examples.{worked, cuts, bad, small, after_the_end, limit, made_up, examples}

-- The worked examples of `specs/Examples` hold, by computation: cuts, each refusal across a cut, 24 and again, 25, 26 at its edge, and
-- streams that a caller made up.
pub examples_hold : map worked examples ≡ examples
unfolding
    examples cuts bad small after_the_end limit made_up entries_from with_group head_read word_read byte_taken feed feeds barred
    delivery_answer lists_after
    end_answer
examples_hold = refl
