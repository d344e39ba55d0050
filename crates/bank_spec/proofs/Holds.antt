-- The worked examples hold, in one statement: worked out by the definitions, they are what they were. By computation.
use mathlib.Core.Path.{◌≡◌, refl}
use mathlib.Core.List.{map}
use Rattle.words.specs.Bytes.{bit, are_lanes}
use Rattle.bank_spec.specs.Registers.{bank_at, with_bank, half, with_half, value_of, with_value, half_at, with_half_at}
use Rattle.bank_spec.specs.Access.{refusal, read_answer, write_answer}
use Rattle.bank_spec.specs.Decode.{agrees_at, agrees_below, agrees, in_turn, admits, selects, decoded}
use Rattle.bank_spec.specs.Examples.{worked, sample_map, order, bytes, no_lanes, wrap, special, refresh, several, seen, examples}

-- The worked examples of `specs/Examples` hold, by computation: the paper's sample memory map, written half by half and decoded inside and
-- just outside each range; the order of the places; byte accesses and lanes that are none; an index above 15; each kind of cycle by each of
-- its own bits of the control word, and some with the others set too; several banks at once; decodes before and after a write.
pub examples_hold : map worked examples ≡ examples
unfolding
    examples sample_map order bytes no_lanes wrap special refresh several seen bit are_lanes bank_at with_bank half with_half value_of
    with_value half_at with_half_at refusal read_answer write_answer agrees_at agrees_below agrees in_turn admits selects decoded
examples_hold = refl
