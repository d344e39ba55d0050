-- Document 01's listing, and a second one that meets what it leaves out: the first read after reset, the end of memory, one byte
-- alone, refusals, and a bad line with a good one behind it. The memories here are short: no line looks further into them.
use Prim.Native.Nat.{ℕ}
use mathlib.Core.Path.{◌≡◌, refl}
use mathlib.Core.List.{List, [], ◌∷◌}
use Rattle.port_spec.specs.Sequences.{Machine, answer_of, after}
use Rattle.port_spec.specs.Deeds.{woken}
use Rattle.words.specs.Bytes.{bit, takes_low, takes_high, are_lanes, lay}
use Rattle.words.specs.Memory.{fetch_at, store_at}
use Rattle.control.specs.Control.{closes, fetches, bare, low_parts, host_low}
use Rattle.registers.specs.Registers.{register_word, written, half_written}
use Rattle.port_spec.specs.Cycle.{carried, memory_after, after_fetch, after_store, cycle_of, stepped}
use Rattle.port_spec.specs.Host.{access, access_memory, done, refusal, begin_access, read_due, write_due}
use Rattle.digits.specs.Digits.{is_decimal, value_of, digit_for}
use Rattle.listing.specs.Line.{headed, tailed, line_of}
use Rattle.listing.specs.Answer.{number_text, shows_mark, mark_text, cycle_text, answer_text}
use Rattle.listing.specs.Listing.{next, listing}
use Rattle.listing.specs.Pieces.{printed}

--   W 3 3 0800
--   W 0 3 0000
--   W 1 3 0000
--   W 2 3 1234
--   R 2 3
--   R 2 3
abbrev input : List ℕ
input =
    87 ∷ 32 ∷ 51 ∷ 32 ∷ 51 ∷ 32 ∷ 48 ∷ 56 ∷ 48 ∷ 48 ∷ 10 ∷
    87 ∷ 32 ∷ 48 ∷ 32 ∷ 51 ∷ 32 ∷ 48 ∷ 48 ∷ 48 ∷ 48 ∷ 10 ∷
    87 ∷ 32 ∷ 49 ∷ 32 ∷ 51 ∷ 32 ∷ 48 ∷ 48 ∷ 48 ∷ 48 ∷ 10 ∷
    87 ∷ 32 ∷ 50 ∷ 32 ∷ 51 ∷ 32 ∷ 49 ∷ 50 ∷ 51 ∷ 52 ∷ 10 ∷
    82 ∷ 32 ∷ 50 ∷ 32 ∷ 51 ∷ 10 ∷
    82 ∷ 32 ∷ 50 ∷ 32 ∷ 51 ∷ 10 ∷
    []

--   0 0000 - none
--   0 0000 - none
--   0 0000 - in
--   0 0000 - in
--   0 1234 held in
--   0 0000 held in
abbrev output : List ℕ
output =
    48 ∷ 32 ∷ 48 ∷ 48 ∷ 48 ∷ 48 ∷ 32 ∷ 45 ∷ 32 ∷ 110 ∷ 111 ∷ 110 ∷ 101 ∷ 10 ∷
    48 ∷ 32 ∷ 48 ∷ 48 ∷ 48 ∷ 48 ∷ 32 ∷ 45 ∷ 32 ∷ 110 ∷ 111 ∷ 110 ∷ 101 ∷ 10 ∷
    48 ∷ 32 ∷ 48 ∷ 48 ∷ 48 ∷ 48 ∷ 32 ∷ 45 ∷ 32 ∷ 105 ∷ 110 ∷ 10 ∷
    48 ∷ 32 ∷ 48 ∷ 48 ∷ 48 ∷ 48 ∷ 32 ∷ 45 ∷ 32 ∷ 105 ∷ 110 ∷ 10 ∷
    48 ∷ 32 ∷ 49 ∷ 50 ∷ 51 ∷ 52 ∷ 32 ∷ 104 ∷ 101 ∷ 108 ∷ 100 ∷ 32 ∷ 105 ∷ 110 ∷ 10 ∷
    48 ∷ 32 ∷ 48 ∷ 48 ∷ 48 ∷ 48 ∷ 32 ∷ 104 ∷ 101 ∷ 108 ∷ 100 ∷ 32 ∷ 105 ∷ 110 ∷ 10 ∷
    []

-- Document 01's listing prints its "Whole output (number, word, hollow or held, cycle)".
pub document_listing : printed (woken (0 ∷ 0 ∷ [])) input ≡ output
unfolding
    listing next line_of headed tailed is_decimal value_of digit_for number_text shows_mark mark_text cycle_text answer_text
    answer_of after access access_memory done refusal begin_access read_due write_due
    carried memory_after after_fetch after_store cycle_of stepped written half_written register_word
    closes fetches bare low_parts host_low bit takes_low takes_high are_lanes lay fetch_at store_at
document_listing = refl

-- The eighth line has a space too many.
--   R 2 3
--   W 3 2 1000
--   W 1 3 0000
--   R 2 3
--   R 2 1
--   W 9 3 FFFF
--   R 2 0
--   R 2 3
--   R 2 3
abbrev more_input : List ℕ
more_input =
    82 ∷ 32 ∷ 50 ∷ 32 ∷ 51 ∷ 10 ∷
    87 ∷ 32 ∷ 51 ∷ 32 ∷ 50 ∷ 32 ∷ 49 ∷ 48 ∷ 48 ∷ 48 ∷ 10 ∷
    87 ∷ 32 ∷ 49 ∷ 32 ∷ 51 ∷ 32 ∷ 48 ∷ 48 ∷ 48 ∷ 48 ∷ 10 ∷
    82 ∷ 32 ∷ 50 ∷ 32 ∷ 51 ∷ 10 ∷
    82 ∷ 32 ∷ 50 ∷ 32 ∷ 49 ∷ 10 ∷
    87 ∷ 32 ∷ 57 ∷ 32 ∷ 51 ∷ 32 ∷ 70 ∷ 70 ∷ 70 ∷ 70 ∷ 10 ∷
    82 ∷ 32 ∷ 50 ∷ 32 ∷ 48 ∷ 10 ∷
    82 ∷ 32 ∷ 50 ∷ 32 ∷ 51 ∷ 32 ∷ 10 ∷
    82 ∷ 32 ∷ 50 ∷ 32 ∷ 51 ∷ 10 ∷
    []

--   0 0000 hollow in
--   0 0000 - none
--   0 0000 - in
--   0 1234 held empty
--   0 00FF hollow none
--   2 0000 - none
--   3 0000 - none
--   bad line
abbrev more_output : List ℕ
more_output =
    48 ∷ 32 ∷ 48 ∷ 48 ∷ 48 ∷ 48 ∷ 32 ∷ 104 ∷ 111 ∷ 108 ∷ 108 ∷ 111 ∷ 119 ∷ 32 ∷ 105 ∷ 110 ∷ 10 ∷
    48 ∷ 32 ∷ 48 ∷ 48 ∷ 48 ∷ 48 ∷ 32 ∷ 45 ∷ 32 ∷ 110 ∷ 111 ∷ 110 ∷ 101 ∷ 10 ∷
    48 ∷ 32 ∷ 48 ∷ 48 ∷ 48 ∷ 48 ∷ 32 ∷ 45 ∷ 32 ∷ 105 ∷ 110 ∷ 10 ∷
    48 ∷ 32 ∷ 49 ∷ 50 ∷ 51 ∷ 52 ∷ 32 ∷ 104 ∷ 101 ∷ 108 ∷ 100 ∷ 32 ∷ 101 ∷ 109 ∷ 112 ∷ 116 ∷ 121 ∷ 10 ∷
    48 ∷ 32 ∷ 48 ∷ 48 ∷ 70 ∷ 70 ∷ 32 ∷ 104 ∷ 111 ∷ 108 ∷ 108 ∷ 111 ∷ 119 ∷ 32 ∷ 110 ∷ 111 ∷ 110 ∷ 101 ∷ 10 ∷
    50 ∷ 32 ∷ 48 ∷ 48 ∷ 48 ∷ 48 ∷ 32 ∷ 45 ∷ 32 ∷ 110 ∷ 111 ∷ 110 ∷ 101 ∷ 10 ∷
    51 ∷ 32 ∷ 48 ∷ 48 ∷ 48 ∷ 48 ∷ 32 ∷ 45 ∷ 32 ∷ 110 ∷ 111 ∷ 110 ∷ 101 ∷ 10 ∷
    98 ∷ 97 ∷ 100 ∷ 32 ∷ 108 ∷ 105 ∷ 110 ∷ 101 ∷ 10 ∷
    []

-- A second listing, in a memory of one word, 1234h, with a hollow word, the end of memory, where the last word is held and what is fetched
-- behind it hollow, refusals and a bad line.
pub second_listing : printed (woken (0x1234 ∷ [])) more_input ≡ more_output
unfolding
    listing next line_of headed tailed is_decimal value_of digit_for number_text shows_mark mark_text cycle_text answer_text
    answer_of after access access_memory done refusal begin_access read_due write_due
    carried memory_after after_fetch after_store cycle_of stepped written half_written register_word
    closes fetches bare low_parts host_low bit takes_low takes_high are_lanes lay fetch_at store_at
second_listing = refl

-- An empty listing prints nothing: "empty input prints nothing".
pub empty_listing : (s : Machine) → printed s [] ≡ []
unfolding listing
empty_listing s = refl
