-- What records say and leave, by computation: the record whose byte k is k, so that each byte of a number tells its place; and short ones,
-- carried out.
use Prim.Native.Nat.{ℕ, zero, suc}
use mathlib.Core.Path.{◌≡◌, refl}
use mathlib.Core.List.{List, [], ◌∷◌}
use Rattle.words.specs.Bytes.{are_lanes}
use Rattle.transcript_spec.specs.Format.{groups, record_of, transcript_of}
use Rattle.transcript_spec.specs.Lists.{Lists, lists, entries_from}
use Rattle.transcript_spec.specs.Reading.{with_group, head_read, word_read, byte_taken, feed, feeds, read_answer, lists_after}
use Rattle.transcript_spec.specs.Writing.{refused, accepted, no_record, entry_refusal, first_bad, write_answer, bytes_after}
use Rattle.transcript_trial.specs.Record.{lists_in, string_lent, string_back, lists_lent, lists_returned}
use Rattle.transcript_trial.specs.CarriedOut.{called_answer, called_string, called_lists}
use Rattle.transcript_trial.specs.CarriedOut.{answer_from, string_from, lists_from, CarriedOut}

-- n numbers from k on
abbrev counting : ℕ → ℕ → List ℕ
counting k zero = []
counting k (suc n) = k ∷ counting (suc k) n

abbrev own_places : List ℕ
own_places = counting 0 104

-- a write of 1234h to register 2 on both lanes, a read of register 3 on both lanes, and two places more
abbrev four : Lists
four = lists (1 ∷ 0 ∷ 7 ∷ 7 ∷ []) (2 ∷ 3 ∷ 7 ∷ 7 ∷ []) (3 ∷ 3 ∷ 7 ∷ 7 ∷ []) (0x1234 ∷ 0 ∷ 7 ∷ 7 ∷ [])

-- four lists that no number is in twice
abbrev apart : Lists
apart = lists (counting 10 6) (counting 20 6) (counting 30 6) (counting 40 6)

-- six bytes: those of a read of register 0 on the low lane, those of the write above, two bad heads
abbrev six : List ℕ
six = 0x08 ∷ 0x1D ∷ 0xA4 ∷ 0x34 ∷ 0x07 ∷ 0x20 ∷ []

-- what records say, and what they lend of a string and of four lists
pub record Says : Type 0 where
  -- "six kinds, six registers, six lanes, six words", from byte 8 on
  pub lists_held :
      lists_in own_places ≡
      lists (0x0b0a0908 ∷ 0x0f0e0d0c ∷ 0x13121110 ∷ 0x17161514 ∷ 0x1b1a1918 ∷ 0x1f1e1d1c ∷ [])
      (0x23222120 ∷ 0x27262524 ∷ 0x2b2a2928 ∷ 0x2f2e2d2c ∷ 0x33323130 ∷ 0x37363534 ∷ [])
      (0x3b3a3938 ∷ 0x3f3e3d3c ∷ 0x43424140 ∷ 0x47464544 ∷ 0x4b4a4948 ∷ 0x4f4e4d4c ∷ [])
      (0x53525150 ∷ 0x57565554 ∷ 0x5b5a5958 ∷ 0x5f5e5d5c ∷ 0x63626160 ∷ 0x67666564 ∷ [])
  -- one byte of the string is lent, two kinds, three registers, four lanes, five words
  pub string_part : string_lent own_places six ≡ 0x08 ∷ []
  pub lists_part :
      lists_lent own_places apart ≡
      lists (10 ∷ 11 ∷ []) (20 ∷ 21 ∷ 22 ∷ []) (30 ∷ 31 ∷ 32 ∷ 33 ∷ []) (40 ∷ 41 ∷ 42 ∷ 43 ∷ 44 ∷ [])
  -- more than there are: all of them
  pub no_more : lists_lent (0 ∷ 0 ∷ 7 ∷ 255 ∷ 6 ∷ 7 ∷ []) apart ≡ apart
  -- a byte that is not there counts as 0
  pub no_bytes : lists_lent [] apart ≡ lists [] [] [] []
  -- and what is lent comes back as other numbers
  pub string_again : string_back own_places six (0xEE ∷ []) ≡ 0xEE ∷ 0x1D ∷ 0xA4 ∷ 0x34 ∷ 0x07 ∷ 0x20 ∷ []
  pub lists_again :
      lists_returned own_places apart (lists (1 ∷ 1 ∷ []) (2 ∷ 2 ∷ 2 ∷ []) (3 ∷ 3 ∷ 3 ∷ 3 ∷ []) (4 ∷ 4 ∷ 4 ∷ 4 ∷ 4 ∷ [])) ≡
      lists (1 ∷ 1 ∷ 12 ∷ 13 ∷ 14 ∷ 15 ∷ []) (2 ∷ 2 ∷ 2 ∷ 23 ∷ 24 ∷ 25 ∷ []) (3 ∷ 3 ∷ 3 ∷ 3 ∷ 34 ∷ 35 ∷ [])
      (4 ∷ 4 ∷ 4 ∷ 4 ∷ 4 ∷ 45 ∷ [])

-- The lists are read from the record's bytes from byte 8 on, low byte first; as many places are lent as it says, or all where there are
-- fewer; and what is lent comes back at its places.
pub they_say : Says
they_say =
    record {
      lists_held = refl;
      string_part = refl;
      lists_part = refl;
      no_more = refl;
      no_bytes = refl;
      string_again = refl;
      lists_again = refl;
    }

-- what short records leave, carried out
pub record Leaves : Type 0 where
  -- the writer, lent two entries and five bytes: four are written, and the lists stay
  pub written :
      CarriedOut (4 ∷ 5 ∷ 2 ∷ 3 ∷ 4 ∷ 4 ∷ []) six four (accepted 4) (0x1D ∷ 0xA4 ∷ 0x34 ∷ 0x1E ∷ 0x07 ∷ 0x20 ∷ []) four
  -- lent two bytes: 24
  pub too_long : CarriedOut (4 ∷ 2 ∷ 2 ∷ 3 ∷ 4 ∷ 4 ∷ []) six four (refused 24 0) six four
  -- lent three entries: the third is bad
  pub bad_entry : CarriedOut (4 ∷ 5 ∷ 3 ∷ 3 ∷ 4 ∷ 4 ∷ []) six four (refused 2 2) six four
  -- the reader, lent four bytes and places for two entries: the other places and the string stay
  pub read :
      CarriedOut (5 ∷ 4 ∷ 2 ∷ 3 ∷ 4 ∷ 4 ∷ []) six four (accepted 2) six
      (lists (0 ∷ 1 ∷ 7 ∷ 7 ∷ []) (0 ∷ 2 ∷ 7 ∷ 7 ∷ []) (1 ∷ 3 ∷ 7 ∷ 7 ∷ []) (0 ∷ 0x1234 ∷ 7 ∷ 7 ∷ []))
  -- lent places for one: 24
  pub too_many : CarriedOut (5 ∷ 4 ∷ 4 ∷ 3 ∷ 2 ∷ 1 ∷ []) six four (refused 24 0) six four
  -- lent all bytes: the record from the fifth on is bad
  pub bad_record : CarriedOut (255 ∷ 255 ∷ 4 ∷ 4 ∷ 4 ∷ 4 ∷ []) six four (refused 23 4) six four

-- By computation: the writer, with room for its records, with too little and with a bad entry; and the reader, with room for its entries,
-- with too little and with a bad record.
pub they_leave : Leaves
unfolding
    answer_from string_from lists_from called_answer called_string called_lists are_lanes groups record_of transcript_of entries_from
    with_group head_read word_read byte_taken feed feeds read_answer lists_after no_record entry_refusal first_bad write_answer bytes_after
they_leave =
    record {
      written = record { answer = refl; string = refl; lists = refl };
      too_long = record { answer = refl; string = refl; lists = refl };
      bad_entry = record { answer = refl; string = refl; lists = refl };
      read = record { answer = refl; string = refl; lists = refl };
      too_many = record { answer = refl; string = refl; lists = refl };
      bad_record = record { answer = refl; string = refl; lists = refl };
    }
