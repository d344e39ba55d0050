-- Texts and strings, and what becomes of them, by computation.
use Prim.Native.Nat.{ℕ}
use mathlib.Core.Path.{◌≡◌, refl}
use mathlib.Core.List.{List, [], ◌∷◌, ◌++◌}
use Rattle.std.specs.Prelude.{Ok, Err}
use Rattle.words.specs.Bytes.{are_lanes}
use Rattle.digits.specs.Digits.{is_decimal, value_of}
use Rattle.listing.specs.Line.{headed, tailed, line_of, before_feed, has_feed, front_line}
use Rattle.listing.specs.Spelled.{lines_of}
use Rattle.transcript_spec.specs.Format.{groups, record_of, transcript_of}
use Rattle.transcript_spec.specs.Reading.{with_group, head_read, word_read, byte_taken, feed, feeds, read_answer}
use Rattle.transcript_spec.specs.Writing.{no_record, entry_refusal, first_bad, write_answer}
use Rattle.transcript_lines.specs.Lines.{access_of}
use Rattle.transcript_lines.specs.Taking.{takes, take_answer}
use Rattle.transcript_exchange.specs.Turning.{by_answer, bytes_turned, lines_turned}
use Rattle.transcript_exchange.specs.declared.NotTurned.TheVariants.{BadLine, Refused, TooMany}

-- a line `R r l`, by the digits' bytes
abbrev read_line : ℕ → ℕ → List ℕ
read_line r l = 82 ∷ 32 ∷ r ∷ 32 ∷ l ∷ 10 ∷ []

-- `R 2 3`, `R 4 3`, `R 2 0`
abbrev good : List ℕ
good = read_line 50 51

abbrev no_register : List ℕ
no_register = read_line 52 51

abbrev no_lanes : List ℕ
no_lanes = read_line 50 48

-- what becomes of some texts of lines
pub record Texts : Type 0 where
  -- two reads: two bytes, with two places and two bytes of room, and not with one of either
  pub two : bytes_turned (good ++ good) 2 2 ≡ Ok 2
  pub no_place : bytes_turned (good ++ good) 1 2 ≡ Err TooMany
  pub no_byte : bytes_turned (good ++ good) 2 1 ≡ Err TooMany
  -- the first access that has no record, and its number
  pub register : bytes_turned (good ++ no_register ++ no_lanes) 3 3 ≡ Err (Refused 2 1)
  pub lanes : bytes_turned (no_lanes ++ no_register) 2 2 ≡ Err (Refused 3 0)
  -- a line cut short, behind a good one: whatever the room, and whatever that one's access
  pub cut : bytes_turned (good ++ (82 ∷ [])) 2 2 ≡ Err (BadLine 1)
  pub cut_first : bytes_turned (no_register ++ (82 ∷ [])) 0 0 ≡ Err (BadLine 1)

-- By computation: two reads are two bytes, with two places and two bytes of room, and not with one of either; the first access without a
-- record is named; and a line that is cut short is bad, also with no room and behind an access without a record.
pub seven_texts : Texts
unfolding
    bytes_turned by_answer take_answer takes front_line has_feed before_feed line_of headed tailed is_decimal value_of write_answer
    first_bad entry_refusal no_record are_lanes transcript_of record_of groups
seven_texts = record { two = refl; no_place = refl; no_byte = refl; register = refl; lanes = refl; cut = refl; cut_first = refl }

-- what becomes of some strings of bytes
pub record Strings : Type 0 where
  -- two reads: twelve bytes of lines
  pub two : lines_turned (0x1C ∷ 0x1C ∷ []) 2 12 ≡ Ok 12
  pub no_place : lines_turned (0x1C ∷ 0x1C ∷ []) 1 12 ≡ Err TooMany
  pub no_byte : lines_turned (0x1C ∷ 0x1C ∷ []) 2 11 ≡ Err TooMany
  -- the first bad record, its refusal and its first byte
  pub bad : lines_turned (0x1C ∷ 0x1D ∷ 0x80 ∷ 0x34 ∷ []) 0 0 ≡ Err (Refused 21 1)

-- By computation: two reads are twelve bytes of lines, with two places and twelve bytes of room, and not with one less of either; and the
-- first bad record is named by its refusal and its first byte.
pub four_strings : Strings
unfolding
    lines_turned by_answer read_answer feeds feed byte_taken head_read word_read with_group lines_of access_of
four_strings = record { two = refl; no_place = refl; no_byte = refl; bad = refl }
