-- What is found in short strings, by computation: records of one byte and of three, a bad one behind them, and one that is cut off; and
-- strings that go on with a record.
use mathlib.Core.Path.{◌≡◌, refl}
use mathlib.Core.Bool.{true, false}
use mathlib.Core.List.{[], ◌∷◌}
use Rattle.transcript_spec.specs.Reading.{none, fresh, with_group, head_read, word_read, byte_taken, feed, feeds}
use Rattle.transcript_spec.specs.declared.Part.TheVariants.{Head, Word}
use Rattle.transcript_scan.specs.Scan.{scanned, scanned_on}

-- what is found in some short strings, from a fresh start or from a part of a record on
pub record Finds : Type 0 where
  pub nothing : scanned [] ≡ record { entries = 0; place = 0; refusal = 0 }
  pub all_good : scanned (0x1E ∷ 0x1D ∷ 0xA4 ∷ 0x34 ∷ []) ≡ record { entries = 2; place = 4; refusal = 0 }
  pub bad : scanned (0x1E ∷ 0x1D ∷ 0xA4 ∷ 0x34 ∷ 0x07 ∷ 0x1E ∷ []) ≡ record { entries = 2; place = 4; refusal = 23 }
  pub cut_off : scanned (0x1E ∷ 0x1D ∷ 0xA4 ∷ []) ≡ record { entries = 1; place = 1; refusal = 20 }
  -- behind 1Dh A4h: the word is finished, a write of 0 follows, and another goes on behind the string
  pub goes_on :
      scanned_on (Word 0x1D (record { begun = true; padded = false; value = 0x24 })) (0x34 ∷ 0x1D ∷ 0x00 ∷ 0x1D ∷ []) ≡
      record { entries = 2; place = 3; next = 4; part = Word 0x1D none; refusal = 0 }
  -- behind 80h: its record began before the string, and nothing is read behind it
  pub bad_from_before :
      scanned_on (Head (record { begun = true; padded = true; value = 0 })) (0x1D ∷ 0x1E ∷ []) ≡
      record { entries = 0; place = 0; next = 1; part = fresh; refusal = 21 }

-- In short strings, by computation: records of one byte and of three are counted, and a bad one or one that is cut off has its place and
-- its refusal; in strings that go on with a record, nothing is read behind a bad one.
pub finds : Finds
unfolding with_group head_read word_read byte_taken feed feeds
finds = record { nothing = refl; all_good = refl; bad = refl; cut_off = refl; goes_on = refl; bad_from_before = refl }
