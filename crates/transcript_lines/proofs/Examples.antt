-- Lines and their entries: document 02's write of 1234h to register 2 on both lanes, a read, and what is refused.
use Prim.Native.Nat.{ℕ}
use mathlib.Core.Path.{◌≡◌, refl}
use mathlib.Core.List.{List, [], ◌∷◌}
use Rattle.std.specs.Prelude.{Result, Ok, Err}
use Rattle.digits.specs.Digits.{is_decimal, value_of, digit_for}
use Rattle.listing.specs.Line.{headed, tailed, line_of, before_feed, has_feed, front_line}
use Rattle.listing.specs.Spelled.{lines_of}
use Rattle.transcript_spec.specs.Writing.{no_record}
use Rattle.transcript_spec.specs.declared.Entry.{Entry}
use Rattle.transcript_lines.specs.Lines.{access_of, unsayable, text_of}
use Rattle.transcript_lines.specs.Taking.{takes, taking, take_answer}
use Rattle.transcript_lines.specs.Putting.{first_unsayable, put_answer}
use Rattle.transcript_lines.specs.declared.NotTaken.TheVariants.{BadLine, NoPlaces}
use Rattle.transcript_lines.specs.declared.NotPut.{NotPut}
use Rattle.transcript_lines.specs.declared.NotPut.TheVariants.{Unsayable, NoBytes}

abbrev entry : ℕ → ℕ → ℕ → ℕ → Entry
entry k r l w = record { kind = k; register = r; lanes = l; word = w }

abbrev two : List Entry
two = entry 1 2 3 0x1234 ∷ entry 0 2 3 0 ∷ []

--   W 2 3 1234
--   R 2 3
abbrev lines : List ℕ
lines = 87 ∷ 32 ∷ 50 ∷ 32 ∷ 51 ∷ 32 ∷ 49 ∷ 50 ∷ 51 ∷ 52 ∷ 10 ∷ 82 ∷ 32 ∷ 50 ∷ 32 ∷ 51 ∷ 10 ∷ []

-- the same without the last line feed
abbrev cut : List ℕ
cut = 87 ∷ 32 ∷ 50 ∷ 32 ∷ 51 ∷ 32 ∷ 49 ∷ 50 ∷ 51 ∷ 52 ∷ 10 ∷ 82 ∷ 32 ∷ 50 ∷ 32 ∷ 51 ∷ []

-- A write of 1234h to register 2 on both lanes, and a read of it, are put as the lines `W 2 3 1234` and `R 2 3`.
pub two_put : text_of two ≡ lines
unfolding lines_of access_of digit_for
two_put = refl

-- The lines `W 2 3 1234` and `R 2 3` are taken as a write of 1234h to register 2 on both lanes, and a read of it, and nothing is left.
pub two_taken : taking lines ≡ record { entries = two; left = [] }
unfolding takes front_line has_feed before_feed line_of headed tailed is_decimal value_of
two_taken = refl

-- Two places are enough for two lines, and one is not; "a last one without its line feed" is bad, and one good line stands before it.
pub taken_answers : (take_answer lines 2 ≡ Ok 2) × (take_answer lines 1 ≡ Err NoPlaces) × (take_answer cut 2 ≡ Err (BadLine 1))
unfolding take_answer takes front_line has_feed before_feed line_of headed tailed is_decimal value_of
taken_answers = (refl, refl, refl)

-- Seventeen bytes are enough for the lines `W 2 3 1234` and `R 2 3`, and sixteen are not.
pub put_answered : (put_answer two 17 ≡ Ok 17) × (put_answer two 16 ≡ Err NoBytes)
unfolding put_answer first_unsayable unsayable no_record lines_of access_of
put_answered = (refl, refl)

-- A kind over 1, a register over 9, lanes over 9, a word over 65,535, a read's word that is not 0: each behind an entry that a line can
-- say.
abbrev second : Entry → Result ℕ NotPut
second e = put_answer (entry 1 9 9 65535 ∷ e ∷ []) 100

-- No line can say an entry with a kind over 1, a register over 9, lanes over 9, a word over 65,535, or a read's word that is not 0: it is
-- named by its index, behind one that a line can say.
pub not_put :
    (second (entry 2 0 1 0) ≡ Err (Unsayable 1)) × (second (entry 0 10 1 0) ≡ Err (Unsayable 1)) ×
    (second (entry 0 0 10 0) ≡ Err (Unsayable 1)) × (second (entry 1 0 1 65536) ≡ Err (Unsayable 1)) ×
    (second (entry 0 0 1 1) ≡ Err (Unsayable 1))
unfolding put_answer first_unsayable unsayable no_record
not_put = (refl, refl, refl, refl, refl)
