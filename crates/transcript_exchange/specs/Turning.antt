-- What becomes of an input: document 02, request (ii), and the lines of `portlist` (ours).
--   by_answer o done           what a writer's or a reader's answer means; `done` where it refuses nothing
--   not_turned e                why a text is not turned, by why its lines are not taken
--   by_taken x entries_written  what the answer of taking lines means; `entries_written` where all are taken
--   entries_written es room    what becomes of a list of entries, with so many bytes of output
--   done_if_fits n room        what becomes of lines of n bytes, with so many bytes of output
--   bytes_turned t room out    what becomes of a text, with lists for so many entries and so many bytes of output
--   lines_turned s room out    what becomes of a string, likewise
--   is_done                    it is turned
--   lists_left, output_left    the lists and the output afterwards
--   ToBytes, ToLines           all this, as the contracts of the two calls
use Rattle.std.specs.Prelude.{ℕ, ◌≡◌, Bool, true, false, cond, List, eqb, ltb, length, Result, Ok, Err}
use Rattle.transcript_spec.specs.Lists.{Lists, size, over, with_entries}
use Rattle.transcript_spec.specs.Format.{transcript_of}
use Rattle.transcript_spec.specs.Reading.{entries_read, read_answer}
use Rattle.transcript_spec.specs.Writing.{write_answer}
use Rattle.transcript_spec.specs.declared.Entry.{Entry}
use Rattle.transcript_spec.specs.declared.Transcribed.{Transcribed}
use Rattle.transcript_lines.specs.Lines.{text_of}
use Rattle.transcript_lines.specs.Taking.{taking, take_answer}
use Rattle.transcript_lines.specs.declared.NotTaken.{NotTaken}
use Rattle.transcript_lines.specs.declared.NotTaken.TheVariants as taken
use Rattle.transcript_exchange.specs.declared.NotTurned.{NotTurned}
use Rattle.transcript_exchange.specs.declared.NotTurned.TheVariants as turned

-- 24 names no place: all records are good, and there are too many
unfoldable pub by_answer : Transcribed → Result ℕ NotTurned → Result ℕ NotTurned
by_answer o done =
    cond (eqb o.number 0) done (cond (eqb o.number 24) (Err turned.TooMany) (Err (turned.Refused o.number o.place)))

-- ---- lines to bytes: the lines are taken, and their entries written

abbrev pub not_turned : NotTaken → NotTurned
not_turned (taken.BadLine k) = turned.BadLine k
not_turned taken.NoPlaces = turned.TooMany

abbrev pub by_taken : Result ℕ NotTaken → Result ℕ NotTurned → Result ℕ NotTurned
by_taken (Ok n) written = written
by_taken (Err e) written = Err (not_turned e)

abbrev pub entries_written : List Entry → ℕ → Result ℕ NotTurned
entries_written es room = by_answer (write_answer es room) (Ok (write_answer es room).count)

unfoldable pub bytes_turned : List ℕ → ℕ → ℕ → Result ℕ NotTurned
bytes_turned t room out = by_taken (take_answer t room) (entries_written (taking t).entries out)

-- ---- bytes to lines: the records are read, and their entries put as lines; each entry of a good record has one

abbrev pub done_if_fits : ℕ → ℕ → Result ℕ NotTurned
done_if_fits n room = cond (ltb room n) (Err turned.TooMany) (Ok n)

unfoldable pub lines_turned : List ℕ → ℕ → ℕ → Result ℕ NotTurned
lines_turned s room out = by_answer (read_answer s room) (done_if_fits (length (text_of (entries_read s))) out)

-- ---- what is left: "A refusal returns zeros ..; nothing lent or passed on changes"

abbrev pub is_done : Result ℕ NotTurned → Bool
is_done (Ok n) = true
is_done (Err e) = false

-- turned, the lists hold the entries in their first places, and the output the bytes or lines of these
abbrev pub lists_left : Result ℕ NotTurned → List Entry → Lists → Lists
lists_left o es l = cond (is_done o) (with_entries es l) l

abbrev pub output_left : Result ℕ NotTurned → List ℕ → List ℕ → List ℕ
output_left o text out = cond (is_done o) (over text out) out

pub record ToBytes (t : List ℕ) (l : Lists) (out : List ℕ) (o : Result ℕ NotTurned) (l' : Lists) (out' : List ℕ) : Type 0 where
  pub answer : o ≡ bytes_turned t (size l) (length out)
  pub lists : l' ≡ lists_left o (taking t).entries l
  pub output : out' ≡ output_left o (transcript_of (taking t).entries) out

pub record ToLines (s : List ℕ) (l : Lists) (out : List ℕ) (o : Result ℕ NotTurned) (l' : Lists) (out' : List ℕ) : Type 0 where
  pub answer : o ≡ lines_turned s (size l) (length out)
  pub lists : l' ≡ lists_left o (entries_read s) l
  pub output : out' ≡ output_left o (text_of (entries_read s)) out
