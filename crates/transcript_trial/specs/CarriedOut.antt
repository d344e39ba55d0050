-- A record carried out: crates/transcript_trial/src/main.rt.
--   called_answer, called_string, called_lists   of a call of the reader, or else of the writer: its answer, and what it leaves of the
--                                                string and of the lists that it is lent
--   answer_from, string_from, lists_from         the same of a record's call, which is lent parts
--   Called, CarriedOut                           these, as the contracts of a call and of carrying out a record
use Rattle.std.specs.Prelude.{ℕ, ◌≡◌, Bool, cond, List, length}
use Rattle.transcript_spec.specs.Lists.{Lists, size, entries_in}
use Rattle.transcript_spec.specs.Reading.{read_answer, lists_after}
use Rattle.transcript_spec.specs.Writing.{write_answer, bytes_after}
use Rattle.transcript_spec.specs.declared.Transcribed.{Transcribed}
use Rattle.transcript_trial.specs.Record.{is_read, string_lent, string_back, lists_lent, lists_returned}

-- ---- a call, on all of a string and of four lists
module _ (reader : Bool) (s : List ℕ) (l : Lists) where
  unfoldable pub called_answer : Transcribed
  called_answer = cond reader (read_answer s (size l)) (write_answer (entries_in l) (length s))

  unfoldable pub called_string : List ℕ
  called_string = cond reader s (bytes_after (entries_in l) s)

  unfoldable pub called_lists : Lists
  called_lists = cond reader (lists_after s l) l

pub record Called (reader : Bool) (s : List ℕ) (l : Lists) (o : Transcribed) (s' : List ℕ) (l' : Lists) : Type 0 where
  pub answer : o ≡ called_answer reader s l
  pub string : s' ≡ called_string reader s l
  pub lists : l' ≡ called_lists reader s l

-- ---- the record b, with its string and its lists
module _ (b s : List ℕ) (l : Lists) where
  unfoldable pub answer_from : Transcribed
  answer_from = called_answer (is_read b) (string_lent b s) (lists_lent b l)

  unfoldable pub string_from : List ℕ
  string_from = string_back b s (called_string (is_read b) (string_lent b s) (lists_lent b l))

  unfoldable pub lists_from : Lists
  lists_from = lists_returned b l (called_lists (is_read b) (string_lent b s) (lists_lent b l))

pub record CarriedOut (b s : List ℕ) (l : Lists) (o : Transcribed) (s' : List ℕ) (l' : Lists) : Type 0 where
  pub answer : o ≡ answer_from b s l
  pub string : s' ≡ string_from b s l
  pub lists : l' ≡ lists_from b s l
