-- The entries of a list, put as the lines of a text (ours).
--   first_unsayable k es done   the answer to the first one of the entries es that no line can say, the first of them having index k;
--                               `done` where a line can say each
--   written_if_fits n room      that answer: n bytes, and room for so many
--   put_answer es room          what the call answers of a list, lent so many bytes
--   is_written o                the answer of a call that is done
--   text_after es out           the lent bytes afterwards
--   PutLines                    these, as the contract of the call
use Rattle.std.specs.Prelude.{ℕ, suc, ◌≡◌, Bool, true, false, cond, List, [], ◌∷◌, ltb, length, Result, Ok, Err}
use Rattle.transcript_spec.specs.Lists.{Lists, entries_in, over}
use Rattle.transcript_spec.specs.declared.Entry.{Entry}
use Rattle.transcript_lines.specs.Lines.{unsayable, text_of}
use Rattle.transcript_lines.specs.declared.NotPut.{NotPut}
use Rattle.transcript_lines.specs.declared.NotPut.TheVariants.{Unsayable, NoBytes}

unfoldable pub first_unsayable : ℕ → List Entry → Result ℕ NotPut → Result ℕ NotPut
first_unsayable k [] done = done
first_unsayable k (e ∷ rest) done = cond (unsayable e) (Err (Unsayable k)) (first_unsayable (suc k) rest done)

abbrev pub written_if_fits : ℕ → ℕ → Result ℕ NotPut
written_if_fits n room = cond (ltb room n) (Err NoBytes) (Ok n)

unfoldable pub put_answer : List Entry → ℕ → Result ℕ NotPut
put_answer es room = first_unsayable 0 es (written_if_fits (length (text_of es)) room)

abbrev pub is_written : Result ℕ NotPut → Bool
is_written (Ok n) = true
is_written (Err (Unsayable k)) = false
is_written (Err NoBytes) = false

unfoldable pub text_after : List Entry → List ℕ → List ℕ
text_after es out = cond (is_written (put_answer es (length out))) (over (text_of es) out) out

-- what the call leaves: its answer, and the bytes that it was lent
pub record PutLines (l : Lists) (out : List ℕ) (o : Result ℕ NotPut) (out' : List ℕ) : Type 0 where
  pub answer : o ≡ put_answer (entries_in l) (length out)
  pub text : out' ≡ text_after (entries_in l) out
