-- The writer: document 02, request (ii).
--   no_record e           the entry has no record: its kind or its word is wrong
--   entry_refusal e       number 2, 3 or 22, or 0 where the entry is good
--   refused n place       the answer of a refusal
--   accepted count        that of a call that is done
--   first_bad k es good   the answer to the first bad one of the entries es, whose first has index k; `good` where none is bad
--   accepted_if_fits count room  the answer where none is bad: so many bytes or entries, and room for so many
--   write_answer es room  what the writer answers of a list, lent so many bytes
--   bytes_after es out    the lent bytes afterwards
--   WroteTranscript       these, as the contract of the call
use Rattle.std.specs.Prelude.{ℕ, suc, ◌≡◌, Bool, cond, not, ◌&&◌, ◌||◌, List, [], ◌∷◌, eqb, ltb, length}
use Rattle.words.specs.Bytes.{are_lanes}
use Rattle.transcript_spec.specs.Format.{transcript_of}
use Rattle.transcript_spec.specs.Lists.{Lists, entries_in, over}
use Rattle.transcript_spec.specs.declared.Entry.{Entry}
use Rattle.transcript_spec.specs.declared.Transcribed.{Transcribed}

-- "word over 65,535", "also for a kind over 1 or a read's word not 0"
unfoldable pub no_record : Entry → Bool
no_record e = ltb 65535 e.word || (ltb 1 e.kind || (eqb e.kind 0 && not (eqb e.word 0)))

-- "The writer tests 2, 3, then 22"
unfoldable pub entry_refusal : Entry → ℕ
entry_refusal e = cond (ltb 3 e.register) 2 (cond (are_lanes e.lanes) (cond (no_record e) 22 0) 3)

-- "name the place of the first bad record", "an exception to 'returns zeros'"
abbrev pub refused : ℕ → ℕ → Transcribed
refused n place = record { number = n; count = 0; place = place }

-- one kind of answer for writer and reader (ours)
abbrev pub accepted : ℕ → Transcribed
accepted count = record { number = 0; count = count; place = 0 }

-- the first bad entry, and its index; where none is bad, `good`
unfoldable pub first_bad : ℕ → List Entry → Transcribed → Transcribed
first_bad k [] good = good
first_bad k (e ∷ rest) good = cond (eqb (entry_refusal e) 0) (first_bad (suc k) rest good) (refused (entry_refusal e) k)

-- "24 list too small, exactly when all records are good and the whole result doesn't fit", "for 24 it is 0"
abbrev pub accepted_if_fits : ℕ → ℕ → Transcribed
accepted_if_fits count room = cond (ltb room count) (refused 24 0) (accepted count)

unfoldable pub write_answer : List Entry → ℕ → Transcribed
write_answer es room = first_bad 0 es (accepted_if_fits (length (transcript_of es)) room)

-- "Both sides refuse with nothing written"
unfoldable pub bytes_after : List Entry → List ℕ → List ℕ
bytes_after es out = cond (eqb (write_answer es (length out)).number 0) (over (transcript_of es) out) out

-- what the writer leaves: its answer, and the bytes that it was lent
pub record WroteTranscript (l : Lists) (out : List ℕ) (o : Transcribed) (out' : List ℕ) : Type 0 where
  pub answer : o ≡ write_answer (entries_in l) (length out)
  pub bytes : out' ≡ bytes_after (entries_in l) out
