-- What the writer says of one entry: document 02, request (ii).
--   JudgedEntry      a refusal, or 0; and a number of bytes, 0 where there is a refusal
--   judged_entry e   the refusal of an entry, or 0; and how many bytes its record has, 0 where it is refused
--   entry_numbers r  the same of an answer of `judge_entry`
--   EntryAs e a      what is said of an entry, in plain words: when, and only then
use Rattle.std.specs.Prelude.{ℕ, cond, eqb, length, Result, Ok, Err}
use Rattle.words.specs.Refusals.{refusal_number}
use Rattle.words.specs.declared.refusals.Refusal.{Refusal}
use Rattle.transcript_spec.specs.Format.{record_of}
use Rattle.transcript_spec.specs.InPlainWords.{Good, BadEntry}
use Rattle.transcript_spec.specs.Writing.{entry_refusal}
use Rattle.transcript_spec.specs.declared.Entry.{Entry}

pub record JudgedEntry : Type 0 where
  pub number : ℕ
  pub size : ℕ

-- "The writer tests 2, 3, then 22"; a record is what `record_of` writes
unfoldable pub judged_entry : Entry → JudgedEntry
judged_entry e =
    record { number = entry_refusal e; size = cond (eqb (entry_refusal e) 0) (length (record_of e)) 0 }

abbrev pub entry_numbers : Result ℕ Refusal → JudgedEntry
entry_numbers (Ok n) = record { number = 0; size = n }
entry_numbers (Err r) = record { number = refusal_number r; size = 0 }

pub data EntryAs (e : Entry) : JudgedEntry → Type 0 where
  good : Good e → EntryAs e (record { number = 0; size = length (record_of e) })
  bad : {n : ℕ} → BadEntry e n → EntryAs e (record { number = n; size = 0 })
