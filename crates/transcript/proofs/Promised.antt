-- What is said of one entry, exactly if; and what the contracts of the calls say, taken from the contracts themselves (`Contract`). What
-- `WroteTranscript`, `ReadTranscript` and `read_answer` promise is `Promised` of crate `transcript_spec`.
use mathlib.Core.Path.{◌≡◌, refl, sym, ◌∙◌, subst}
use mathlib.Core.Logic.{⊎_elim, ◌↔◌}
use Rattle.std.specs.Prelude.{ℕ, Result}
use Rattle.words.specs.declared.refusals.Refusal.{Refusal}
use Rattle.words.proofs.Contracts.{Contract}
use Rattle.transcript_spec.specs.Lists.{lists}
use Rattle.transcript_spec.specs.Reading.{read_answer, ReadTranscript}
use Rattle.transcript_spec.specs.Writing.{WroteTranscript}
use Rattle.transcript_spec.specs.declared.Entry.{Entry}
use Rattle.transcript_spec.proofs.WrittenExactly.{good_passes, bad_refused, bad_number, good_or_bad}
use Rattle.transcript.specs.Entries.{JudgedEntry, judged_entry, entry_numbers, EntryAs}
use Rattle.transcript.specs.Entries as plain
use Rattle.transcript.proofs.Judging.{said_refused, said_good}
use Rattle.transcript.proofs.reading.judge_bytes.Kinds as judge_bytes_kinds
use Rattle.transcript.proofs.reading.judge_bytes.Reads as judge_bytes
use Rattle.transcript.proofs.reading.read_transcript.Kinds as read_transcript_kinds
use Rattle.transcript.proofs.reading.read_transcript.Reads as read_transcript
use Rattle.transcript.proofs.records.judge_entry.Kinds as judge_entry_kinds
use Rattle.transcript.proofs.records.judge_entry.Reads as judge_entry
use Rattle.transcript.proofs.writing.write_transcript.Kinds as write_transcript_kinds
use Rattle.transcript.proofs.writing.write_transcript.Reads as write_transcript

-- ---- one entry
module _ {e : Entry} where
  entry_said : (a : JudgedEntry) → EntryAs e a → judged_entry e ≡ a
  entry_said _ (plain.EntryAs.good g) = sym (said_good e (sym (good_passes e g)) refl refl)
  entry_said _ (plain.EntryAs.bad {n} b) = sym (said_refused e (sym (bad_refused e n b)) (bad_number e n b))

  some_entry : (a : JudgedEntry) × EntryAs e a
  some_entry = ⊎_elim (λ g. (_, plain.EntryAs.good g)) (λ b. (_, plain.EntryAs.bad b.1)) (good_or_bad e)

  module _ (o : Result ℕ Refusal) (p : entry_numbers o ≡ judged_entry e) where
    -- What is said of one entry is a, in numbers, exactly if a's row of `EntryAs` holds: the entry is good, and its record has so many
    -- bytes; or it is bad, with this number.
    pub judge_exactly : (a : JudgedEntry) → entry_numbers o ≡ a ↔ EntryAs e a
    judge_exactly a = (
      λ q. subst (EntryAs e) (sym (entry_said some_entry.0 some_entry.1) ∙ sym p ∙ q) some_entry.1,
      λ w. p ∙ entry_said a w,
    )

-- ---- the contracts themselves: each is a statement on the call's own arguments
-- `judge_bytes` takes any bytes and room, and all that its contract allows is `read_answer` of them.
pub judge_bytes_contract : Contract judge_bytes_kinds.ps judge_bytes_kinds.r judge_bytes.Pre judge_bytes.Post
    (λ κs args o left.
    let bytes = args.0 in
    let room = args.1.0 in
    o ≡ read_answer bytes.now room)
judge_bytes_contract = record { takes_any = λ κs args. tt; says = λ κs args o left p. p }

-- `read_transcript` takes any bytes, kinds, registers, lanes and words, and all that its contract allows is `ReadTranscript` of them.
pub read_transcript_contract : Contract read_transcript_kinds.ps read_transcript_kinds.r read_transcript.Pre read_transcript.Post
    (λ κs args o left.
    let bytes = args.0 in
    let kinds = args.1.0 in
    let kinds' = left.1.0 in
    let registers = args.1.1.0 in
    let registers' = left.1.1.0 in
    let lanes = args.1.1.1.0 in
    let lanes' = left.1.1.1.0 in
    let words = args.1.1.1.1.0 in
    let words' = left.1.1.1.1.0 in
    ReadTranscript bytes.now (lists kinds.now registers.now lanes.now words.now) o
    (lists kinds'.now registers'.now lanes'.now words'.now))
read_transcript_contract = record { takes_any = λ κs args. tt; says = λ κs args o left p. p }

-- `judge_entry` takes any e, and all that its contract allows is, in numbers (`entry_numbers`), `judged_entry` of it.
pub judge_entry_contract : Contract judge_entry_kinds.ps judge_entry_kinds.r judge_entry.Pre judge_entry.Post
    (λ κs args r left.
    let e = args.0 in
    entry_numbers r ≡ judged_entry e)
judge_entry_contract = record { takes_any = λ κs args. tt; says = λ κs args r left p. p }

-- `write_transcript` takes any kinds, registers, lanes, words and bytes, and all that its contract allows is `WroteTranscript` of them.
pub write_transcript_contract : Contract write_transcript_kinds.ps write_transcript_kinds.r write_transcript.Pre write_transcript.Post
    (λ κs args o left.
    let kinds = args.0 in
    let registers = args.1.0 in
    let lanes = args.1.1.0 in
    let words = args.1.1.1.0 in
    let bytes = args.1.1.1.1.0 in
    let bytes' = left.1.1.1.1.0 in
    WroteTranscript (lists kinds.now registers.now lanes.now words.now) bytes.now o bytes'.now)
write_transcript_contract = record { takes_any = λ κs args. tt; says = λ κs args o left p. p }
