-- What the writer leaves, by what judging found: refused, with the bytes as they were, or written.
use Prim.Native.Nat.{ℕ, ◌≤◌, ◌<◌}
use native.Mathlib.Nat.{zero-add}
use native.Mathlib.Omega.{arith}
use mathlib.Core.Path.{◌≡◌, sym, ap, ◌∙◌}
use mathlib.Core.List.{List}
use mathlib.Core.Logic.{◌≢◌}
use lib.ListN.{length}
use borrow.Author.Tests.{ne_eqb, lt-ltb, le-ltb}
use Rattle.std.specs.Prelude.{Result, Ok, Err}
use Rattle.words.specs.Refusals.{refusal_number}
use Rattle.words.proofs.RefusalNumbers.{none_is_0}
use Rattle.transcript_spec.specs.Format.{transcript_of}
use Rattle.transcript_spec.specs.Lists.{Lists, entries_in, over}
use Rattle.transcript_spec.specs.Writing.{refused, accepted, accepted_if_fits, write_answer, bytes_after, WroteTranscript}
use Rattle.transcript_spec.specs.declared.Transcribed.{Transcribed}
use Rattle.transcript.specs.WriterParts.{Judged, judged, judged_numbers, Writable}
use Rattle.transcript.specs.declared.writing.FirstBad.{FirstBad}
use Rattle.transcript.proofs.Judging.{Passed, passed, barred}

-- a refusal leaves the bytes
left_as_it_was : (l : Lists) (out : List ℕ) (number place : ℕ) → number ≢ 0 →
    refused number place ≡ write_answer (entries_in l) (length out) → WroteTranscript l out (refused number place) out
unfolding bytes_after
left_as_it_was l out number place d e =
    let no = ne_eqb _ 0 (λ z. d (ap (λ (a : Transcribed). a.number) e ∙ z)) in
    record { answer = e; bytes = rw no }

module _ (l : Lists) (out : List ℕ) where
  abbrev text : List ℕ
  text = transcript_of (entries_in l)

  module _ {o : Result ℕ FirstBad} (e : judged_numbers o ≡ judged 0 0 (entries_in l)) where
    -- Where an entry is bad, the writer is refused with its number and index, and the bytes stay.
    pub bad_entry : {b : FirstBad} → o ≡ Err b → WroteTranscript l out (refused (refusal_number b.refusal) b.place) out
    unfolding write_answer
    bad_entry {b} q =
        let is = rw q at e in
        let d : (judged 0 0 (entries_in l)).number ≢ 0 =
        λ z. none_is_0 b.refusal (ap (λ (x : Judged). x.number) is ∙ z) in
        let named = barred 0 0 (entries_in l) d (accepted_if_fits (length text) (length out)) in
        left_as_it_was l out (refusal_number b.refusal) b.place (none_is_0 b.refusal)
        (ap (λ (x : Judged). refused x.number x.place) is ∙ sym named)

    -- None is.
    module _ {wanted : ℕ} (q : o ≡ Ok wanted) where
      is : judged_numbers (Ok wanted) ≡ judged 0 0 (entries_in l)
      is = rw q at e

      all : Passed 0 0 (entries_in l)
      all = passed 0 0 (entries_in l) (sym (ap (λ (x : Judged). x.number) is))

      wanted_is : wanted ≡ length text
      wanted_is = ap (λ (x : Judged). x.wanted) is ∙ all.wants ∙ zero-add (length text)

      answer_is : write_answer (entries_in l) (length out) ≡ accepted_if_fits (length text) (length out)
      unfolding write_answer
      answer_is = all.answer (accepted_if_fits (length text) (length out))

      -- Where no entry is bad and the records want more bytes than there are, the writer is refused with 24, and the bytes stay.
      pub too_small : length out < wanted → WroteTranscript l out (refused 24 0) out
      too_small h =
          left_as_it_was l out 24 0 (λ z. omega (arith, z))
          (sym (answer_is ∙ rw (lt-ltb (length out) (length text) (rw wanted_is at h))))

      -- They fit.
      module _ (h : wanted ≤ length out) where
        -- Where no entry is bad and the records fit, they can be written: all entries are good, and their transcript fits.
        pub can_write : Writable l out
        can_write = record { good = all.good; fits = omega (arith, wanted_is, h) }

        -- Where no entry is bad, the records fit and their transcript is put into the first bytes, the writer is done.
        pub written : {out' : List ℕ} → out' ≡ over text out → WroteTranscript l out (accepted wanted) out'
        unfolding bytes_after
        written {out'} w =
            let fits : write_answer (entries_in l) (length out) ≡ accepted (length text) =
            answer_is ∙ rw (le-ltb (length out) (length text) (rw wanted_is at h)) in
            record { answer = ap accepted wanted_is ∙ sym fits; bytes = rw fits w }
