-- What comes off the line is what the reader of request (ii) says of the joined bytes, 24 aside: in plain words, and of any outcome that
-- the contracts of both allow.
use Prim.Native.Nat.{ℕ, ◌≤◌}
use mathlib.Core.Path.{◌≡◌, refl, sym, ap, ◌∙◌, subst}
use mathlib.Core.Bool.{Bool, true, false, cond}
use mathlib.Core.List.{List, [], ◌∷◌, ◌++◌}
use mathlib.Core.Logic.{◌↔◌}
use lib.Dec.{eqb}
use lib.ListN.{length}
use borrow.Author.Tests.{le-ltb, ne_eqb, eqb-true}
use Rattle.transcript_spec.specs.Format.{transcript_of}
use Rattle.transcript_spec.specs.InPlainWords.{first_places, AllGood, Sound}
use Rattle.transcript_spec.specs.Lists.{Lists, size, columns}
use Rattle.transcript_spec.specs.Reading.{Reading, ended, entries_read, place_read, refusal_read, read_answer, ReadTranscript}
use Rattle.transcript_spec.specs.Writing.{refused, accepted, accepted_if_fits}
use Rattle.transcript_spec.specs.declared.Entry.{Entry}
use Rattle.transcript_spec.specs.declared.Transcribed.{Transcribed}
use Rattle.transcript_spec.proofs.Divided.{Divided, all_good, then_bad, divided}
use Rattle.transcript_spec.proofs.OneEncoding.{transcript_sound}
use Rattle.transcript_spec.proofs.Promised.{reader_done}
use Rattle.transcript_spec.proofs.ReadExactly.{reads_sound, reads_bad}
use Rattle.stream_spec.specs.InPlainWords.{Turn, Took, joined, handed_out, answers_of, Verdict, verdict_of, read_verdict, Holds}
use Rattle.stream_spec.specs.InPlainWords as plain
use Rattle.stream_spec.specs.Stream.{fresh_stream, end_answer}
use Rattle.stream_spec.specs.declared.Stream.{Stream}
use Rattle.stream_spec.specs.declared.Streamed.{Streamed}
use Rattle.stream_spec.proofs.OffTheLine.{hands_out, final_refusal}

-- ---- in plain words

held : (s : List ℕ) {es : List Entry} {v : Verdict} → Holds s es v → (entries_read s ≡ es) × (read_verdict s ≡ v)
held s (plain.Holds.all_good {es} q) =
    let e = reads_sound s es q in (
      ap (λ (r : Reading). r.got) e,
      ap (λ (r : Reading). record { number = ended r; place = cond (eqb (ended r) 0) 0 r.from }) e,
    )
held s (plain.Holds.a_bad_one {es} {t} {u} {n} f q b) =
    let x = reads_bad s t u es n f q b in (
      x.entries,
      ap (λ (k : ℕ). record { number = k; place = cond (eqb k 0) 0 (place_read s) }) x.refusal
          ∙ ap (λ (z : Bool). record { number = n; place = cond z 0 (place_read s) }) (ne_eqb n 0 x.refuses)
          ∙ ap (λ (k : ℕ). record { number = n; place = k }) x.place,
    )

some_held : (s : List ℕ) → Divided s → (es : List Entry) × (v : Verdict) × Holds s es v
some_held s (all_good es q) = (_, _, plain.Holds.all_good q)
some_held s (then_bad es t u n e q b) = (_, _, plain.Holds.a_bad_one e q b)

-- A string holds these good records, and then nothing or a bad one with this refusal at this place (`Holds`), exactly if the reader of
-- request (ii) finds this.
pub holds_exactly : (s : List ℕ) (es : List Entry) (v : Verdict) → Holds s es v ↔ (entries_read s ≡ es) × (read_verdict s ≡ v)
holds_exactly s es v = (
  held s,
  λ h.
      let x = some_held s (divided s) in
      let y = held s x.2 in
      subst (λ (w : Verdict). Holds s es w) (sym y.1 ∙ h.1)
      (subst (λ (l : List Entry). Holds s l x.1) (sym y.0 ∙ h.0) x.2),
)

-- ---- the reader's answer where its lists have room

number_and_place : (s : List ℕ) (room : ℕ) → (refusal_read s ≡ 0 → length (entries_read s) ≤ room) →
    ((read_answer s room).number ≡ refusal_read s) × ((read_answer s room).place ≡ (read_verdict s).place)
unfolding read_answer
number_and_place s room fits = either (eqb (refusal_read s) 0) refl
  where
    either : (t : Bool) → eqb (refusal_read s) 0 ≡ t →
        ((cond t (accepted_if_fits (length (entries_read s)) room) (refused (refusal_read s) (place_read s))).number ≡ refusal_read s)
        × ((cond t (accepted_if_fits (length (entries_read s)) room) (refused (refusal_read s) (place_read s))).place ≡ cond t 0
        (place_read s))
    either true e =
        let few = le-ltb room (length (entries_read s)) (fits (eqb-true (refusal_read s) 0 e)) in
        let a = ap (λ (b : Bool). cond b (refused 24 0) (accepted (length (entries_read s)))) few in
        (ap (λ (x : Transcribed). x.number) a ∙ sym (eqb-true (refusal_read s) 0 e), ap (λ (x : Transcribed). x.place) a)
    either false e = (refl, refl)

module _ {ts : List Turn} {st : Stream} {e : Streamed} (p : Took fresh_stream ts st) (q : e ≡ end_answer st) where
  abbrev final : Verdict
  final = verdict_of (answers_of ts ++ (e ∷ []))

  -- From a fresh start to an end, the joined bytes are good records, those that were handed out, and then nothing, or a bad one with the
  -- final refusal at its place.
  pub off_the_line : Holds (joined ts) (handed_out ts) final
  off_the_line = (holds_exactly (joined ts) (handed_out ts) final).1 (sym (hands_out p), sym (final_refusal p q))

  -- ---- and of the contract of the reader, lent lists for all of them unless the bytes are refused anyway
  module _ {l l' : Lists} {o : Transcribed} (r : ReadTranscript (joined ts) l o l')
      (room : final.number ≡ 0 → length (handed_out ts) ≤ size l) where
    -- Whatever `read_transcript` answers of the joined bytes, lent lists for all of them unless they are refused anyway, its number and its
    -- place are the final ones, and without a refusal its lists hold what was handed out.
    pub as_the_reader : (o.number ≡ final.number) × (o.place ≡ final.place) ×
        (o.number ≡ 0 → first_places o.count l' ≡ columns (handed_out ts))
    as_the_reader =
        let f = final_refusal p q in
        let x =
        number_and_place (joined ts) (size l)
        (λ z. subst (λ (es : List Entry). length es ≤ size l) (hands_out p) (room (ap (λ (v : Verdict). v.number) f ∙ z))) in (
          ap (λ (a : Transcribed). a.number) r.answer ∙ x.0 ∙ sym (ap (λ (v : Verdict). v.number) f),
          ap (λ (a : Transcribed). a.place) r.answer ∙ x.1 ∙ sym (ap (λ (v : Verdict). v.place) f),
          λ z. (reader_done r z).entries ∙ ap columns (sym (hands_out p)),
        )

-- What was written comes back: the bytes of a list of good entries, however they are cut, hand out that list, and nothing is refused.
pub written_comes_back : {ts : List Turn} {st : Stream} {es : List Entry} → Took fresh_stream ts st → AllGood es →
    joined ts ≡ transcript_of es →
    (handed_out ts ≡ es) × (verdict_of (answers_of ts ++ (end_answer st ∷ [])) ≡ record { number = 0; place = 0 })
written_comes_back {ts} {es = es} p g e =
    let q = subst (λ (s : List ℕ). Sound s es) (sym e) (transcript_sound es g) in
    let h = (holds_exactly (joined ts) es (record { number = 0; place = 0 })).0 (plain.Holds.all_good q) in
    (hands_out p ∙ h.0, final_refusal p refl ∙ h.1)
