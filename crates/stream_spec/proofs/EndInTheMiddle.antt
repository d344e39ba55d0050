-- Whatever calls follow an end, deliveries and further ends in any order, they are refused with 25, hand out nothing and leave the stream.
-- So from a fresh start, with ends anywhere, what is handed out and the final refusal are those of the bytes that came before the first
-- end.
use mathlib.Core.Path.{◌≡◌, refl, ap, ◌∙◌}
use mathlib.Core.Bool.{true, cond}
use mathlib.Core.List.{List, [], ◌∷◌, ◌++◌}
use Rattle.transcript_spec.specs.Reading.{entries_read}
use Rattle.transcript_spec.specs.declared.Entry.{Entry}
use Rattle.stream_spec.specs.AnyCalls.{Deed, delivery, end, Did, nothing, then_delivery, then_end}
use Rattle.stream_spec.specs.AnyCalls.{handed_by, answers_by, before_the_end, HasEnd}
use Rattle.stream_spec.specs.InPlainWords.{answer, handed, Took, none, and_then, joined, handed_out, answers_of}
use Rattle.stream_spec.specs.InPlainWords.{Verdict, of_a_record, verdict_of, read_verdict}
use Rattle.stream_spec.specs.Stream.{fresh_stream, end_answer}
use Rattle.stream_spec.specs.declared.Stream.{Stream}
use Rattle.stream_spec.specs.declared.Streamed.{Streamed}
use Rattle.stream_spec.proofs.AfterTheEnd.{delivery_after, end_ends, end_after}
use Rattle.stream_spec.proofs.OffTheLine.{hands_out, final_refusal}
use Rattle.stream_spec.proofs.Told.{handed_none}

-- ---- after an end, or after a bad record
-- answers that are all refused with 25 because the stream st has ended, and leave it
abbrev pub Refused25 : Stream → List Streamed → Type 0
Refused25 st [] = Unit
Refused25 st (o ∷ os) = (o ≡ answer 25 0 0 st) × Refused25 st os

-- Once a stream has ended, whatever calls follow, deliveries and ends in any order, however many, are refused with 25, hand out nothing and
-- leave the stream.
pub ended_for_good : (ds : List Deed) {st st' : Stream} → st.ended ≡ true → Did st ds st' →
    (st' ≡ st) × (handed_by ds ≡ []) × Refused25 st (answers_by ds)
unfolding handed_by answers_by
ended_for_good [] z nothing = (refl, refl, tt)
ended_for_good (delivery t ∷ ds) {st} {st'} z (then_delivery p q) =
    let e = (delivery_after z p).0 in
    let f = ap (λ (o : Streamed). o.stream) e in
    let x = ended_for_good ds z (rw f at q) in (
      x.0,
      ap (λ (o : Streamed). handed o t.left ++ handed_by ds) e ∙
          ap (λ (es : List Entry). es ++ handed_by ds) (handed_none 25 0 st t.left) ∙
          x.1,
      (e, x.2),
    )
ended_for_good (end o ∷ ds) {st} z (then_end p q) =
    let e = end_after st z p in
    let x = ended_for_good ds z (rw (ap (λ (y : Streamed). y.stream) e) at q) in
    (x.0, x.1, (e, x.2))

-- ---- the deliveries before the first end, and what the others hand out
record Parted (st : Stream) (ds : List Deed) : Type 0 where
  reached : Stream
  took : Took st (before_the_end ds) reached
  handed : handed_by ds ≡ handed_out (before_the_end ds)

parted : (ds : List Deed) {st st' : Stream} → Did st ds st' → Parted st ds
unfolding handed_by before_the_end handed_out
parted [] {st} nothing = record { reached = st; took = none; handed = refl }
parted (delivery t ∷ ds) (then_delivery p q) =
    let x = parted ds q in
    record {
      reached = x.reached;
      took = and_then p x.took;
      handed = ap (λ (es : List Entry). handed t.answer t.left ++ es) x.handed;
    }
parted (end o ∷ ds) {st} (then_end p q) =
    record { reached = st; took = none; handed = (ended_for_good ds (end_ends st p) q).1 }

-- ---- the final refusal
-- an answer 25 is no refusal of a record
none_told : (st : Stream) (os : List Streamed) → Refused25 st os → verdict_of os ≡ record { number = 0; place = 0 }
unfolding verdict_of
none_told st [] h = refl
none_told st (o ∷ os) h =
    ap (λ (x : Streamed). cond (of_a_record x.number) (record { number = x.number; place = x.place }) (verdict_of os)) h.0 ∙
    none_told st os h.1

-- so an end's verdict is the same whatever calls follow it
end_alone : (ts : List Streamed) (o : Streamed) (os : List Streamed) → Refused25 o.stream os →
    verdict_of (ts ++ (o ∷ os)) ≡ verdict_of (ts ++ (o ∷ []))
unfolding verdict_of
end_alone [] o os h =
    ap (λ (v : Verdict). cond (of_a_record o.number) (record { number = o.number; place = o.place }) v) (none_told o.stream os h)
end_alone (t ∷ ts) o os h =
    ap (λ (v : Verdict). cond (of_a_record t.number) (record { number = t.number; place = t.place }) v) (end_alone ts o os h)

record Ended (st : Stream) (ds : List Deed) : Type 0 where
  reached : Stream
  took : Took st (before_the_end ds) reached
  first : Streamed
  first_is : first ≡ end_answer reached
  later : List Streamed
  answers : answers_by ds ≡ answers_of (before_the_end ds) ++ (first ∷ later)
  refused : Refused25 first.stream later

ended_there : (ds : List Deed) {st st' : Stream} → Did st ds st' → HasEnd ds → Ended st ds
unfolding answers_by before_the_end answers_of
ended_there [] nothing h = absurd h
ended_there (delivery t ∷ ds) (then_delivery p q) h =
    let x = ended_there ds q h in
    record {
      reached = x.reached;
      took = and_then p x.took;
      first = x.first;
      first_is = x.first_is;
      later = x.later;
      answers = ap (λ (os : List Streamed). t.answer ∷ os) x.answers;
      refused = x.refused;
    }
ended_there (end o ∷ ds) {st} (then_end p q) h =
    record {
      reached = st;
      took = none;
      first = o;
      first_is = p;
      later = answers_by ds;
      answers = refl;
      refused = (ended_for_good ds (end_ends st p) q).2;
    }

-- ---- from a fresh start, with ends anywhere
module _ (ds : List Deed) {st : Stream} (p : Did fresh_stream ds st) where
  -- From a fresh start, with ends anywhere, what is handed out is the good records before the first bad one in the bytes that were joined
  -- before the first end, or in all where there is none.
  pub calls_hand_out : handed_by ds ≡ entries_read (joined (before_the_end ds))
  calls_hand_out = let x = parted ds p in x.handed ∙ hands_out x.took

  -- From a fresh start, if an end is among the calls, the final refusal with its place is the reader's on the bytes that were joined before
  -- the first end, whatever calls follow that.
  pub calls_final_refusal : HasEnd ds → verdict_of (answers_by ds) ≡ read_verdict (joined (before_the_end ds))
  calls_final_refusal h =
      let x = ended_there ds p h in
      ap verdict_of x.answers ∙
      end_alone (answers_of (before_the_end ds)) x.first x.later x.refused ∙
      final_refusal x.took x.first_is
