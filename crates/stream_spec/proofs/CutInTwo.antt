-- Cutting a delivery in two changes nothing, whatever the stream: the entries handed out, the refusal that is told, and the stream
-- afterwards are the same. The second part is read on from where the first one ended.
use Prim.Native.Nat.{ℕ, ◌+◌, ◌≤◌}
use native.Mathlib.Omega.{arith}
use mathlib.Core.Path.{◌≡◌, refl, sym, ap, ◌∙◌, subst}
use mathlib.Core.Bool.{Bool, true, false, cond, true≢false}
use mathlib.Core.List.{List, [], ◌∷◌, ◌++◌, append-nil}
use mathlib.Core.Logic.{◌≢◌, inl, ⊎_elim}
use lib.ListN.{length, length-append}
use borrow.Author.Tests.{eq-eqb}
use Rattle.std.proofs.lemmas.Bool.{cases_Bool, cases_eq}
use Rattle.transcript_spec.specs.Lists.{Lists, size, with_entries}
use Rattle.transcript_spec.specs.Reading.{Reading}
use Rattle.transcript_spec.specs.declared.Entry.{Entry}
use Rattle.transcript_spec.proofs.Elsewhere.{feeds_joined}
use Rattle.transcript_spec.proofs.HowFar.{EarlyRefusal, early_refusal, goes_further}
use Rattle.transcript_spec.proofs.ReadingOn.{only_adds, stays_refused}
use Rattle.stream_spec.specs.InPlainWords.{answer, Came, ended_before, too_long, too_small, taken_in, then_bad}
use Rattle.stream_spec.specs.InPlainWords.{handed, sent_back, verdict_of, CutAlike}
use Rattle.stream_spec.specs.Stream.{resumed, heard, standing, answered, TookDelivery}
use Rattle.stream_spec.specs.declared.Stream.{Stream}
use Rattle.stream_spec.specs.declared.Streamed.{Streamed}
use Rattle.stream_spec.proofs.One.{one_delivery}
use Rattle.stream_spec.proofs.Outcomes.{takes_in, comes_exactly}
use Rattle.stream_spec.proofs.Resumed.{behind, resumes, open_if_good, ended_if_bad}
use Rattle.stream_spec.proofs.Told.{handed_none, handed_all, early_kept, verdict, or_else, early_verdict}

-- ---- a stream that has ended
all_barred : (st : Stream) (l k₁ k₂ : Lists) → CutAlike (answer 25 0 0 st) l (answer 25 0 0 st) k₁ (answer 25 0 0 st) k₂
unfolding verdict_of
all_barred st l k₁ k₂ =
    record {
      stream = refl;
      entries =
          ap (λ (es : List Entry). es ++ handed (answer 25 0 0 st) k₂) (handed_none 25 0 st k₁) ∙
          handed_none 25 0 st k₂ ∙
          sym (handed_none 25 0 st l);
      refusal = refl;
    }

-- ---- a stream that goes on
module _ (st : Stream) (v w : List ℕ) where
  first_early : EarlyRefusal (heard st v).refusal
  first_early = early_refusal (resumed st) v (inl refl)

  whole_early : EarlyRefusal (heard st (v ++ w)).refusal
  whole_early = early_refusal (resumed st) (v ++ w) (inl refl)

  -- the first part has a bad record: the second is refused, and of the whole nothing more is read
  stops_in_the_first : (heard st v).refusal ≢ 0 → (l k₁ k₂ : Lists) →
      CutAlike (answered (heard st (v ++ w))) (with_entries (heard st (v ++ w)).got l) (answered (heard st v))
      (with_entries (heard st v).got k₁)
      (answer 25 0 0 (standing (heard st v))) k₂
  unfolding verdict_of
  stops_in_the_first d l k₁ k₂ =
      let first = heard st v in
      let barred = answer 25 0 0 (standing first) in
      let same : heard st (v ++ w) ≡ first = feeds_joined (resumed st) v w ∙ stays_refused first w d in
      record {
        stream = ap standing (sym same);
        entries =
            ap (λ (es : List Entry). es ++ handed barred k₂) (handed_all first k₁) ∙
            ap (λ (es : List Entry). first.got ++ es) (handed_none 25 0 (standing first) k₂) ∙
            append-nil first.got ∙
            sym (ap (λ (r : Reading). r.got) same) ∙
            sym (handed_all (heard st (v ++ w)) l);
        refusal =
            early_verdict first first_early (barred ∷ []) ∙
            ap (λ (r : Reading). or_else (verdict r.refusal r.from) (verdict_of [])) (sym same) ∙
            sym (early_verdict (heard st (v ++ w)) whole_early []);
      }

  -- the first part has none: the second is read on from there
  goes_on_in_the_second : (heard st v).refusal ≡ 0 → (l k₁ k₂ : Lists) →
      CutAlike (answered (heard st (v ++ w))) (with_entries (heard st (v ++ w)).got l) (answered (heard st v))
      (with_entries (heard st v).got k₁)
      (answered (heard (standing (heard st v)) w)) (with_entries (heard (standing (heard st v)) w).got k₂)
  goes_on_in_the_second z l k₁ k₂ =
      let first = heard st v in
      let second = heard (standing first) w in
      let more : heard st (v ++ w) ≡ behind first.got second = feeds_joined (resumed st) v w ∙ resumes first w z in
      let second_early : EarlyRefusal second.refusal = early_refusal (resumed (standing first)) w (inl refl) in
      record {
        stream = ap standing (sym more);
        entries =
            ap (λ (es : List Entry). es ++ handed (answered second) (with_entries second.got k₂)) (handed_all first k₁) ∙
            ap (λ (es : List Entry). first.got ++ es) (handed_all second k₂) ∙
            sym (ap (λ (r : Reading). r.got) more) ∙
            sym (handed_all (heard st (v ++ w)) l);
        refusal =
            early_verdict first first_early (answered second ∷ []) ∙
            ap (λ (b : Bool). cond b (verdict_of (answered second ∷ [])) (verdict first.refusal first.from))
            (eq-eqb first.refusal 0 z) ∙
            early_verdict second second_early [] ∙
            ap (λ (r : Reading). or_else (verdict r.refusal r.from) (verdict_of [])) (sym more) ∙
            sym (early_verdict (heard st (v ++ w)) whole_early []);
      }

-- ---- any delivery, and its parts with lists that have room

-- what holds of outcomes holds of any that are the same
moved : (F : Streamed → Lists → Type 0) {a o : Streamed} {b l : Lists} → (a ≡ o) × (b ≡ l) → F a b → F o l
moved F {a} {o} {b} {l} e x = subst (λ (y : Streamed). F y l) e.0 (subst (F a) e.1 x)

alike_too : {a o a₁ o₁ a₂ o₂ : Streamed} {b l b₁ k₁ b₂ k₂ : Lists} → (a ≡ o) × (b ≡ l) → (a₁ ≡ o₁) × (b₁ ≡ k₁) →
    (a₂ ≡ o₂) × (b₂ ≡ k₂) → CutAlike a b a₁ b₁ a₂ b₂ → CutAlike o l o₁ k₁ o₂ k₂
alike_too {a} {o} {a₁} {o₁} {a₂} {o₂} {b} {l} {b₁} {k₁} {b₂} {k₂} e e₁ e₂ alike =
    moved (λ x y. CutAlike x y o₁ k₁ o₂ k₂) e
    (moved (λ x y. CutAlike a b x y o₂ k₂) e₁ (moved (λ x y. CutAlike a b a₁ b₁ x y) e₂ alike))

-- a delivery that is not sent back has room and lies within the limit, if the stream goes on
record Read (st : Stream) (s : List ℕ) (l : Lists) : Type 0 where
  short : st.taken + length s ≤ 4294967295
  fits : length (heard st s).got ≤ size l

is_read : {st : Stream} {s : List ℕ} {l l' : Lists} {o : Streamed} → st.ended ≡ false → sent_back o.number ≡ false →
    Came st s l o l' → Read st s l
is_read z b (ended_before t) = absurd (true≢false (sym t ∙ z))
is_read z b (too_long t h) = absurd (true≢false b)
is_read z b (too_small t h k) = absurd (true≢false b)
is_read z b (taken_in t h k e) = record { short = h; fits = k }
is_read z b (then_bad t h k e i j) = record { short = h; fits = k }

-- a delivery that is read, or comes after the end, is not sent back
read_kept : {st : Stream} {s : List ℕ} {l l' : Lists} {o : Streamed} → st.ended ≡ false → Read st s l → TookDelivery st s l o l' →
    sent_back o.number ≡ false
read_kept {st} {s} {l} z x p =
    subst (λ (a : Streamed). sent_back a.number ≡ false) (one_delivery (takes_in st s l z x.short x.fits) p).0
    (early_kept (heard st s).refusal (early_refusal (resumed st) s (inl refl)))

ended_kept : {st : Stream} {s : List ℕ} {l l' : Lists} {o : Streamed} → st.ended ≡ true → TookDelivery st s l o l' →
    sent_back o.number ≡ false
ended_kept z p = subst (λ (a : Streamed). sent_back a.number ≡ false) (one_delivery (comes_exactly.1 (ended_before z)) p).0 refl

module _ {st : Stream} {v w : List ℕ} {l l' k₁ k₁' k₂ k₂' : Lists} {o o₁ o₂ : Streamed} (p : TookDelivery st (v ++ w) l o l')
    (p₁ : TookDelivery st v k₁ o₁ k₁') (p₂ : TookDelivery o₁.stream w k₂ o₂ k₂') where
  ended_alike : st.ended ≡ true → CutAlike o l' o₁ k₁' o₂ k₂'
  ended_alike z =
      let e = one_delivery (comes_exactly.1 (ended_before z)) p in
      let e₁ = one_delivery (comes_exactly.1 (ended_before z)) p₁ in
      let next = subst (λ (x : Stream). TookDelivery x w k₂ o₂ k₂') (sym (ap (λ (x : Streamed). x.stream) e₁.0)) p₂ in
      let e₂ = one_delivery (comes_exactly.1 (ended_before z)) next in
      alike_too e e₁ e₂ (all_barred st l k₁ k₂)

  -- a stream that goes on: each of the three is read, but the second part not behind a bad record in the first
  module _ (z : st.ended ≡ false) (x : Read st (v ++ w) l) (y : Read st v k₁) where
    whole_told : (answered (heard st (v ++ w)) ≡ o) × (with_entries (heard st (v ++ w)).got l ≡ l')
    whole_told = one_delivery (takes_in st (v ++ w) l z x.short x.fits) p

    first_told : (answered (heard st v) ≡ o₁) × (with_entries (heard st v).got k₁ ≡ k₁')
    first_told = one_delivery (takes_in st v k₁ z y.short y.fits) p₁

    then_second : TookDelivery (standing (heard st v)) w k₂ o₂ k₂'
    then_second = subst (λ (a : Stream). TookDelivery a w k₂ o₂ k₂') (sym (ap (λ (a : Streamed). a.stream) first_told.0)) p₂

    bad_first : (heard st v).refusal ≢ 0 → CutAlike o l' o₁ k₁' o₂ k₂'
    bad_first d =
        alike_too whole_told first_told
        (one_delivery (comes_exactly.1 (ended_before (ended_if_bad (heard st v) d))) then_second)
        (stops_in_the_first st v w d l k₁ k₂)

    good_first : sent_back o₂.number ≡ false → (heard st v).refusal ≡ 0 → CutAlike o l' o₁ k₁' o₂ k₂'
    good_first b g =
        let still = open_if_good (heard st v) g in
        let second = is_read still b (comes_exactly.0 then_second) in
        alike_too whole_told first_told
        (one_delivery (takes_in (standing (heard st v)) w k₂ still second.short second.fits) then_second)
        (goes_on_in_the_second st v w g l k₁ k₂)

    -- the second part is not sent back, if its lists have room for all that the whole handed out
    second_kept : length (heard st (v ++ w)).got ≤ size k₂ → sent_back o₂.number ≡ false
    second_kept room = ⊎_elim good bad (cases_eq (heard st v).refusal 0)
      where
        bad : (heard st v).refusal ≢ 0 → sent_back o₂.number ≡ false
        bad d = ended_kept (ended_if_bad (heard st v) d) then_second

        good : (heard st v).refusal ≡ 0 → sent_back o₂.number ≡ false
        good g =
            let n = length-append v w in
            let reached = (goes_further (resumed st) v).all g in
            let more : length (heard st (v ++ w)).got ≡ length ((heard st v).got ++ (heard (standing (heard st v)) w).got) =
            ap (λ (r : Reading). length r.got) (feeds_joined (resumed st) v w ∙ resumes (heard st v) w g) in
            let m = length-append (heard st v).got (heard (standing (heard st v)) w).got in
            read_kept (open_if_good (heard st v) g) (record { short = omega (arith, x.short); fits = omega arith }) then_second

  -- Of any stream, a delivery and the same bytes in two, none of them sent back, hand out the same entries, tell the same refusal with its
  -- place and leave the same stream.
  pub cut_in_two : sent_back o.number ≡ false → sent_back o₁.number ≡ false → sent_back o₂.number ≡ false →
      CutAlike o l' o₁ k₁' o₂ k₂'
  cut_in_two b b₁ b₂ = ⊎_elim ended_alike going (cases_Bool st.ended)
    where
      going : st.ended ≡ false → CutAlike o l' o₁ k₁' o₂ k₂'
      going z =
          let x = is_read z b (comes_exactly.0 p) in
          let y = is_read z b₁ (comes_exactly.0 p₁) in
          ⊎_elim (good_first z x y b₂) (bad_first z x y) (cases_eq (heard st v).refusal 0)

  -- No part of a delivery is sent back, if the whole is not and each part's lists have room for all that the whole handed out.
  pub parts_join : sent_back o.number ≡ false → o.count ≤ size k₁ → o.count ≤ size k₂ →
      (sent_back o₁.number ≡ false) × (sent_back o₂.number ≡ false)
  parts_join b r₁ r₂ = ⊎_elim over going (cases_Bool st.ended)
    where
      over : st.ended ≡ true → (sent_back o₁.number ≡ false) × (sent_back o₂.number ≡ false)
      over z =
          let same = ap (λ (a : Streamed). a.stream) (one_delivery (comes_exactly.1 (ended_before z)) p₁).0 in
          (ended_kept z p₁, ended_kept z (subst (λ (a : Stream). TookDelivery a w k₂ o₂ k₂') (sym same) p₂))

      going : st.ended ≡ false → (sent_back o₁.number ≡ false) × (sent_back o₂.number ≡ false)
      going z =
          let x = is_read z b (comes_exactly.0 p) in
          let n = length-append v w in
          let count = ap (λ (a : Streamed). a.count) (one_delivery (takes_in st (v ++ w) l z x.short x.fits) p).0 in
          let fewer : length (heard st v).got ≤ length (heard st (v ++ w)).got =
          rw (feeds_joined (resumed st) v w) (only_adds (heard st v) w) in
          let y : Read st v k₁ = record { short = omega (arith, x.short); fits = omega arith } in
          (read_kept z y p₁, second_kept z x y (omega arith))
