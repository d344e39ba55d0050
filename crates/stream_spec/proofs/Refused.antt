-- What a refused delivery leaves, and that it can be sent again; which numbers there are, and when 24 and 26; and that what is handed out
-- fits the lists, whose later places stay.
use Prim.Native.Nat.{ℕ, ◌+◌, ◌<◌, ◌≤◌}
use native.Mathlib.Omega.{arith}
use mathlib.Core.Path.{◌≡◌, refl, sym, ap, ◌∙◌, subst}
use mathlib.Core.Bool.{false, true≢false}
use mathlib.Core.List.{List, []}
use mathlib.Core.Logic.{◌↔◌, ◌⊎◌, inl, inr}
use lib.ListN.{length}
use Rattle.transcript_spec.specs.InPlainWords.{later_places}
use Rattle.transcript_spec.specs.Lists.{Lists, size}
use Rattle.transcript_spec.specs.Reading.{feeds}
use Rattle.transcript_spec.proofs.Columns.{later_stay}
use Rattle.transcript_spec.proofs.Filled.{SameLengths, lengths_stay}
use Rattle.stream_spec.specs.InPlainWords.{answer, Came, ended_before, too_long, too_small, taken_in, then_bad}
use Rattle.stream_spec.specs.Stream.{heard, TookDelivery}
use Rattle.stream_spec.specs.declared.Stream.{Stream}
use Rattle.stream_spec.specs.declared.Streamed.{Streamed}
use Rattle.stream_spec.proofs.One.{one_delivery}
use Rattle.stream_spec.proofs.Outcomes.{no_more_than_bytes, comes_exactly}

module _ {st : Stream} {s : List ℕ} {l l' : Lists} {o : Streamed} (p : TookDelivery st s l o l') where
  -- Under 24, 25 and 26 the stream and every place of the lists stay, and count and place are 0.
  pub refused_leaves : 24 ≤ o.number → (o ≡ answer o.number 0 0 st) × (l' ≡ l)
  refused_leaves = by_row (comes_exactly.0 p)
    where
      by_row : {o : Streamed} {l' : Lists} → Came st s l o l' → 24 ≤ o.number → (o ≡ answer o.number 0 0 st) × (l' ≡ l)
      by_row (ended_before z) h = (refl, refl)
      by_row (too_long z k) h = (refl, refl)
      by_row (too_small z k m) h = (refl, refl)
      by_row (taken_in z k m e) h = absurd (omega arith)
      by_row (then_bad z k m e i j) h = absurd (omega arith)

  -- After 24, 25 or 26 whatever is delivered next comes to what it would have come to at first.
  pub sent_again : 24 ≤ o.number → {t : List ℕ} {k k' : Lists} {a : Streamed} → TookDelivery o.stream t k a k' →
      TookDelivery st t k a k'
  sent_again h {t} {k} {k'} {a} q = subst (λ (x : Stream). TookDelivery x t k a k') (ap (λ (x : Streamed). x.stream) (refused_leaves h).0)
      q

  -- A delivery answers 0 or 21 to 26, and never 20.
  pub delivery_numbers : (o.number ≡ 0) ⊎ ((21 ≤ o.number) × (o.number ≤ 26))
  delivery_numbers = by_row (comes_exactly.0 p)
    where
      by_row : {o : Streamed} {l' : Lists} → Came st s l o l' → (o.number ≡ 0) ⊎ ((21 ≤ o.number) × (o.number ≤ 26))
      by_row (ended_before z) = inr (omega arith, omega arith)
      by_row (too_long z k) = inr (omega arith, omega arith)
      by_row (too_small z k m) = inr (omega arith, omega arith)
      by_row (taken_in z k m e) = inl refl
      by_row (then_bad z k m e i j) = inr (i, omega arith)

  -- Whatever a delivery comes to, the places behind the entries that were handed out stay.
  pub places_stay : later_places o.count l' ≡ later_places o.count l
  places_stay = by_row (comes_exactly.0 p)
    where
      by_row : {o : Streamed} {l' : Lists} → Came st s l o l' → later_places o.count l' ≡ later_places o.count l
      by_row (ended_before z) = refl
      by_row (too_long z k) = refl
      by_row (too_small z k m) = refl
      by_row (taken_in z k m e) = later_stay (heard st s).got l
      by_row (then_bad z k m e i j) = later_stay (heard st s).got l

  -- What is handed out fits the lists, and these are as long as they were.
  pub count_fits : (o.count ≤ size l) × SameLengths l l'
  count_fits = by_row (comes_exactly.0 p)
    where
      stay : SameLengths l l
      stay = record { kinds = refl; registers = refl; lanes = refl; words = refl }

      by_row : {o : Streamed} {l' : Lists} → Came st s l o l' → (o.count ≤ size l) × SameLengths l l'
      by_row (ended_before z) = (omega arith, stay)
      by_row (too_long z k) = (omega arith, stay)
      by_row (too_small z k m) = (omega arith, stay)
      by_row (taken_in z k m e) = (m, lengths_stay (heard st s).got l m)
      by_row (then_bad z k m e i j) = (m, lengths_stay (heard st s).got l m)

  -- A delivery is refused with 26 exactly if the stream goes on and would pass 4,294,967,295 bytes.
  pub refused_26 : o.number ≡ 26 ↔ (st.ended ≡ false) × (4294967295 < st.taken + length s)
  refused_26 = (
    by_row (comes_exactly.0 p),
    λ h. sym (ap (λ (x : Streamed). x.number) (one_delivery (comes_exactly.1 (too_long h.0 h.1)) p).0),
  )
    where
      by_row : {o : Streamed} {l' : Lists} → Came st s l o l' → o.number ≡ 26 → (st.ended ≡ false) × (4294967295 < st.taken + length s)
      by_row (ended_before z) h = absurd (omega arith)
      by_row (too_long z k) h = (z, k)
      by_row (too_small z k m) h = absurd (omega arith)
      by_row (taken_in z k m e) h = absurd (omega arith)
      by_row (then_bad z k m e i j) h = absurd (omega arith)

  -- A delivery is refused with 24 exactly if the stream goes on, within 4,294,967,295 bytes, and the good records that are finished do not
  -- fit the lists.
  pub refused_24 : o.number ≡ 24 ↔
      (st.ended ≡ false) × (st.taken + length s ≤ 4294967295) × (size l < length (heard st s).got)
  refused_24 = (
    by_row (comes_exactly.0 p),
    λ h. sym (ap (λ (x : Streamed). x.number) (one_delivery (comes_exactly.1 (too_small h.0 h.1 h.2)) p).0),
  )
    where
      by_row : {o : Streamed} {l' : Lists} → Came st s l o l' → o.number ≡ 24 →
          (st.ended ≡ false) × (st.taken + length s ≤ 4294967295) × (size l < length (heard st s).got)
      by_row (ended_before z) h = absurd (omega arith)
      by_row (too_long z k) h = absurd (omega arith)
      by_row (too_small z k m) h = (z, k, m)
      by_row (taken_in z k m e) h = absurd (omega arith)
      by_row (then_bad z k m e i j) h = absurd (omega arith)

-- An empty delivery to a stream that goes on, within its limit, is answered with 0, and changes nothing.
pub empty_delivery : {st : Stream} {l l' : Lists} {o : Streamed} → st.ended ≡ false → st.taken ≤ 4294967295 → TookDelivery st [] l o l' →
    (o ≡ answer 0 0 0 st) × (l' ≡ l)
unfolding feeds
empty_delivery {st} z short p =
    let e = one_delivery p (comes_exactly.1 (taken_in z (omega arith) (omega arith) refl)) in
    (e.0 ∙ (λ i. answer 0 0 0 (record { part = st.part; from = st.from; taken = st.taken; ended = sym z i })), e.1)

-- ---- 24, and the same bytes again with larger lists

now_taken : {st : Stream} {s : List ℕ} {k k' : Lists} {a : Streamed} → st.ended ≡ false → st.taken + length s ≤ 4294967295 →
    length s ≤ size k → Came st s k a k' → a.number ≤ 23
now_taken z short room (ended_before t) = absurd (true≢false (sym t ∙ z))
now_taken z short room (too_long t h) = absurd (omega arith)
now_taken {st} {s} z short room (too_small t h m) = absurd (omega (arith, no_more_than_bytes st s))
now_taken z short room (taken_in t h m e) = omega arith
now_taken z short room (then_bad t h m e i j) = j

-- After 24 the same bytes, with lists that have a place for each byte, are taken: not refused with 24, 25 or 26.
pub larger_lists : {st : Stream} {s : List ℕ} {l l' k k' : Lists} {o a : Streamed} → TookDelivery st s l o l' → o.number ≡ 24 →
    TookDelivery o.stream s k a k' → length s ≤ size k → a.number ≤ 23
larger_lists p h q room =
    let x = (refused_24 p).0 h in
    now_taken x.0 x.1 room (comes_exactly.0 (sent_again p (omega arith) q))
