-- "After it or that end, more bytes are refused until a fresh start": which calls end a stream, and what comes after.
use Prim.Native.Nat.{ℕ, ◌≤◌}
use native.Mathlib.Omega.{arith}
use mathlib.Core.Path.{◌≡◌, refl, sym, ap, ◌∙◌}
use mathlib.Core.Bool.{true, false, true≢false}
use mathlib.Core.List.{List}
use mathlib.Core.Logic.{◌↔◌}
use Rattle.transcript_spec.specs.Lists.{Lists}
use Rattle.stream_spec.specs.InPlainWords.{answer, Came, ended_before, too_long, too_small, taken_in, then_bad}
use Rattle.stream_spec.specs.InPlainWords.{EndCame, already_ended, nothing_missing, number_missing}
use Rattle.stream_spec.specs.Stream.{fresh_stream, end_answer, TookDelivery}
use Rattle.stream_spec.specs.declared.Stream.{Stream}
use Rattle.stream_spec.specs.declared.Streamed.{Streamed}
use Rattle.stream_spec.proofs.One.{one_delivery}
use Rattle.stream_spec.proofs.Outcomes.{comes_exactly}
use Rattle.stream_spec.proofs.TheEnd.{ends_exactly}

module _ {st : Stream} {s : List ℕ} {l l' : Lists} {o : Streamed} (p : TookDelivery st s l o l') where
  -- A delivery is refused with 25 exactly if the stream had ended.
  pub refused_25 : o.number ≡ 25 ↔ (st.ended ≡ true)
  refused_25 = (
    by_row (comes_exactly.0 p),
    λ z. sym (ap (λ (x : Streamed). x.number) (one_delivery (comes_exactly.1 (ended_before z)) p).0),
  )
    where
      by_row : {o : Streamed} {l' : Lists} → Came st s l o l' → o.number ≡ 25 → st.ended ≡ true
      by_row (ended_before z) h = z
      by_row (too_long z k) h = absurd (omega arith)
      by_row (too_small z k m) h = absurd (omega arith)
      by_row (taken_in z k m e) h = absurd (omega arith)
      by_row (then_bad z k m e i j) h = absurd (omega arith)

  -- A delivery ends a stream that goes on exactly if it is refused with 21, 22 or 23.
  pub ends_the_stream : st.ended ≡ false → o.stream.ended ≡ true ↔ ((21 ≤ o.number) × (o.number ≤ 23))
  ends_the_stream = by_row (comes_exactly.0 p)
    where
      by_row : {o : Streamed} {l' : Lists} → Came st s l o l' → st.ended ≡ false →
          o.stream.ended ≡ true ↔ ((21 ≤ o.number) × (o.number ≤ 23))
      by_row (ended_before t) z = absurd (true≢false (sym t ∙ z))
      by_row (too_long t k) z = (λ e. absurd (true≢false (sym e ∙ z)), λ h. absurd (omega (arith, h.1)))
      by_row (too_small t k m) z = (λ e. absurd (true≢false (sym e ∙ z)), λ h. absurd (omega (arith, h.1)))
      by_row (taken_in t k m e) z = (λ x. absurd (true≢false (sym x)), λ h. absurd (omega (arith, h.0)))
      by_row (then_bad t k m e i j) z = (λ _. (i, j), λ _. refl)

module _ (st : Stream) {o : Streamed} (p : o ≡ end_answer st) where
  -- The stream has always ended after its end.
  pub end_ends : o.stream.ended ≡ true
  end_ends = by_row ((ends_exactly st).0 p)
    where
      by_row : {o : Streamed} → EndCame st o → o.stream.ended ≡ true
      by_row (already_ended z) = z
      by_row (nothing_missing z e) = refl
      by_row (number_missing z e) = refl

  -- The end is refused with 25 exactly if the stream had ended.
  pub end_refused_25 : o.number ≡ 25 ↔ (st.ended ≡ true)
  end_refused_25 = (
    by_row ((ends_exactly st).0 p),
    λ z. ap (λ (x : Streamed). x.number) (p ∙ sym ((ends_exactly st).1 (already_ended z))),
  )
    where
      by_row : {o : Streamed} → EndCame st o → o.number ≡ 25 → st.ended ≡ true
      by_row (already_ended z) h = z
      by_row (nothing_missing z e) h = absurd (omega arith)
      by_row (number_missing z e) h = absurd (omega arith)

-- After the end every delivery is refused with 25, and changes neither stream nor lists.
pub delivery_after : {st : Stream} {s : List ℕ} {l l' : Lists} {o : Streamed} → st.ended ≡ true → TookDelivery st s l o l' →
    (o ≡ answer 25 0 0 st) × (l' ≡ l)
delivery_after z p = one_delivery p (comes_exactly.1 (ended_before z))

-- After the end every further end is refused with 25, and does not change the stream.
pub end_after : (st : Stream) {o : Streamed} → st.ended ≡ true → o ≡ end_answer st → o ≡ answer 25 0 0 st
end_after st z p = p ∙ sym ((ends_exactly st).1 (already_ended z))

-- A fresh stream has not ended.
pub fresh_goes_on : fresh_stream.ended ≡ false
fresh_goes_on = refl
