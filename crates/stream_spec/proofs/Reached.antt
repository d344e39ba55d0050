-- Which streams calls come to from a fresh start: exactly those that stand for some bytes, at most 4,294,967,295 of them, as they are read
-- or ended there by the sender; and the open ones among them, record by record. Any other that a caller makes is answered too
-- (`comes_exactly`, `ends_exactly`), but stands for no bytes.
use Prim.Native.Nat.{ℕ, ◌+◌, ◌≤◌}
use native.Mathlib.Nat.{zero-add}
use native.Mathlib.Omega.{arith}
use mathlib.Core.Path.{◌≡◌, refl, sym, ap, ◌∙◌, subst}
use mathlib.Core.Bool.{Bool, false, cond, true≢false}
use mathlib.Core.List.{List, [], ◌++◌}
use mathlib.Core.Logic.{◌↔◌, inr}
use lib.ListN.{length, length-append}
use Rattle.words.specs.Bytes.{AreBytes}
use Rattle.transcript_spec.specs.Lists.{Lists, size}
use Rattle.transcript_spec.specs.Reading.{start, feeds}
use Rattle.transcript_spec.proofs.Bytes.{bytes_none, bytes_joined}
use Rattle.transcript_spec.proofs.HowFar.{goes_further}
use Rattle.stream_spec.specs.InPlainWords.{Came, ended_before, too_long, too_small, taken_in, then_bad, sent_back}
use Rattle.stream_spec.specs.InPlainWords.{EndCame, already_ended, nothing_missing, number_missing}
use Rattle.stream_spec.specs.OpenStreams.{Reached, by_delivery, by_end, StandsForBytes, as_read, and_ended, OpenAt}
use Rattle.stream_spec.specs.OpenStreams as plain
use Rattle.stream_spec.specs.Stream.{fresh_stream, closed, delivery_answer, lists_after, end_answer, TookDelivery}
use Rattle.stream_spec.specs.declared.Stream.{Stream}
use Rattle.stream_spec.specs.declared.Streamed.{Streamed}
use Rattle.stream_spec.proofs.AfterTheEnd.{delivery_after, end_after}
use Rattle.stream_spec.proofs.AnyDeliveries.{spare, spare_size}
use Rattle.stream_spec.proofs.HoweverCut.{not_sent_back}
use Rattle.stream_spec.proofs.OneTurn.{read, stands_for, one_turn}
use Rattle.stream_spec.proofs.OpenStreams.{stands_open, opens}
use Rattle.stream_spec.proofs.Outcomes.{comes_exactly}
use Rattle.stream_spec.proofs.Resumed.{good_if_open}
use Rattle.stream_spec.proofs.TheEnd.{ends_exactly}
use Rattle.stream_spec.proofs.Told.{early_kept}

-- ---- a call leads from such a stream to such a stream

module _ (w : List ℕ) (bytes : AreBytes w) (short : length w ≤ 4294967295) where
  -- a delivery that is read joins its bytes
  joins : {s : List ℕ} {l l' : Lists} {o : Streamed} → AreBytes s → (stands_for w).ended ≡ false →
      (stands_for w).taken + length s ≤ 4294967295 → sent_back o.number ≡ false → Came (stands_for w) s l o l' →
      StandsForBytes o.stream
  joins {s} {o = o} b z h k c =
      let all = (goes_further start w).all (good_if_open (read w) z) ∙ zero-add (length w) in
      let n = length-append w s in
      subst StandsForBytes
      (sym ((one_turn w s c).stream ∙ ap (λ (t : Bool). stands_for (w ++ cond t [] s)) k))
      (as_read (w ++ s) (bytes_joined w s bytes b) (omega arith))

  by_row : {s : List ℕ} {l l' : Lists} {o : Streamed} → AreBytes s → Came (stands_for w) s l o l' → StandsForBytes o.stream
  by_row b (ended_before z) = as_read w bytes short
  by_row b (too_long z h) = as_read w bytes short
  by_row b (too_small z h k) = as_read w bytes short
  by_row {l = l} b (taken_in z h k e) = joins {l = l} b z h refl (taken_in z h k e)
  by_row {l = l} b (then_bad {n} z h k e i j) = joins {l = l} b z h (early_kept n (inr (i, j))) (then_bad z h k e i j)

  end_by_row : {o : Streamed} → EndCame (stands_for w) o → StandsForBytes o.stream
  end_by_row (already_ended z) = as_read w bytes short
  end_by_row (nothing_missing z e) = and_ended w bytes short
  end_by_row (number_missing z e) = and_ended w bytes short

after_delivery : {st : Stream} {s : List ℕ} {l l' : Lists} {o : Streamed} → StandsForBytes st → AreBytes s → TookDelivery st s l o l' →
    StandsForBytes o.stream
after_delivery (as_read w b h) a p = by_row w b h a (comes_exactly.0 p)
after_delivery (and_ended w b h) a p =
    subst StandsForBytes (sym (ap (λ (o : Streamed). o.stream) (delivery_after refl p).0)) (and_ended w b h)

after_end : {st : Stream} → StandsForBytes st → StandsForBytes (end_answer st).stream
after_end (as_read w b h) = end_by_row w b h ((ends_exactly (stands_for w)).0 refl)
after_end (and_ended w b h) =
    subst StandsForBytes (sym (ap (λ (o : Streamed). o.stream) (end_after (closed (stands_for w)) refl refl))) (and_ended w b h)

stands_if_reached : {st : Stream} → Reached st → StandsForBytes st
unfolding feeds
stands_if_reached plain.Reached.fresh = as_read [] bytes_none (omega arith)
stands_if_reached (by_delivery r a p) = after_delivery (stands_if_reached r) a p
stands_if_reached (by_end st r) = after_end (stands_if_reached r)

-- ---- and to each of them there is a way

reaches : (s : List ℕ) → AreBytes s → length s ≤ 4294967295 → Reached (stands_for s)
unfolding feeds
reaches s b h =
    let l = spare (length s) in
    let n = spare_size (length s) in
    let p : TookDelivery fresh_stream s l (delivery_answer fresh_stream s (size l)) (lists_after fresh_stream s l) =
    record { answer = refl; lists = refl } in
    subst Reached
    ((one_turn [] s (comes_exactly.0 p)).stream ∙
    ap (λ (t : Bool). stands_for (cond t [] s)) (not_sent_back p (omega arith) (omega arith)))
    (by_delivery plain.Reached.fresh b p)

-- the end of any stream closes it
ends_closed : (st : Stream) → (end_answer st).stream ≡ closed st
ends_closed st = by_answer ((ends_exactly st).0 refl)
  where
    by_answer : {o : Streamed} → EndCame st o → o.stream ≡ closed st
    by_answer (already_ended z) = λ i. record { part = st.part; from = st.from; taken = st.taken; ended = z i }
    by_answer (nothing_missing z e) = refl
    by_answer (number_missing z e) = refl

reached_if_stands : {st : Stream} → StandsForBytes st → Reached st
reached_if_stands (as_read s b h) = reaches s b h
reached_if_stands (and_ended s b h) = subst Reached (ends_closed (stands_for s)) (by_end (stands_for s) (reaches s b h))

-- Calls come from a fresh start exactly to the streams that stand for some bytes, at most 4,294,967,295, as they are read or ended there.
pub reached_exactly : (st : Stream) → Reached st ↔ StandsForBytes st
reached_exactly st = (stands_if_reached, reached_if_stands)

-- Calls come to the stream that has read some bytes, at most 4,294,967,295, and was then ended.
pub reached_ended : (s : List ℕ) → AreBytes s → length s ≤ 4294967295 → Reached (closed (stands_for s))
reached_ended s b h = (reached_exactly (closed (stands_for s))).1 (and_ended s b h)

-- ---- the open ones

-- Calls come from a fresh start to an open stream exactly if it has read good records t, and u, what there is of the next one, together at
-- most 4,294,967,295 bytes (`OpenAt`): `from` is the length of t, `taken` that of both.
pub reached_open : (st : Stream) → Reached st × (st.ended ≡ false) ↔
    ((t : List ℕ) × (u : List ℕ) × AreBytes (t ++ u) × (length (t ++ u) ≤ 4294967295) × OpenAt t u st)
reached_open st = (λ r. by_stand ((reached_exactly st).0 r.0) r.1, λ x. back x.0 x.1 x.2 x.3 x.4)
  where
    by_stand : {st : Stream} → StandsForBytes st → st.ended ≡ false →
        (t : List ℕ) × (u : List ℕ) × AreBytes (t ++ u) × (length (t ++ u) ≤ 4294967295) × OpenAt t u st
    by_stand (as_read s b h) z =
        let x = opens s (good_if_open (read s) z) in
        (x.0, x.1, λ k. rw (sym x.2) (b k), rw (sym x.2) h, x.3)
    by_stand (and_ended s b h) z = absurd (true≢false z)

    back : (t u : List ℕ) → AreBytes (t ++ u) → length (t ++ u) ≤ 4294967295 → OpenAt t u st → Reached st × (st.ended ≡ false)
    back t u b h a = (subst Reached (sym (stands_open a).0) (reaches (t ++ u) b h), a.goes_on)
