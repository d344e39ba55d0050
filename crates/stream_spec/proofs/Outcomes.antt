-- Demand 1 for a delivery, whatever the stream: what it comes to, each answer when and only then (`Came`).
use Prim.Native.Nat.{ℕ, ◌+◌, ◌≤◌}
use native.Mathlib.Omega.{arith}
use mathlib.Core.Path.{◌≡◌, refl, sym, ap, subst}
use mathlib.Core.Bool.{true, false}
use mathlib.Core.List.{List}
use mathlib.Core.Logic.{◌↔◌, ⊎_elim, inl, inr}
use lib.Dec.{eqb}
use lib.ListN.{length}
use borrow.Author.Tests.{lt-ltb, le-ltb, ne_eqb}
use Rattle.std.proofs.lemmas.Bool.{cases_Bool, cases_lt}
use Rattle.transcript_spec.specs.Lists.{Lists, size, with_entries}
use Rattle.transcript_spec.proofs.HowFar.{EarlyRefusal, early_refusal, goes_further}
use Rattle.stream_spec.specs.InPlainWords.{answer, stream_after, Came, ended_before, too_long, too_small, taken_in, then_bad}
use Rattle.stream_spec.specs.Stream.{resumed, heard, barred, answered_as, answered, delivery_answer, lists_after, TookDelivery}
use Rattle.stream_spec.specs.declared.Stream.{Stream}
use Rattle.stream_spec.specs.declared.Streamed.{Streamed}
use Rattle.stream_spec.proofs.One.{one_delivery}

-- a refusal is not 0
not_none : (n : ℕ) → 21 ≤ n → eqb n 0 ≡ false
not_none n h = ne_eqb n 0 (λ z. omega arith)

module _ (st : Stream) (s : List ℕ) where
  -- ---- what is told of a delivery that is looked through

  -- A delivery that is looked through and has no bad record is answered with 0 and the count of its good ones, and the stream goes on.
  pub told_good : (heard st s).refusal ≡ 0 → answered (heard st s) ≡ answer 0 (length (heard st s).got) 0 (stream_after st s false)
  told_good z = ap (λ (k : ℕ). answered_as k (heard st s)) z

  -- A delivery that has a bad record is answered with its refusal, the count of the good ones before it and the place where it begins, and
  -- the stream has ended.
  pub told_bad : {n : ℕ} → (heard st s).refusal ≡ n → 21 ≤ n →
      answered (heard st s) ≡ answer n (length (heard st s).got) (heard st s).from (stream_after st s true)
  told_bad {n} e h = rw (e, not_none n h)

  module _ (l : Lists) where
    -- ---- by the bar
    barred_by : (n : ℕ) → eqb n 0 ≡ false → barred st s (size l) ≡ n → TookDelivery st s l (answer n 0 0 st) l
    unfolding delivery_answer lists_after
    barred_by n d b = record { answer = rw (b, d); lists = rw (b, d) }

    not_barred : {o : Streamed} → barred st s (size l) ≡ 0 → answered (heard st s) ≡ o →
        TookDelivery st s l o (with_entries (heard st s).got l)
    unfolding delivery_answer lists_after
    not_barred b e = record { answer = rw b (sym e); lists = rw b }

    passes : st.ended ≡ false → st.taken + length s ≤ 4294967295 → length (heard st s).got ≤ size l → barred st s (size l) ≡ 0
    unfolding barred
    passes still short fits =
        rw (still, le-ltb 4294967295 (st.taken + length s) short, le-ltb (size l) (length (heard st s).got) fits)

    -- A delivery that no bar refuses is read, and what it hands out is put into the lists.
    pub takes_in : st.ended ≡ false → st.taken + length s ≤ 4294967295 → length (heard st s).got ≤ size l →
        TookDelivery st s l (answered (heard st s)) (with_entries (heard st s).got l)
    takes_in still short fits = not_barred (passes still short fits) refl

    -- ---- each row of the table decides the outcome
    row_holds : {o : Streamed} {l' : Lists} → Came st s l o l' → TookDelivery st s l o l'
    unfolding barred
    row_holds (ended_before z) = barred_by _ refl (rw z)
    row_holds (too_long z h) = barred_by _ refl (rw (z, lt-ltb 4294967295 (st.taken + length s) h))
    row_holds (too_small z h k) =
        barred_by _ refl
        (rw (z, le-ltb 4294967295 (st.taken + length s) h, lt-ltb (size l) (length (heard st s).got) k))
    row_holds (taken_in z h k e) = not_barred (passes z h k) (told_good e)
    row_holds (then_bad z h k e i j) = not_barred (passes z h k) (told_bad e i)

    -- ---- and one row or another holds
    looked_through : st.ended ≡ false → st.taken + length s ≤ 4294967295 → length (heard st s).got ≤ size l →
        EarlyRefusal (heard st s).refusal → (o : Streamed) × (l' : Lists) × Came st s l o l'
    looked_through z h k (inl e) = (_, _, taken_in z h k e)
    looked_through z h k (inr r) = (_, _, then_bad z h k refl r.0 r.1)

    some_row : (o : Streamed) × (l' : Lists) × Came st s l o l'
    some_row =
        ⊎_elim
        (λ z. (_, _, ended_before z))
        (λ z.
        ⊎_elim
        (λ h. (_, _, too_long z h))
        (λ h.
        ⊎_elim
        (λ k. (_, _, too_small z h k))
        (λ k. looked_through z h k (early_refusal (resumed st) s (inl refl)))
        (cases_lt (size l) (length (heard st s).got)))
        (cases_lt 4294967295 (st.taken + length s)))
        (cases_Bool st.ended)

-- Of any stream, also one that no calls come to, the outcome of a delivery is this answer, with this stream, and these lists exactly if
-- their row of `Came` holds.
pub comes_exactly : {st : Stream} {s : List ℕ} {l l' : Lists} {o : Streamed} → TookDelivery st s l o l' ↔ Came st s l o l'
comes_exactly {st} {s} {l} {l'} {o} = (
  λ p.
      let x = some_row st s l in
      let same = one_delivery (row_holds st s l x.2) p in
      subst (λ (k : Lists). Came st s l o k) same.1 (subst (λ (a : Streamed). Came st s l a x.1) same.0 x.2),
  row_holds st s l,
)

-- A delivery finishes no more records than it has bytes.
pub no_more_than_bytes : (st : Stream) (s : List ℕ) → length (heard st s).got ≤ length s
no_more_than_bytes st s = omega (arith, (goes_further (resumed st) s).few)
