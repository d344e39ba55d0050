-- `transcript::writing::judge` meets its contract: at place i all the entries are judged as those that are left, with the bytes wanted
-- so far. A record has at most four bytes, and there are fewer than 2^62 entries, so that the sum can't wrap.
use Prim.Native.Nat.{ℕ, ◌+◌, ◌≤◌, ◌<◌, ◌^◌}
use native.Mathlib.Numerals.{add-one}
use native.Mathlib.Omega.{arith}
use mathlib.Core.Path.{◌≡◌, refl, sym, ap, ◌∙◌}
use mathlib.Core.List.{List, [], ◌∷◌}
use mathlib.Core.Logic.{◌≢◌, inl}
use lib.ListN.{length}
use Rattle.std.specs.Iterator.Adapters.{enumerate_source, enumerate_count}
use Rattle.words.proofs.RefusalNumbers.{none_is_0}
use Rattle.transcript_spec.specs.Format.{record_of}
use Rattle.transcript_spec.specs.Writing.{entry_refusal}
use Rattle.transcript_spec.specs.declared.Entry.{Entry}
use Rattle.transcript_lists.specs.Lent.{entries_left}
use Rattle.transcript.specs.WriterParts.{judged}
use Rattle.transcript.proofs.Judging.{found, refusal_said, none_said, size_said, good_one, bad_one}
use Rattle.transcript_spec.proofs.RecordBytes.{short}
use Rattle.transcript_spec.proofs.WrittenExactly.{passes_good}
use Rattle.transcript.proofs.writing.judge.Invariants.{Judging}
use Rattle.transcript.proofs.writing.judge.Goals as goal

module _ {es left : List Entry} {wanted i : ℕ} (j : Judging es wanted i left) where
  module _ (e : Entry) {left' : List Entry} (next : left ≡ e ∷ left') where
    first : judged 0 0 es ≡ judged i wanted (e ∷ left')
    first = j.same ∙ ap (judged i wanted) next

    -- entry i is good
    went_on : entry_refusal e ≡ 0 → (m : ℕ) → m ≡ length (record_of e) → Judging es (wanted + m) (i + 1) left'
    went_on z m h =
        let one = first ∙ good_one i wanted e left' z in
        record {
          most = omega (arith, j.most, ap length next);
          few = omega (arith, j.few, short e (passes_good e z));
          same = rw h (one ∙ ap (λ (k : ℕ). judged k (wanted + length (record_of e)) left') (sym (add-one i)));
        }

    -- it is bad
    fell : (number : ℕ) → number ≡ entry_refusal e → number ≢ 0 → found number i 0 ≡ judged 0 0 es
    fell number h d = rw h (sym (first ∙ bad_one i wanted e _ (λ z. d (h ∙ z))))

  -- all are judged
  ended : left ≡ [] → found 0 0 wanted ≡ judged 0 0 es
  unfolding judged
  ended h = sym (j.same ∙ ap (judged i wanted) h)

  -- the count fits
  fits : i + length left < 2 ^ 64
  fits = omega (arith, j.most)

moved : {es left : List Entry} {wanted i i' : ℕ} → i' ≡ i → Judging es wanted i left → Judging es wanted i' left
moved q j = rw q j

begun : {es left : List Entry} {i : ℕ} → left ≡ es → i ≡ 0 → length es < 2 ^ 62 → Judging es 0 i left
begun all z few = rw (all, z) (record { most = omega (arith, few); few = omega arith; same = refl })

pub loop-i-init : goal.loop-i-init
loop-i-init c =
    let e = c.enumerate-i-items.ensures in
    let gives = c.into_iter-i-iterator.ensures.into_iter_gives in
    let all = ap (λ it. entries_left (enumerate_source it)) gives ∙ ap entries_left e.source ∙ c.entries.ensures.all in
    let j = begun all (ap enumerate_count gives ∙ e.count) (rw c.entries.ensures.all at c.entries.ensures.few) in
    ((tt, tt, inl (fits j)), tt, j)

pub returns-in-Err : goal.returns-in-Err
returns-in-Err c =
    let s = c.in-Some.ensures.steps in
    let h = refusal_said c.in-Some.e _ c.judge_entry.ensures c.in-Err.is in
    rw s.1 (fell c.loop-i.invariant.2 c.in-Some.e s.0 _ h (none_is_0 _))

pub overflow_add-wanted : goal.overflow_add-wanted
overflow_add-wanted c =
    let j = c.loop-i.invariant.2 in
    let e = c.in-Some.e in
    let size = size_said e _ c.judge_entry.ensures c.in-Ok.is in
    let four = short e (passes_good e (none_said e _ c.judge_entry.ensures c.in-Ok.is)) in
    omega (arith, j.few, j.most, ap length c.in-Some.ensures.steps.0, size, four)

pub loop-i-preserved : goal.loop-i-preserved
loop-i-preserved c =
    let s = c.in-Some.ensures.steps in
    let e = c.in-Some.e in
    let said = c.judge_entry.ensures in
    let j = moved s.2 (went_on c.loop-i.invariant.2 e s.0 (none_said e _ said c.in-Ok.is) _ (size_said e _ said c.in-Ok.is)) in
    ((tt, tt, inl (fits j)), tt, j)

pub returns : goal.returns
returns c = ended c.loop-i.invariant.2 c.in-None.ensures.steps.0.0
