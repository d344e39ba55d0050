-- Where each list has a place for each byte that comes with it, and the stream stays within its limit, nothing is sent back: then the
-- joined bytes are all bytes that were delivered.
use Prim.Native.Nat.{ℕ, ◌+◌, ◌≤◌}
use native.Mathlib.Omega.{arith}
use mathlib.Core.Path.{◌≡◌, refl, ap, ◌∙◌, subst}
use mathlib.Core.Bool.{Bool, false, cond}
use mathlib.Core.List.{List, [], ◌∷◌, ◌++◌}
use mathlib.Core.Logic.{inr}
use lib.ListN.{length, length-append}
use Rattle.transcript_spec.specs.Lists.{Lists, size}
use Rattle.transcript_spec.specs.Reading.{start, feeds}
use Rattle.transcript_spec.proofs.HowFar.{goes_further}
use Rattle.stream_spec.specs.InPlainWords.{Came, ended_before, too_long, too_small, taken_in, then_bad, Turn, Took, none, and_then}
use Rattle.stream_spec.specs.InPlainWords.{sent_back, kept, joined, handed_out, answers_of, verdict_of, Holds, delivered, Roomy}
use Rattle.stream_spec.specs.Stream.{fresh_stream, end_answer, TookDelivery}
use Rattle.stream_spec.specs.declared.Stream.{Stream}
use Rattle.stream_spec.specs.declared.Streamed.{Streamed}
use Rattle.stream_spec.proofs.AsTheReader.{off_the_line}
use Rattle.stream_spec.proofs.OneTurn.{read, stands_for, one_turn}
use Rattle.stream_spec.proofs.Outcomes.{no_more_than_bytes, comes_exactly}
use Rattle.stream_spec.proofs.Told.{early_kept}

-- With a place for each byte, and within 4,294,967,295 bytes, a delivery is not sent back.
pub not_sent_back : {st : Stream} {s : List ℕ} {l l' : Lists} {o : Streamed} → TookDelivery st s l o l' → length s ≤ size l →
    st.taken + length s ≤ 4294967295 → sent_back o.number ≡ false
not_sent_back {st} {s} {l} p room short = by_row (comes_exactly.0 p)
  where
    by_row : {o : Streamed} {l' : Lists} → Came st s l o l' → sent_back o.number ≡ false
    by_row (ended_before z) = refl
    by_row (too_long z h) = absurd (omega arith)
    by_row (too_small z h k) = absurd (omega (arith, no_more_than_bytes st s))
    by_row (taken_in z h k e) = refl
    by_row (then_bad {n} z h k e i j) = early_kept n (inr (i, j))

all_kept : (w : List ℕ) (ts : List Turn) {st st' : Stream} → st ≡ stands_for w → Took st ts st' → Roomy ts →
    length w + length (delivered ts) ≤ 4294967295 → joined ts ≡ delivered ts
unfolding joined delivered
all_kept w [] e none r h = refl
all_kept w (t ∷ ts) {st} e (and_then p q) r h =
    let far = goes_further start w in
    let n = length-append t.bytes (delivered ts) in
    let taken : st.taken ≡ (read w).next = ap (λ (x : Stream). x.taken) e in
    let stays = not_sent_back p r.0 (omega (arith, far.most)) in
    let same : kept t.answer t.bytes ≡ t.bytes = ap (λ (b : Bool). cond b [] t.bytes) stays in
    let turn =
    one_turn w t.bytes (subst (λ (x : Stream). Came x t.bytes t.lent t.answer t.left) e (comes_exactly.0 p)) in
    let m = length-append w t.bytes in
    ap (λ (x : List ℕ). x ++ joined ts) same
    ∙ ap (λ (x : List ℕ). t.bytes ++ x)
    (all_kept (w ++ t.bytes) ts (turn.stream ∙ ap (λ (x : List ℕ). stands_for (w ++ x)) same) q r.1 (omega arith))

module _ {ts : List Turn} {st : Stream} (p : Took fresh_stream ts st) (roomy : Roomy ts) (short : length (delivered ts) ≤ 4294967295) where
  -- Where each list has a place for each byte that came with it, and all bytes are at most 4,294,967,295, nothing is sent back, so that the
  -- joined bytes are all that were delivered.
  pub all_joined : joined ts ≡ delivered ts
  unfolding feeds
  all_joined = all_kept [] ts refl p roomy (omega arith)

  -- With a place for each byte, and at most 4,294,967,295 bytes, all that was delivered, however it is cut, is good records, those that
  -- were handed out, and then nothing, or a bad one with the final refusal at its place.
  pub however_cut : {e : Streamed} → e ≡ end_answer st → Holds (delivered ts) (handed_out ts) (verdict_of (answers_of ts ++ (e ∷ [])))
  however_cut {e} q =
      subst (λ (s : List ℕ). Holds s (handed_out ts) (verdict_of (answers_of ts ++ (e ∷ [])))) all_joined (off_the_line p q)
