-- Demand 1 for the end, whatever the stream: what it comes to, each answer when and only then (`EndCame`); and what it tells of the bytes
-- that the stream stands for.
use Prim.Native.Nat.{ℕ}
use mathlib.Core.Path.{◌≡◌, refl, sym, ap, ◌∙◌, subst}
use mathlib.Core.Bool.{Bool, true, false, cond}
use mathlib.Core.List.{[], ◌∷◌}
use mathlib.Core.Logic.{◌↔◌, ◌≢◌, ◌⊎◌, inl, inr, ⊎_elim}
use borrow.Author.Tests.{eq-eqb, ne_eqb}
use Rattle.std.proofs.lemmas.Bool.{cases_Bool, cases_eq}
use Rattle.transcript_spec.specs.Reading.{Reading, cut_off, ended}
use Rattle.transcript_spec.specs.declared.Part.{Part}
use Rattle.transcript_spec.specs.declared.Part.TheVariants.{Head, Word}
use Rattle.transcript_spec.proofs.HowFar.{ends_good, ends_bad}
use Rattle.stream_spec.specs.InPlainWords.{answer, shut, EndCame, already_ended, nothing_missing, number_missing, verdict_of}
use Rattle.stream_spec.specs.Stream.{streamed, standing, place_of, end_answered, end_answer}
use Rattle.stream_spec.specs.declared.Stream.{Stream}
use Rattle.stream_spec.specs.declared.Streamed.{Streamed}
use Rattle.stream_spec.proofs.Resumed.{open_if_good}
use Rattle.stream_spec.proofs.Told.{verdict, or_else}

-- The end of a part is no refusal, or 20.
pub zero_or_20 : (p : Part) → (cut_off p ≡ 0) ⊎ (cut_off p ≡ 20)
zero_or_20 (Head n) = begun_or_not n.begun
  where
    begun_or_not : (b : Bool) → (cond {A = ℕ} b 20 0 ≡ 0) ⊎ (cond {A = ℕ} b 20 0 ≡ 20)
    begun_or_not true = inr refl
    begun_or_not false = inl refl
zero_or_20 (Word h n) = inr refl

module _ (st : Stream) where
  -- The end answers 25 if the stream has ended already, and else what the part says at which it stands.
  pub ends_by : {b : Bool} → st.ended ≡ b → end_answer st ≡ cond b (streamed 25 0 0 st) (end_answered st)
  unfolding end_answer
  ends_by z = ap (λ (t : Bool). cond t (streamed 25 0 0 st) (end_answered st)) z

  told_by : {n : ℕ} → cut_off st.part ≡ n → end_answered st ≡ answer n 0 (place_of n st.from) (shut st)
  told_by e = ap (λ (k : ℕ). answer k 0 (place_of k st.from) (shut st)) e

  row_holds : {o : Streamed} → EndCame st o → end_answer st ≡ o
  row_holds (already_ended z) = ends_by z
  row_holds (nothing_missing z e) = ends_by z ∙ told_by e
  row_holds (number_missing z e) = ends_by z ∙ told_by e

  some_row : (o : Streamed) × EndCame st o
  some_row =
      ⊎_elim
      (λ z. (_, already_ended z))
      (λ z. ⊎_elim (λ e. (_, nothing_missing z e)) (λ e. (_, number_missing z e)) (zero_or_20 st.part))
      (cases_Bool st.ended)

  -- Of any stream, also one that no calls come to, the end answers this, with this stream, exactly if its row of `EndCame` holds.
  pub ends_exactly : {o : Streamed} → o ≡ end_answer st ↔ EndCame st o
  ends_exactly {o} =
      let x = some_row in
      (λ e. subst (EndCame st) (sym (row_holds x.1) ∙ sym e) x.1, λ c. sym (row_holds c))

  -- The end answers 0, 20 or 25.
  pub end_numbers : {o : Streamed} → o ≡ end_answer st → (o.number ≡ 0) ⊎ ((o.number ≡ 20) ⊎ (o.number ≡ 25))
  end_numbers e = by_row (ends_exactly.0 e)
    where
      by_row : {o : Streamed} → EndCame st o → (o.number ≡ 0) ⊎ ((o.number ≡ 20) ⊎ (o.number ≡ 25))
      by_row (already_ended z) = inr (inr refl)
      by_row (nothing_missing z e) = inl refl
      by_row (number_missing z e) = inr (inl refl)

-- ---- the verdict

-- the end's own number is the verdict
abbrev Told : Stream → ℕ → Type 0
Told st n = verdict_of (answer n 0 (place_of n st.from) (shut st) ∷ []) ≡ verdict n st.from

told_alone : (st : Stream) (n : ℕ) → (n ≡ 0) ⊎ (n ≡ 20) → Told st n
unfolding verdict_of
told_alone st n (inl z) = subst (Told st) (sym z) refl
told_alone st n (inr z) = subst (Told st) (sym z) refl

-- the refusal of a bad record in the reading r or, where there is none, what the end of its stream tells is the refusal of the string that
-- ends with r
abbrev pub Tells : Reading → Type 0
Tells r = or_else (verdict r.refusal r.from) (verdict_of (end_answer (standing r) ∷ [])) ≡ verdict (ended r) r.from

-- Of any reading, the refusal of a bad record or, where none was told, what the end tells is what the reader of request (ii) says of the
-- string that ends there.
pub end_tells : (r : Reading) → Tells r
end_tells r = ⊎_elim good bad (cases_eq r.refusal 0)
  where
    good : r.refusal ≡ 0 → Tells r
    good z =
        ap (λ (b : Bool). cond b (verdict_of (end_answer (standing r) ∷ [])) (verdict r.refusal r.from)) (eq-eqb r.refusal 0 z) ∙
        ap (λ (o : Streamed). verdict_of (o ∷ [])) (ends_by (standing r) (open_if_good r z)) ∙
        told_alone (standing r) (cut_off r.part) (zero_or_20 r.part) ∙
        ap (λ (n : ℕ). verdict n r.from) (sym (ends_good r z))

    bad : r.refusal ≢ 0 → Tells r
    bad d =
        ap (λ (b : Bool). cond b (verdict_of (end_answer (standing r) ∷ [])) (verdict r.refusal r.from)) (ne_eqb r.refusal 0 d) ∙
        ap (λ (n : ℕ). verdict n r.from) (sym (ends_bad r d))
