-- Demand 1 for fields: the number is one of 0, 1, 4, 5 and 6, each when, and only then; a refusal answers zeros and leaves memory.
-- By cases on the tests of `refusal`, in its order.
use Prim.Native.Nat.{ℕ, ◌^◌, ◌≤◌, ◌<◌}
use native.Mathlib.Omega.{arith}
use mathlib.Core.Path.{◌≡◌, refl, sym, ap, ◌∙◌}
use mathlib.Core.List.{List}
use mathlib.Core.Logic.{◌↔◌, ◌≢◌, ◌⊎◌, inl, inr, ⊎_elim}
use lib.IntN.{ℤ, pos}
use lib.ListN.{length}
use Rattle.std.proofs.lemmas.Bool.{cases_eq, cases_lt}
use Rattle.words.specs.Addresses.{word_at}
use Rattle.words.specs.declared.BitAddress.{BitAddress}
use Rattle.field_spec.specs.Count.{last_word, touched}
use Rattle.field_spec.specs.InPlainWords.{Missing}
use Rattle.field_spec.proofs.Counted.{missing_last, last_missing}
use Rattle.field_spec.specs.Answers.{refusal, taken, taken_signed, put_answer, put_memory}
use Rattle.field_spec.specs.declared.Taken.{Taken}
use Rattle.field_spec.specs.declared.Put.{Put}
use Rattle.field_spec.proofs.Answered.{taken_done, signed_done, put_done, taken_refused, signed_refused, put_refused, memory_refused}
use Rattle.field_spec.proofs.Accepted.{tested}

-- ---- when, and only then

-- v is the number for a memory of so many words, and a field of n bits at a: 1 exactly if there are over 32,768 words, 4 if the size is not
-- 1 to 32, 5 if more than three words are touched, 6 if some touched word isn't in memory, each exactly if so and none before it; else 0.
pub record FieldWhen (words : ℕ) (a : BitAddress) (n v : ℕ) : Type 0 where
  pub listed : (v ≤ 6) × (v ≢ 2) × (v ≢ 3)
  pub over : v ≡ 1 ↔ 32768 < words
  pub no_size : v ≡ 4 ↔ (words ≤ 32768) × ((n < 1) ⊎ (32 < n))
  pub too_wide : v ≡ 5 ↔ (words ≤ 32768) × (1 ≤ n) × (n ≤ 32) × (3 < touched a n)
  pub missing : v ≡ 6 ↔ (words ≤ 32768) × (1 ≤ n) × (n ≤ 32) × (touched a n ≤ 3) × Missing words a n
  pub done : v ≡ 0 ↔ (words ≤ 32768) × (1 ≤ n) × (n ≤ 32) × (touched a n ≤ 3) × (Missing words a n → ⊥)

-- The number that applies is one of 0, 1, 4, 5 and 6, each when, and only then (`FieldWhen`).
pub when : (words : ℕ) (a : BitAddress) (n : ℕ) → FieldWhen words a n (refusal words a n)
when words a n =
    let t = tested words a n in
    record {
      listed = t.listed;
      over = t.over;
      no_size = (
        λ e. ((t.no_size e).0, ⊎_elim (λ l. inl l) (λ s. inr ((t.no_size e).1 s)) (cases_lt n 1)),
        λ h. ⊎_elim (t.small h.0) (t.large h.0) h.1,
      );
      too_wide = t.too_wide;
      missing = (
        λ e. let g = t.missing.0 e in (g.0, g.1, g.2, g.3, last_missing words a n g.1 g.4),
        λ h. t.missing.1 (h.0, h.1, h.2, h.3, missing_last words a n h.4),
      );
      done = (
        λ e. let g = t.done.0 e in (g.0, g.1, g.2, g.3, λ m. omega (arith, g.4, missing_last words a n m)),
        λ h.
            let there : (last_word a n).0 < words =
            ⊎_elim (λ l. l) (λ k. absurd (h.4 (last_missing words a n h.1 k))) (cases_lt (last_word a n).0 words)
            in t.done.1 (h.0, h.1, h.2, h.3, there),
      );
    }

-- ---- the calls

-- The number of an answer, from what it is where the field is accepted and where it is refused.
answer_number : {A : Type 0} (number : A → ℕ) (k : ℕ) {answer done refused : A} → (k ≡ 0 → answer ≡ done) → number done ≡ 0
    → (k ≢ 0 → answer ≡ refused) → number refused ≡ k → number answer ≡ k
answer_number number k d z r e =
    ⊎_elim (λ q. ap number (d q) ∙ z ∙ sym q) (λ q. ap number (r q) ∙ e) (cases_eq k 0)

module _ (m : List ℕ) (a : BitAddress) (n : ℕ) where
  taken_number : (taken m a n).number ≡ refusal (length m) a n
  taken_number = answer_number (λ (r : Taken ℕ). r.number) _ (taken_done m a n) refl (taken_refused m a n) refl

  signed_number : (taken_signed m a n).number ≡ refusal (length m) a n
  signed_number = answer_number (λ (r : Taken ℤ). r.number) _ (signed_done m a n) refl (signed_refused m a n) refl

  -- A putting in answers the number that applies.
  pub put_number : (put_answer (length m) a n).number ≡ refusal (length m) a n
  put_number = answer_number (λ (r : Put). r.number) _ (put_done m a n) refl (put_refused m a n) refl

  -- Of all three calls the number is 0, 1, 4, 5 or 6, each exactly if its condition holds and none of those tested before it; 6 says that
  -- some touched word isn't in memory (`FieldWhen`).
  pub numbered : FieldWhen (length m) a n (taken m a n).number × FieldWhen (length m) a n (taken_signed m a n).number
      × FieldWhen (length m) a n (put_answer (length m) a n).number
  numbered = (rw taken_number (when (length m) a n), rw signed_number (when (length m) a n), rw put_number (when (length m) a n))

  -- A taking out that answers another number than 0 answers value 0 and no cycles.
  pub refused_taking : (taken m a n).number ≢ 0 → ((taken m a n).value ≡ 0) × ((taken m a n).cycles ≡ 0)
  refused_taking d =
      let e = taken_refused m a n (λ q. d (taken_number ∙ q)) in
      (ap (λ (r : Taken ℕ). r.value) e, ap (λ (r : Taken ℕ). r.cycles) e)

  -- A taking out as signed that answers another number than 0 answers value 0 and no cycles.
  pub refused_signed : (taken_signed m a n).number ≢ 0 → ((taken_signed m a n).value ≡ pos 0) × ((taken_signed m a n).cycles ≡ 0)
  refused_signed d =
      let e = signed_refused m a n (λ q. d (signed_number ∙ q)) in
      (ap (λ (r : Taken ℤ). r.value) e, ap (λ (r : Taken ℤ). r.cycles) e)

  -- A putting in that answers another number than 0 has no cycles, and leaves the memory as it stood, whatever the value.
  pub refused_put : (put_answer (length m) a n).number ≢ 0
      → ((put_answer (length m) a n).cycles ≡ 0) × ((v : ℕ) → put_memory m a n v ≡ m)
  refused_put d =
      let e : refusal (length m) a n ≢ 0 = λ q. d (put_number ∙ q) in
      (ap (λ (r : Put). r.cycles) (put_refused m a n e), memory_refused m a n e)

-- A field of one bit or more from bit address 2^19 on misses any memory of 32,768 words or fewer. So near the end of the addresses it does
-- so with its first bit already, and whether its last bits would wrap can't be seen.
pub far_away : (words : ℕ) (a : BitAddress) (n : ℕ) → words ≤ 32768 → 2 ^ 19 ≤ a.0 → 1 ≤ n → Missing words a n
far_away words a n f h s =
    record {
      word = word_at a;
      holds = record { bit = a; covered = record { from = omega arith; to = omega arith }; in_word = refl };
      beyond = omega arith;
    }
