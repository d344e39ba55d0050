-- What was put in is taken out, modulo 2^size; what was taken out, put in again, changes nothing; and of a value only its low
-- bits matter. Said of the definitions bit by bit, and then of the calls' answers.
use Prim.Native.Nat.{ℕ, zero, suc, ◌%◌, ◌^◌, ◌<◌}
use native.Mathlib.Omega.{arith}
use mathlib.Core.Path.{◌≡◌, refl, sym, ap, ◌∙◌}
use mathlib.Core.List.{List}
use mathlib.Core.Logic.{⊎_elim}
use lib.ListN.{length}
use Rattle.words.specs.Bytes.{bit}
use Rattle.words.specs.declared.BitAddress.{BitAddress}
use Rattle.std.proofs.lemmas.Bool.{cases_eq}
use Rattle.words.proofs.Bits.{bit_of_remainder}
use Rattle.field_spec.specs.Field.{bits_after, memory_bit, field_at, with_field, signed}
use Rattle.field_spec.specs.Count.{last_word, take_cycles}
use Rattle.field_spec.specs.InPlainWords.{same_bits}
use Rattle.field_spec.proofs.Readings.{as_it_is, put_length, field_fits, field_bit, field_from_bits, put_bit}
use Rattle.field_spec.proofs.Signs.{same_low_bits}
use Rattle.field_spec.specs.Answers.{refusal, taken, taken_signed, put_memory}
use Rattle.field_spec.proofs.Accepted.{none_applies}
use Rattle.field_spec.proofs.Answered.{taken_done, signed_done, memory_done, memory_refused}

-- ---- of the definitions

-- What was put in is taken out, modulo 2^n, if the field's last word is in memory.
pub take_put : (m : List ℕ) (a : BitAddress) (n v : ℕ) → (last_word a n).0 < length m → field_at (with_field m a n v) a n ≡ v % 2 ^ n
take_put m a n v l = field_from_bits (with_field m a n v) a n v (λ i h. put_bit m a n v i h (omega (arith, h, l)))

-- Two values with the same n low bits, put in as a field of n bits, leave the same memory.
pub put_alike : (m : List ℕ) (a : BitAddress) (n v u : ℕ) → ((i : ℕ) → i < n → bit v i ≡ bit u i)
    → with_field m a n v ≡ with_field m a n u
unfolding with_field
put_alike m a zero v u h = refl
put_alike m a (suc n) v u h = rw (put_alike m a n v u (λ i l. h i (omega (arith, l))), h n (omega arith))

-- A field put in as it stands changes nothing.
pub put_as_it_is : (m : List ℕ) (a : BitAddress) (n v : ℕ) → ((i : ℕ) → i < n → bit v i ≡ memory_bit m (bits_after a i))
    → with_field m a n v ≡ m
unfolding with_field
put_as_it_is m a zero v h = refl
put_as_it_is m a (suc n) v h =
    rw (put_as_it_is m a n v (λ i l. h i (omega (arith, l))), h n (omega arith)) (as_it_is m (bits_after a n))

-- ---- of the answers

module _ (m : List ℕ) (a : BitAddress) (n : ℕ) where
  -- What was put in, and accepted, is taken out again, modulo 2^size.
  pub taken_after_put : (v : ℕ) → refusal (length m) a n ≡ 0
      → taken (put_memory m a n v) a n ≡ record { number = 0; value = v % 2 ^ n; cycles = take_cycles a n }
  taken_after_put v e =
      let p = put_length m a n v in
      rw (memory_done m a n e v, taken_done (with_field m a n v) a n (rw p e), take_put m a n v (none_applies _ _ _ e).there)

  -- What was put in, and accepted, and is then taken out as signed, is the signed reading of the value modulo 2^size.
  pub signed_after_put : (v : ℕ) → refusal (length m) a n ≡ 0
      → taken_signed (put_memory m a n v) a n ≡ record { number = 0; value = signed n (v % 2 ^ n); cycles = take_cycles a n }
  signed_after_put v e =
      let p = put_length m a n v in
      rw (memory_done m a n e v, signed_done (with_field m a n v) a n (rw p e), take_put m a n v (none_applies _ _ _ e).there)

  -- What was taken out, put in again, changes nothing; nor does a refused call.
  pub put_after_taken : put_memory m a n (taken m a n).value ≡ m
  put_after_taken =
      ⊎_elim
      (λ e. rw (memory_done m a n e (taken m a n).value, taken_done m a n e) (put_as_it_is m a n (field_at m a n) (field_bit m a n)))
      (λ d. memory_refused m a n d (taken m a n).value)
      (cases_eq (refusal (length m) a n) 0)

  -- What was taken out as signed, put in again as the 32 bits that it has, changes nothing; nor does a refused call.
  pub put_after_signed : put_memory m a n (same_bits (taken_signed m a n).value) ≡ m
  put_after_signed =
      ⊎_elim
      (λ e. let i = none_applies _ _ _ e in
      let f : ℕ = field_at m a n in
      let back : same_bits (signed n f) % 2 ^ n ≡ f = same_low_bits n f i.some i.most (field_fits m a n) in
      rw (memory_done m a n e (same_bits (taken_signed m a n).value), signed_done m a n e)
      (put_as_it_is m a n (same_bits (signed n f))
      (λ j l. sym (bit_of_remainder (same_bits (signed n f)) n j l) ∙ ap (λ (x : ℕ). bit x j) back ∙ field_bit m a n j l)))
      (λ d. memory_refused m a n d (same_bits (taken_signed m a n).value))
      (cases_eq (refusal (length m) a n) 0)

  -- Putting in uses the value modulo 2^size.
  pub put_modulo : (v : ℕ) → put_memory m a n v ≡ put_memory m a n (v % 2 ^ n)
  unfolding put_memory
  put_modulo v = rw (put_alike m a n v (v % 2 ^ n) (λ i l. sym (bit_of_remainder v n i l)))
