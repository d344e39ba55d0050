-- The words that a field touches as one number: the field is that number without the bits before it in its first word, modulo 2^n.
-- By induction on the words, as the whole memory is read as one number (`number_bit`).
use Prim.Native.Nat.{ℕ, zero, suc, ◌+◌, ◌-◌, ◌*◌, ◌/◌, ◌%◌, ◌^◌, ◌<◌}
use native.Mathlib.Numerals.{add-one}
use native.Mathlib.Omega.{arith}
use mathlib.Core.Path.{◌≡◌, sym, ap, subst, ◌∙◌}
use mathlib.Core.List.{List}
use mathlib.Core.Logic.{⊎_elim}
use lib.ListN.{get_or}
use lib.Pow.{high, low}
use Rattle.words.specs.Addresses.{address, word_at}
use Rattle.words.specs.Bytes.{bit}
use Rattle.words.specs.Memory.{AreWords}
use Rattle.words.specs.declared.BitAddress.{BitAddress}
use Rattle.std.proofs.lemmas.Bool.{cases_lt}
use Rattle.words.proofs.Bits.{bit_of_quotient, bit_of_remainder}
use Rattle.field_spec.specs.Field.{memory_bit, field_at}
use Rattle.field_spec.specs.Count.{touched}
use Rattle.field_spec.proofs.Readings.{bit_in, field_from_bits}
use Rattle.field.specs.Parts.{window}

-- ---- one, two and three words

module _ (m : List ℕ) (i : ℕ) where
  -- A window of one word is that word.
  pub one_word : window m i 1 ≡ get_or m i 0
  unfolding window
  one_word = omega arith

  -- A window of two words is the second at weight 65,536, and the first.
  pub two_words : window m i 2 ≡ get_or m (i + 1) 0 * 65536 + get_or m i 0
  unfolding window
  two_words = rw (add-one i) (omega arith)

  -- A window of three words is the third at weight 65,536 times 65,536, the second at weight 65,536, and the first.
  pub three_words : window m i 3 ≡ (get_or m (i + 2) 0 * 65536 + get_or m (i + 1) 0) * 65536 + get_or m i 0
  unfolding window
  three_words =
      let e : i + 2 ≡ suc (suc i) = omega arith in
      rw (e, add-one i) (omega arith)

-- ---- the bits

-- Bit i of a field lies in the words touched.
in_touched : (a : BitAddress) (n i : ℕ) → i < n → a.0 % 16 + i < 16 * touched a n
unfolding touched
in_touched a n i l = omega arith

module _ (m : List ℕ) (h : AreWords m) where
  -- Bit b of the window is the memory's bit b, counted from the first word's bit 0.
  window_bit : (k i b : ℕ) → b < 16 * k → bit (window m i k) b ≡ memory_bit m (address (i * 16 + b))
  unfolding window
  window_bit zero i b l = absurd (omega arith)
  window_bit (suc k) i b l =
      let rest : ℕ = window m (suc i) k in
      let x : ℕ = rest * 2 ^ 16 + get_or m i 0 in
      ⊎_elim
      (λ s. sym (bit_of_remainder x 16 b s)
      ∙ ap (λ (y : ℕ). bit y b) (low rest 16 (h i))
      ∙ sym (bit_in m (address (i * 16 + b)) i b (omega arith) s))
      (λ s. let c : ℕ = b - 16 in
      let e : 16 + c ≡ b = omega (arith, s) in
      let f : suc i * 16 + c ≡ i * 16 + b = omega (arith, s) in
      subst (λ (j : ℕ). bit x j ≡ memory_bit m (address (i * 16 + b))) e
      (sym (bit_of_quotient x 16 c)
      ∙ ap (λ (y : ℕ). bit y c) (high rest 16 (h i))
      ∙ window_bit k (suc i) c (omega (arith, s))
      ∙ ap (λ (j : ℕ). memory_bit m (address j)) f))
      (cases_lt b 16)

  -- The field is the window of the words that it touches, without the bits before it in its first word, modulo 2^n.
  pub field_in_window : (a : BitAddress) (n : ℕ) → field_at m a n ≡ window m (word_at a).0 (touched a n) / 2 ^ (a.0 % 16) % 2 ^ n
  field_in_window a n =
      let o : ℕ = a.0 % 16 in
      let w : ℕ = window m (word_at a).0 (touched a n) in
      field_from_bits m a n (w / 2 ^ o)
      (λ i l. let e : (word_at a).0 * 16 + (o + i) ≡ a.0 + i = omega arith in
      sym (window_bit (touched a n) (word_at a).0 (o + i) (in_touched a n i l) ∙ ap (λ (j : ℕ). memory_bit m (address j)) e)
      ∙ sym (bit_of_quotient w o i))
