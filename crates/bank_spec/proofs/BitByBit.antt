-- What it is to agree on every bit that the mask allows: bit by bit, and in source document 001's words.
use Prim.Native.Nat.{ℕ, zero, suc, ◌%◌, ◌^◌, ◌<◌}
use native.Mathlib.Nat.{lt_of_le_of_lt, mod-eq_of_lt}
use native.Mathlib.Omega.{arith}
use mathlib.Core.Path.{◌≡◌, refl, sym, ap, ◌∙◌}
use mathlib.Core.Bool.{Bool, true, false, true≢false, not, ◌&&◌, ◌||◌, beq, and-false}
use mathlib.Core.Logic.{◌⊎◌, inl, inr, ⊎_elim, ◌↔◌}
use lib.Bits.{bit_and, and_le_r}
use lib.Dec.{eqb}
use borrow.Author.Tests.{eq-eqb, eqb-true}
use Rattle.words.specs.Bytes.{bit}
use Rattle.words.proofs.Bits.{bit_above, same_bits}
use Rattle.std.proofs.lemmas.Bool.{and_parts, cases_eq}
use Rattle.words.proofs.Choices.{same_test, come_out_alike}
use Rattle.words.proofs.Digits.{bit_left}
use Rattle.bank_spec.specs.Decode.{agrees_at, agrees_below, agrees}
use Rattle.bank_spec.specs.InPlainWords.{Agrees}

-- ---- bit by bit

module _ (m v a : ℕ) where
  on_bit : (i : ℕ) → agrees_at m v a i ≡ true ↔ (bit m i ≡ false) ⊎ (bit v i ≡ bit a i)
  unfolding agrees_at
  on_bit i = go (bit m i) (bit v i) (bit a i)
    where
      go : (s t u : Bool) → (not s || beq t u) ≡ true ↔ (s ≡ false) ⊎ (t ≡ u)
      go false t u = (λ _. inl refl, λ _. refl)
      go true t u = (λ e. inr ((come_out_alike t u).0 e), ⊎_elim (λ e. absurd (true≢false e)) (come_out_alike t u).1)

  below : (n : ℕ) → agrees_below m v a n ≡ true ↔ ((i : ℕ) → i < n → agrees_at m v a i ≡ true)
  unfolding agrees_below
  below zero = (λ _ i l. absurd (omega arith), λ _. refl)
  below (suc n) =
      let lower = below n in (
        λ e i l.
            let t = and_parts _ _ e in
            ⊎_elim (λ s. rw s t.1) (λ d. lower.0 t.0 i (omega (arith, l, d))) (cases_eq i n),
        λ f. rw (lower.1 (λ i l. f i (omega (arith, l)))) (f n (omega arith)),
      )

  -- Address and compare value agree exactly if, for each of the 32 bits, the mask's is 0 or theirs are equal (`Agrees`).
  pub agrees_exactly : agrees m v a ≡ true ↔ Agrees m v a
  unfolding agrees
  agrees_exactly =
      (λ e i l. (on_bit i).0 ((below _).0 e i l), λ f. (below _).1 (λ i l. (on_bit i).1 (f i l)))

-- ---- what the mask leaves

same_left : (s t u : Bool) → (s ≡ false) ⊎ (t ≡ u) ↔ t && s ≡ (u && s)
same_left true true true = (λ _. refl, λ _. inr refl)
same_left true true false = (⊎_elim (λ e. absurd (true≢false e)) (λ e. e), λ e. inr e)
same_left true false true = (⊎_elim (λ e. absurd (true≢false e)) (λ e. e), λ e. inr e)
same_left true false false = (λ _. refl, λ _. inr refl)
same_left false t u = (λ _. and-false t ∙ sym (and-false u), λ _. inl refl)

-- By a mask of 32 bits, address and compare value agree exactly if what the mask leaves of both is the same: "masked using the
-- corresponding BKMSKx value, compared with the LAD bus address bits allowed by the corresponding BKMSKx value".
pub masked_alike : (m v a : ℕ) → m < 2 ^ 32 → agrees m v a ≡ eqb (bit_and v m) (bit_and a m)
masked_alike m v a l =
    same_test (agrees m v a) (eqb (bit_and v m) (bit_and a m))
    (λ e. eq-eqb _ _ (sym (fits v) ∙ left_alike ((agrees_exactly m v a).0 e) ∙ fits a))
    (λ e. (agrees_exactly m v a).1 (λ i _. (same_left (bit m i) (bit v i) (bit a i)).1 (bits_left (eqb-true _ _ e) i)))
  where
    fits : (x : ℕ) → bit_and x m % 2 ^ 32 ≡ bit_and x m
    fits x = mod-eq_of_lt (lt_of_le_of_lt (and_le_r x m) l)

    left_alike : Agrees m v a → bit_and v m % 2 ^ 32 ≡ bit_and a m % 2 ^ 32
    left_alike f =
        same_bits 32 (bit_and v m) (bit_and a m)
        (λ i h. bit_left v m i ∙ (same_left (bit m i) (bit v i) (bit a i)).0 (f i h) ∙ sym (bit_left a m i))

    bits_left : bit_and v m ≡ bit_and a m → (i : ℕ) → bit v i && bit m i ≡ (bit a i && bit m i)
    bits_left e i = sym (bit_left v m i) ∙ ap (λ (x : ℕ). bit x i) e ∙ bit_left a m i

-- A mask of 0 allows no bit, and any address agrees.
pub nothing_allowed : (v a : ℕ) → agrees 0 v a ≡ true
nothing_allowed v a = (agrees_exactly 0 v a).1 (λ i _. inl (bit_above 0 (omega arith) (omega arith)))
