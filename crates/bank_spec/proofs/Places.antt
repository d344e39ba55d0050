-- What a place of the registers holds: what was written there last, whatever was written elsewhere. A place is a bank, one of its two
-- values, and a half of that; each is shown to change by itself, then a place.
use Prim.Native.Nat.{ℕ, zero, suc, ◌%◌, ◌<◌, ◌≤◌}
use native.Mathlib.Omega.{arith}
use mathlib.Core.Path.{◌≡◌, refl, sym, ap, ◌∙◌}
use mathlib.Core.Bool.{Bool, true, false, cond, ◌&&◌, beq}
use mathlib.Core.Logic.{⊎_elim, ◌≢◌}
use lib.Dec.{eqb}
use borrow.Author.Tests.{eq-eqb, ne_eqb, eqb-true, eqb-false, ltb-true, ltb-false}
use Rattle.std.proofs.lemmas.Bool.{and_parts, cases_Bool, cases_eq}
use Rattle.words.proofs.Choices.{come_out_alike}
use Rattle.bank_spec.specs.Registers.{bank, bank_at, with_bank, half, with_half, bank_of, is_mask, is_high, value_of, with_value}
use Rattle.bank_spec.specs.Registers.{half_at, with_half_at}
use Rattle.bank_spec.specs.declared.Bank.{Bank}
use Rattle.bank_spec.specs.declared.Banks.{Banks}

-- ---- one bank of the four

-- What holds of 0 to 3 holds of every bank.
pub each_bank : (P : ℕ → Type 0) → P 0 → P 1 → P 2 → P 3 → (n : ℕ) → n < 4 → P n
each_bank P p0 p1 p2 p3 zero h = p0
each_bank P p0 p1 p2 p3 (suc zero) h = p1
each_bank P p0 p1 p2 p3 (suc (suc zero)) h = p2
each_bank P p0 p1 p2 p3 (suc (suc (suc zero))) h = p3
each_bank P p0 p1 p2 p3 (suc (suc (suc (suc n)))) h = absurd (omega arith)

-- The banks by their numbers: 0 to 3 name the four.
pub bank_named : (b : Banks) →
    (bank_at b 0 ≡ b.bank0) × (bank_at b 1 ≡ b.bank1) × (bank_at b 2 ≡ b.bank2) × (bank_at b 3 ≡ b.bank3)
unfolding bank_at
bank_named b = (refl, refl, refl, refl)

any_bank : (b : Banks) (n : ℕ) (k : Bank) (m : ℕ) → m < 4 → bank_at (with_bank b n k) m ≡ cond (eqb n m) k (bank_at b m)
unfolding bank_at with_bank
any_bank b n k = each_bank (λ m. bank_at (with_bank b n k) m ≡ cond (eqb n m) k (bank_at b m)) refl refl refl refl

module _ (b : Banks) (n : ℕ) (k : Bank) (m : ℕ) (h : m < 4) where
  -- A bank that was made k is k.
  same_bank : n ≡ m → bank_at (with_bank b n k) m ≡ k
  same_bank e = any_bank b n k m h ∙ rw (eq-eqb n m e)

  -- Every other bank is as it stood.
  other_bank : n ≢ m → bank_at (with_bank b n k) m ≡ bank_at b m
  other_bank d = any_bank b n k m h ∙ rw (ne_eqb n m d)

-- ---- one half of a bank's two values

any_half : (s t : Bool) (v w : ℕ) → w < 65536 → half t (with_half s v w) ≡ cond (beq s t) w (half t v)
unfolding half with_half
any_half true true v w h = omega arith
any_half true false v w h = omega arith
any_half false true v w h = omega arith
any_half false false v w h = omega arith

in_bank : (s t h g : Bool) (k : Bank) (w : ℕ) → w < 65536 →
    half g (value_of t (with_value s k (with_half h (value_of s k) w))) ≡ cond (beq s t && beq h g) w (half g (value_of t k))
unfolding value_of with_value
in_bank true true h g k w l = any_half h g k.mask w l
in_bank true false h g k w l = refl
in_bank false true h g k w l = refl
in_bank false false h g k w l = any_half h g k.compare w l

-- ---- one place of the sixteen

-- Masks are from place 8 up, high halves at odd places.
masks_above : (i : ℕ) → is_mask i ≡ true → 8 ≤ i
masks_above i e = ltb-true 7 i e

addresses_below : (i : ℕ) → is_mask i ≡ false → i < 8
addresses_below i e = omega (arith, ltb-false 7 i e)

highs_odd : (i : ℕ) → is_high i ≡ true → i % 2 ≡ 1
highs_odd i e = eqb-true (i % 2) 1 e

lows_even : (i : ℕ) → is_high i ≡ false → i % 2 ≡ 0
lows_even i e = omega (arith, eqb-false (i % 2) 1 e)

-- A place is told by its bank, its value and its half.
one_place : (i j : ℕ) → i < 16 → j < 16 → bank_of i ≡ bank_of j → is_mask i ≡ is_mask j → is_high i ≡ is_high j → i ≡ j
one_place i j hi hj b m h =
    ⊎_elim
    (λ e. omega (arith, b, parity, masks_above i e, masks_above j (sym m ∙ e)))
    (λ e. omega (arith, b, parity, addresses_below i e, addresses_below j (sym m ∙ e)))
    (cases_Bool (is_mask i))
  where
    parity : i % 2 ≡ j % 2
    parity =
        ⊎_elim
        (λ e. highs_odd i e ∙ sym (highs_odd j (sym h ∙ e)))
        (λ e. lows_even i e ∙ sym (lows_even j (sym h ∙ e)))
        (cases_Bool (is_high i))

-- the same value and the same half of a bank
abbrev same_spot : ℕ → ℕ → Bool
same_spot i j = beq (is_mask i) (is_mask j) && beq (is_high i) (is_high j)

module _ (b : Banks) (i w : ℕ) (l : w < 65536) (j : ℕ) where
  this_bank : bank_of i ≡ bank_of j → half_at (with_half_at b i w) j ≡ cond (same_spot i j) w (half_at b j)
  unfolding half_at with_half_at
  this_bank e =
      ap (λ (k : Bank). half (is_high j) (value_of (is_mask j) k)) (same_bank b _ _ _ (omega arith) e)
      ∙ in_bank (is_mask i) (is_mask j) (is_high i) (is_high j) (bank_at b (bank_of i)) w l
      ∙ ap (λ (n : ℕ). cond (same_spot i j) w (half (is_high j) (value_of (is_mask j) (bank_at b n)))) e

  another : bank_of i ≢ bank_of j → half_at (with_half_at b i w) j ≡ half_at b j
  unfolding half_at with_half_at
  another d = ap (λ (k : Bank). half (is_high j) (value_of (is_mask j) k)) (other_bank b _ _ _ (omega arith) d)

-- After a write of a word the same place of any registers reads back what was written.
pub reads_back : (b : Banks) (i w : ℕ) → w < 65536 → half_at (with_half_at b i w) i ≡ w
reads_back b i w l = this_bank b i w l i refl ∙
    rw ((come_out_alike (is_mask i) (is_mask i)).1 refl, (come_out_alike (is_high i) (is_high i)).1 refl)

-- After a write of a word no other of the sixteen places is changed.
pub others_stay : (b : Banks) (i w j : ℕ) → w < 65536 → i < 16 → j < 16 → i ≢ j → half_at (with_half_at b i w) j ≡ half_at b j
others_stay b i w j l hi hj d =
    ⊎_elim
    (λ e. this_bank b i w l j e ∙ rw (elsewhere e))
    (another b i w l j)
    (cases_eq (bank_of i) (bank_of j))
  where
    elsewhere : bank_of i ≡ bank_of j → same_spot i j ≡ false
    elsewhere e =
        ⊎_elim
        (λ t. let u = and_parts _ _ t in absurd (d (one_place i j hi hj e ((come_out_alike _ _).0 u.0) ((come_out_alike _ _).0 u.1))))
        (λ f. f)
        (cases_Bool (same_spot i j))

-- ---- a place written as it stands

half_stands : (s : Bool) (v : ℕ) → with_half s v (half s v) ≡ v
unfolding half with_half
half_stands true v = omega arith
half_stands false v = omega arith

value_stands : (t s : Bool) (k : Bank) → with_value t k (with_half s (value_of t k) (half s (value_of t k))) ≡ k
unfolding value_of with_value
value_stands true s k = ap (bank k.compare) (half_stands s k.mask)
value_stands false s k = ap (λ (v : ℕ). bank v k.mask) (half_stands s k.compare)

bank_stands : (b : Banks) (n : ℕ) → n < 4 → with_bank b n (bank_at b n) ≡ b
unfolding bank_at with_bank
bank_stands b = each_bank (λ n. with_bank b n (bank_at b n) ≡ b) refl refl refl refl

-- A place that is written with what it holds changes nothing.
pub written_as_it_stands : (b : Banks) (i : ℕ) → with_half_at b i (half_at b i) ≡ b
unfolding half_at with_half_at
written_as_it_stands b i =
    ap (with_bank b (bank_of i)) (value_stands (is_mask i) (is_high i) (bank_at b (bank_of i)))
    ∙ bank_stands b (bank_of i) (omega arith)
