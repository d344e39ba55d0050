-- A bank of 2^k bits at a multiple of its size, with the mask of source document 001's formula, is selected in its range and nowhere else:
-- it is placed "without aliasing".
use Prim.Native.Nat.{ℕ, ◌+◌, ◌-◌, ◌*◌, ◌/◌, ◌%◌, ◌^◌, ◌<◌, ◌≤◌}
use native.Mathlib.Nat.{mod-eq_of_lt, mod-lt, mul-div_cancel}
use native.Mathlib.Omega.{arith}
use mathlib.Core.Path.{◌≡◌, refl, sym, ap, subst, ◌∙◌}
use mathlib.Core.Bool.{true}
use mathlib.Core.Logic.{◌↔◌}
use lib.Bits.{bit_and, and_high}
use lib.Dec.{eqb}
use lib.Pow.{pow_pos, pow_mono, high, split, shr_lt}
use borrow.Author.Tests.{eq-eqb, eqb-true}
use Rattle.bank_spec.specs.Decode.{agrees}
use Rattle.bank_spec.specs.InPlainWords.{mask_for}
use Rattle.bank_spec.proofs.BitByBit.{masked_alike}

-- Two of source document 001's masks in figures: FF800000h for 1 MByte, 2^23 bits, the paper's own example, and FFFFFE00h for 2^9 bits,
-- those of a palette's registers in its sample map.
pub sample_masks : (mask_for 23 ≡ 0xFF800000) × (mask_for 9 ≡ 0xFFFFFE00)
sample_masks = (refl, refl)

module _ (k : ℕ) (small : k < 32) where
  -- It has all bits from k up.
  upper_bits : mask_for k ≡ 2 ^ (32 - k + k) - 2 ^ k
  upper_bits =
      let e : 32 - k + k ≡ 32 = omega arith in
      let l : 2 ^ k ≤ 2 ^ 31 = pow_mono {i = k} {j = 31} (omega arith) in
      rw e (omega (arith, l))

  -- What it leaves of a 32-bit number.
  leaves : (v : ℕ) → v < 2 ^ 32 → bit_and v (mask_for k) ≡ v / 2 ^ k * 2 ^ k
  leaves v h =
      let e : 32 ≡ 32 - k + k = omega arith in
      let l : v / 2 ^ k < 2 ^ (32 - k) = shr_lt (32 - k) k (subst (λ (n : ℕ). v < 2 ^ n) e h) in
      ap (bit_and v) upper_bits ∙ and_high v (32 - k) k ∙ ap (λ (x : ℕ). x * 2 ^ k) (mod-eq_of_lt l)

  -- With the paper's mask for 2^k bits, k below 32, and a compare value of 32 bits that is a multiple of 2^k, exactly the addresses of that
  -- range agree: those from the compare value on, as many as the bank has bits.
  pub in_its_range : (q a : ℕ) → q * 2 ^ k < 2 ^ 32 → a < 2 ^ 32 →
      agrees (mask_for k) (q * 2 ^ k) a ≡ true ↔ (q * 2 ^ k ≤ a) × (a < q * 2 ^ k + 2 ^ k)
  in_its_range q a hc ha = (inside, λ r. from_inside r.0 r.1)
    where
      first : q * 2 ^ k / 2 ^ k ≡ q
      first = mul-div_cancel q (pow_pos k)

      masked : agrees (mask_for k) (q * 2 ^ k) a ≡ eqb (q * 2 ^ k) (a / 2 ^ k * 2 ^ k)
      masked =
          masked_alike (mask_for k) (q * 2 ^ k) a (omega (arith, pow_pos k))
          ∙ (λ j. eqb ((leaves (q * 2 ^ k) hc ∙ ap (λ (x : ℕ). x * 2 ^ k) first) j) (leaves a ha j))

      inside : agrees (mask_for k) (q * 2 ^ k) a ≡ true → (q * 2 ^ k ≤ a) × (a < q * 2 ^ k + 2 ^ k)
      inside e =
          let same : q * 2 ^ k ≡ a / 2 ^ k * 2 ^ k = eqb-true _ _ (sym masked ∙ e) in
          let rest : a % 2 ^ k < 2 ^ k = mod-lt a (pow_pos k) in
          (omega (arith, same, split a k, rest), omega (arith, same, split a k, rest))

      from_inside : q * 2 ^ k ≤ a → a < q * 2 ^ k + 2 ^ k → agrees (mask_for k) (q * 2 ^ k) a ≡ true
      from_inside l h =
          let e : a ≡ q * 2 ^ k + (a - q * 2 ^ k) = omega (arith, l) in
          let r : a - q * 2 ^ k < 2 ^ k = omega (arith, l, h) in
          let same : a / 2 ^ k ≡ q = ap (λ (x : ℕ). x / 2 ^ k) e ∙ high q k r in
          masked ∙ eq-eqb _ _ (ap (λ (x : ℕ). x * 2 ^ k) (sym same))
