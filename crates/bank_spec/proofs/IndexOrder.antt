-- The sixteen places in the order of source document 001's table, for any contents, by computation; and that they are all there is.
use Prim.Native.Nat.{ℕ, suc, ◌+◌, ◌*◌, ◌/◌, ◌%◌, ◌<◌}
use native.Mathlib.Omega.{arith}
use mathlib.Core.Path.{◌≡◌, refl, sym, ◌∙◌}
use Rattle.bank_spec.specs.Registers.{bank, bank_at, half, value_of, half_at}
use Rattle.bank_spec.specs.declared.Banks.{Banks}

-- "L" and "H" of its names: the halves of a 32-bit value
abbrev low : ℕ → ℕ
low v = v % 65536

abbrev high : ℕ → ℕ
high v = v / 65536

-- Places 0 to 7 are the compare values of banks 0 to 3, each the low half first: "0000b Bank Address 0 Low (BKAD0L)" to "0111b Bank Address
-- 3 High (BKAD3H)", the second of them printed 0000b too.
pub addresses_first : (b : Banks) →
    (half_at b 0 ≡ low b.bank0.compare) × (half_at b 1 ≡ high b.bank0.compare) ×
    (half_at b 2 ≡ low b.bank1.compare) × (half_at b 3 ≡ high b.bank1.compare) ×
    (half_at b 4 ≡ low b.bank2.compare) × (half_at b 5 ≡ high b.bank2.compare) ×
    (half_at b 6 ≡ low b.bank3.compare) × (half_at b 7 ≡ high b.bank3.compare)
unfolding half_at half value_of bank_at
addresses_first b = (refl, refl, refl, refl, refl, refl, refl, refl)

-- Places 8 to 15 are the masks of banks 0 to 3, each the low half first: "1000b Bank Select Mask 0 Low (BKMSK0L)" to "1111b Bank Select
-- Mask 3 High (BKMSK3H)".
pub then_masks : (b : Banks) →
    (half_at b 8 ≡ low b.bank0.mask) × (half_at b 9 ≡ high b.bank0.mask) ×
    (half_at b 10 ≡ low b.bank1.mask) × (half_at b 11 ≡ high b.bank1.mask) ×
    (half_at b 12 ≡ low b.bank2.mask) × (half_at b 13 ≡ high b.bank2.mask) ×
    (half_at b 14 ≡ low b.bank3.mask) × (half_at b 15 ≡ high b.bank3.mask)
unfolding half_at half value_of bank_at
then_masks b = (refl, refl, refl, refl, refl, refl, refl, refl)

-- Each compare value and each mask is what two places hold, the high half above the low one.
pub in_halves : (b : Banks) →
    (b.bank0.compare ≡ half_at b 1 * 65536 + half_at b 0) × (b.bank0.mask ≡ half_at b 9 * 65536 + half_at b 8) ×
    (b.bank1.compare ≡ half_at b 3 * 65536 + half_at b 2) × (b.bank1.mask ≡ half_at b 11 * 65536 + half_at b 10) ×
    (b.bank2.compare ≡ half_at b 5 * 65536 + half_at b 4) × (b.bank2.mask ≡ half_at b 13 * 65536 + half_at b 12) ×
    (b.bank3.compare ≡ half_at b 7 * 65536 + half_at b 6) × (b.bank3.mask ≡ half_at b 15 * 65536 + half_at b 14)
in_halves b =
    let c = addresses_first b in
    let m = then_masks b in (
      join c.0 c.1,
      join m.0 m.1,
      join c.2 c.3,
      join m.2 m.3,
      join c.4 c.5,
      join m.4 m.5,
      join c.6 c.7,
      join m.6 m.7,
    )
  where
    join : {v l h : ℕ} → l ≡ low v → h ≡ high v → v ≡ h * 65536 + l
    join e f = omega (arith, e, f)

-- Registers that hold the same at each place are the same.
pub told_by_places : (b b' : Banks) → ((i : ℕ) → i < 16 → half_at b i ≡ half_at b' i) → b ≡ b'
told_by_places b b' e =
    let v = in_halves b in
    let w = in_halves b' in
    λ j. record {
      bank0 = bank ((v.0 ∙ two 0 (omega arith) ∙ sym w.0) j) ((v.1 ∙ two 8 (omega arith) ∙ sym w.1) j);
      bank1 = bank ((v.2 ∙ two 2 (omega arith) ∙ sym w.2) j) ((v.3 ∙ two 10 (omega arith) ∙ sym w.3) j);
      bank2 = bank ((v.4 ∙ two 4 (omega arith) ∙ sym w.4) j) ((v.5 ∙ two 12 (omega arith) ∙ sym w.5) j);
      bank3 = bank ((v.6 ∙ two 6 (omega arith) ∙ sym w.6) j) ((v.7 ∙ two 14 (omega arith) ∙ sym w.7) j);
    }
  where
    two : (i : ℕ) → suc i < 16 → half_at b (suc i) * 65536 + half_at b i ≡ half_at b' (suc i) * 65536 + half_at b' i
    two i h j = e (suc i) h j * 65536 + e i (omega (arith, h)) j
