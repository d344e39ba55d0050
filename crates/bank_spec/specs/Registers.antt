-- The registers behind BKPORT, and the sixteen places at which it reaches them: source document 001, 'BKPORT', 'BKAD', 'BKMSK' and the
-- table of BPNT in 'BKCTL'.
--   bank v m               the bank with compare value v and mask m
--   bank_at b n            bank n
--   with_bank b n k        bank n made k, and the others as in b
--   half high v            the high or the low half of a 32-bit value
--   with_half high v w     the value v with that half made w
--   bank_of i              which bank place i belongs to
--   is_mask i, is_high i   whether a half of its mask is there, else of its compare value; whether the high half is, else the low one
--   value_of mask k        the mask or the compare value of the bank k
--   with_value mask k v    the bank k with that value made v
--   half_at b i            what is at place i
--   with_half_at b i w     the registers with that made w
use Rattle.std.specs.Prelude.{ℕ, ◌+◌, ◌*◌, ◌/◌, ◌%◌, Bool, cond, eqb, ltb}
use Rattle.bank_spec.specs.declared.Bank.{Bank}
use Rattle.bank_spec.specs.declared.Banks.{Banks}

-- ---- the four banks

abbrev pub bank : ℕ → ℕ → Bank
bank v m = record { compare = v; mask = m }

unfoldable pub bank_at : Banks → ℕ → Bank
bank_at b n = cond (eqb n 0) b.bank0 (cond (eqb n 1) b.bank1 (cond (eqb n 2) b.bank2 b.bank3))

unfoldable pub with_bank : Banks → ℕ → Bank → Banks
with_bank b n k =
    record {
      bank0 = cond (eqb n 0) k b.bank0;
      bank1 = cond (eqb n 1) k b.bank1;
      bank2 = cond (eqb n 2) k b.bank2;
      bank3 = cond (eqb n 3) k b.bank3;
    }

-- ---- halves

-- "Each set of 16-bit BKADxL and 16-bit BKADxH values is treated as a 32-bit BKADx value", and likewise of BKMSKx
unfoldable pub half : Bool → ℕ → ℕ
half high v = cond high (v / 65536) (v % 65536)

unfoldable pub with_half : Bool → ℕ → ℕ → ℕ
with_half high v w = cond high (w * 65536 + v % 65536) (v / 65536 * 65536 + w)

-- ---- the sixteen places

-- "0000b Bank Address 0 Low", "0001b Bank Address 0 High" (printed 0000b again), "0010b Bank Address 1 Low", .. "0111b Bank Address 3
-- High", "1000b Bank Select Mask 0 Low", .. "1111b Bank Select Mask 3 High"
abbrev pub bank_of : ℕ → ℕ
bank_of i = i / 2 % 4

abbrev pub is_mask : ℕ → Bool
is_mask i = ltb 7 i

abbrev pub is_high : ℕ → Bool
is_high i = eqb (i % 2) 1

unfoldable pub value_of : Bool → Bank → ℕ
value_of mask k = cond mask k.mask k.compare

unfoldable pub with_value : Bool → Bank → ℕ → Bank
with_value mask k v = cond mask (bank k.compare v) (bank v k.mask)

unfoldable pub half_at : Banks → ℕ → ℕ
half_at b i = half (is_high i) (value_of (is_mask i) (bank_at b (bank_of i)))

unfoldable pub with_half_at : Banks → ℕ → ℕ → Banks
with_half_at b i w =
    let k : Bank = bank_at b (bank_of i) in
    with_bank b (bank_of i) (with_value (is_mask i) k (with_half (is_high i) (value_of (is_mask i) k) w))
