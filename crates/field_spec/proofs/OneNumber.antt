-- The other reading: the whole memory as one number, its first word lowest. The field of n bits at bit address a is that number
-- without its a low bits, modulo 2^n. By induction on the memory, a word at a time.
use Prim.Native.Nat.{ℕ, suc, ◌+◌, ◌-◌, ◌*◌, ◌/◌, ◌%◌, ◌^◌}
use native.Mathlib.Omega.{arith}
use mathlib.Core.Path.{◌≡◌, sym, ap, subst, ◌∙◌}
use mathlib.Core.Bool.{false}
use mathlib.Core.List.{List, [], ◌∷◌}
use mathlib.Core.Logic.{⊎_elim}
use lib.Pow.{high, low}
use Rattle.words.specs.Addresses.{address}
use Rattle.words.specs.Bytes.{bit}
use Rattle.words.specs.Memory.{AreWords}
use Rattle.words.specs.declared.BitAddress.{BitAddress}
use Rattle.std.proofs.lemmas.Bool.{cases_lt}
use Rattle.words.proofs.Bits.{bit_above, bit_of_quotient, bit_of_remainder}
use Rattle.field_spec.specs.Field.{memory_bit, field_at}
use Rattle.field_spec.specs.InPlainWords.{number_of}
use Rattle.field_spec.proofs.Readings.{bit_in, field_from_bits}

no_bit : (i : ℕ) → bit 0 i ≡ false
no_bit i = bit_above 0 {w = 0} {i = i} (omega arith) (omega arith)

-- Bit b of the memory as one number is memory bit b.
pub number_bit : (m : List ℕ) (b : ℕ) → AreWords m → bit (number_of m) b ≡ memory_bit m (address b)
unfolding number_of memory_bit
number_bit [] b h = no_bit b ∙ sym (no_bit (b % 16))
number_bit (w ∷ m) b h =
    let x : ℕ = number_of m * 2 ^ 16 + w in
    ⊎_elim
    (λ l. sym (bit_of_remainder x 16 b l)
    ∙ ap (λ (y : ℕ). bit y b) (low (number_of m) 16 (h 0))
    ∙ sym (bit_in (w ∷ m) (address b) 0 b (omega arith) l))
    (λ l. let c : ℕ = b - 16 in
    let e : 16 + c ≡ b = omega (arith, l) in
    subst (λ (k : ℕ). bit x k ≡ memory_bit (w ∷ m) (address b)) e
    (sym (bit_of_quotient x 16 c)
    ∙ ap (λ (y : ℕ). bit y c) (high (number_of m) 16 (h 0))
    ∙ number_bit m c (λ i. h (suc i))
    ∙ sym (bit_in (w ∷ m) (address b) (suc (c / 16)) (c % 16) (omega (arith, l)) (omega arith))))
    (cases_lt b 16)

-- With memory as one number, first word lowest, the field is that number without its a low bits, modulo 2^n.
pub field_of_number : (m : List ℕ) (a : BitAddress) (n : ℕ) → AreWords m → field_at m a n ≡ number_of m / 2 ^ a.0 % 2 ^ n
field_of_number m a n h =
    field_from_bits m a n (number_of m / 2 ^ a.0)
    (λ i l. sym (number_bit m (a.0 + i) h) ∙ sym (bit_of_quotient (number_of m) a.0 i))
