-- Bits of one word replaced: `with_bits` replaces n bits at once, as the code does, and comes to `with_bit` done n times.
-- Everything follows from where its three terms stand: the upper is a multiple of 2^(o + n), the other two lie below that.
use Prim.Native.Nat.{ℕ, ◌+◌, ◌-◌, ◌*◌, ◌/◌, ◌%◌, ◌^◌, ◌≤◌, ◌<◌}
use native.Mathlib.Nat.{add_assoc, add-mul, mul_comm, zero-mul, mod-lt, add-zero}
use native.Mathlib.Omega.{arith}
use mathlib.Core.Path.{◌≡◌, sym, ap, subst, ◌∙◌}
use mathlib.Core.Bool.{Bool, true, false, cond}
use lib.Arith.{digits_lt}
use lib.Pow.{pow_pos, pow-add, split, high, low, shr-shr, shr_lt}
use Rattle.words.specs.Bytes.{bit}
use Rattle.words.proofs.Bits.{one_bit_more}
use Rattle.field_spec.specs.Field.{with_bit}
use Rattle.field_spec.specs.WithBits.{with_bits}

-- ---- weights

-- A bit of weight 2^n, moved up by d bits.
weight_up : (b : Bool) (n d : ℕ) → cond b (2 ^ n) 0 * 2 ^ d ≡ cond b (2 ^ (d + n)) 0
weight_up true n d = mul_comm (2 ^ n) (2 ^ d) ∙ sym (pow-add 2 d n)
weight_up false n d = zero-mul (2 ^ d)

-- ---- n bits replaced

module _ (w o n b : ℕ) (h : b < 2 ^ n) where
  -- The new bits and what lies below them stand below bit o + n.
  below_top : b * 2 ^ o + w % 2 ^ o < 2 ^ (o + n)
  below_top = rw (pow-add 2 o n, mul_comm (2 ^ o) (2 ^ n)) (digits_lt h (mod-lt w (pow_pos o)))

  as_two : with_bits w o n b ≡ w / 2 ^ (o + n) * 2 ^ (o + n) + (b * 2 ^ o + w % 2 ^ o)
  unfolding with_bits
  as_two = add_assoc _ _ _

  -- Where n bits of a number are replaced from bit o on, what lies above them stays.
  pub bits_above : with_bits w o n b / 2 ^ (o + n) ≡ w / 2 ^ (o + n)
  bits_above = rw as_two (high (w / 2 ^ (o + n)) (o + n) below_top)

  -- Where n bits of a number are replaced from bit o on, below bit o + n lie the new ones, and below these the o low bits, which stay.
  pub bits_below : with_bits w o n b % 2 ^ (o + n) ≡ b * 2 ^ o + w % 2 ^ o
  bits_below = rw as_two (low (w / 2 ^ (o + n)) (o + n) below_top)

  -- A number of n bits, laid from bit o on, fits in o + n bits.
  pub new_fit : b * 2 ^ o < 2 ^ (o + n)
  new_fit = omega (arith, below_top)

  -- A number of k bits, some of which are replaced, stays one of k bits.
  pub bits_fit : (k : ℕ) → w < 2 ^ k → o + n ≤ k → with_bits w o n b < 2 ^ k
  bits_fit k l m =
      let e : k ≡ k - (o + n) + (o + n) = omega arith in
      let q : w / 2 ^ (o + n) < 2 ^ (k - (o + n)) = shr_lt (k - (o + n)) (o + n) (subst (λ (j : ℕ). w < 2 ^ j) e l) in
      rw as_two (
      subst (λ (j : ℕ). w / 2 ^ (o + n) * 2 ^ (o + n) + (b * 2 ^ o + w % 2 ^ o) < j)
      (sym (pow-add 2 (k - (o + n)) (o + n)) ∙ ap (λ (j : ℕ). 2 ^ j) (sym e)) (digits_lt q below_top))

-- With no bits replaced the word stays.
pub no_bits : (w o : ℕ) → with_bits w o 0 0 ≡ w
unfolding with_bits
no_bits w o = rw (add-zero o) (omega (arith, split w o))

-- n bits of v replaced, and then one bit more, are n + 1 bits of v replaced.
pub next_bit : (w o n v : ℕ) → with_bit (with_bits w o n (v % 2 ^ n)) (o + n) (bit v n) ≡ with_bits w o (n + 1) (v % 2 ^ (n + 1))
unfolding with_bit
next_bit w o n v =
    let l : v % 2 ^ n < 2 ^ n = mod-lt v (pow_pos n) in
    let above : with_bits w o n (v % 2 ^ n) / 2 ^ (o + n + 1) ≡ w / 2 ^ (o + n + 1) =
    sym (shr-shr (with_bits w o n (v % 2 ^ n)) (o + n) 1)
    ∙ ap (λ (y : ℕ). y / 2 ^ 1) (bits_above w o n (v % 2 ^ n) l) ∙ shr-shr w (o + n) 1
    in let middle : v % 2 ^ (n + 1) * 2 ^ o ≡ cond (bit v n) (2 ^ (o + n)) 0 + v % 2 ^ n * 2 ^ o =
    ap (λ (y : ℕ). y * 2 ^ o) (one_bit_more v n) ∙ add-mul _ _ _
    ∙ ap (λ (y : ℕ). y + v % 2 ^ n * 2 ^ o) (weight_up (bit v n) n o)
    in rw (
      above,
      bits_below w o n (v % 2 ^ n) l,
      as_two w o (n + 1) (v % 2 ^ (n + 1)) (mod-lt v (pow_pos (n + 1))),
      middle,
      add_assoc o n 1,
    )
    (omega arith)
