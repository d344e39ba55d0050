-- What `with_bit` says: bit i of the word is the new one, every other bit stays, and a number of k bits stays one.
-- It is `with_bits` for a single bit, so its laws are read off there.
use Prim.Native.Nat.{ℕ, ◌+◌, ◌-◌, ◌/◌, ◌%◌, ◌^◌, ◌≤◌, ◌<◌}
use native.Mathlib.Nat.{zero-add, one-mul, zero-mul, mod-lt, mod-eq_of_lt}
use native.Mathlib.Omega.{arith}
use mathlib.Core.Path.{◌≡◌, sym, ap, subst, ◌∙◌}
use mathlib.Core.Bool.{Bool, true, false, cond}
use mathlib.Core.Logic.{⊎_elim, ◌≢◌}
use lib.Pow.{pow_pos, high, low}
use Rattle.words.specs.Bytes.{bit}
use Rattle.words.proofs.Bits.{bit_above, split_at_bit, bit_of_quotient, bit_of_remainder}
use Rattle.std.proofs.lemmas.Bool.{cases_lt}
use Rattle.field_spec.specs.Field.{with_bit}
use Rattle.field_spec.specs.WithBits.{with_bits}
use Rattle.field_spec.proofs.WordBits.{bits_above, bits_below, bits_fit}

-- ---- a bit above a number of i bits

module _ (i r : ℕ) (h : r < 2 ^ i) where
  -- A bit laid above a number of i bits is bit i of both together.
  pub top_is : (v : Bool) → bit (cond v (2 ^ i) 0 + r) i ≡ v
  unfolding bit
  top_is true = let e : (2 ^ i + r) / 2 ^ i ≡ 1 = subst (λ (x : ℕ). (x + r) / 2 ^ i ≡ 1) (one-mul (2 ^ i)) (high 1 i h) in rw e
  top_is false = rw (zero-add r) (bit_above i h (omega arith))

  -- Where a bit is laid above a number of i bits, below bit i lies that number.
  pub rest_is : (v : Bool) → (cond v (2 ^ i) 0 + r) % 2 ^ i ≡ r
  rest_is true = subst (λ (x : ℕ). (x + r) % 2 ^ i ≡ r) (one-mul (2 ^ i)) (low 1 i h)
  rest_is false = rw (zero-add r) (mod-eq_of_lt h)

-- ---- the word with a bit made v

module _ (w i : ℕ) where
  as_bits : (v : Bool) → with_bit w i v ≡ with_bits w i 1 (cond v 1 0)
  unfolding with_bit with_bits
  as_bits true = rw (one-mul (2 ^ i))
  as_bits false = rw (zero-mul (2 ^ i))

  one_bit : (v : Bool) → cond v 1 0 < 2 ^ 1
  one_bit true = omega arith
  one_bit false = omega arith

  above : (v : Bool) → with_bit w i v / 2 ^ (i + 1) ≡ w / 2 ^ (i + 1)
  above v = rw (as_bits v) (bits_above w i 1 (cond v 1 0) (one_bit v))

  upto : (v : Bool) → with_bit w i v % 2 ^ (i + 1) ≡ cond v (2 ^ i) 0 + w % 2 ^ i
  upto true = rw (as_bits true, bits_below w i 1 1 (one_bit true), one-mul (2 ^ i))
  upto false = rw (as_bits false, bits_below w i 1 0 (one_bit false), zero-mul (2 ^ i))

  -- Where bit i of a number is replaced, bit i is the new one.
  pub bit_made : (v : Bool) → bit (with_bit w i v) i ≡ v
  bit_made v =
      sym (bit_of_remainder (with_bit w i v) (i + 1) i (omega arith))
      ∙ ap (λ (x : ℕ). bit x i) (upto v) ∙ top_is i (w % 2 ^ i) (mod-lt w (pow_pos i)) v

  lower_bit : (v : Bool) (j : ℕ) → j < i → bit (with_bit w i v) j ≡ bit w j
  lower_bit v j l =
      sym (bit_of_remainder (with_bit w i v) (i + 1) j (omega arith))
      ∙ ap (λ (x : ℕ). bit x j) (upto v)
      ∙ sym (bit_of_remainder (cond v (2 ^ i) 0 + w % 2 ^ i) i j l)
      ∙ ap (λ (x : ℕ). bit x j) (rest_is i (w % 2 ^ i) (mod-lt w (pow_pos i)) v)
      ∙ bit_of_remainder w i j l

  upper_bit : (v : Bool) (j : ℕ) → i + 1 ≤ j → bit (with_bit w i v) j ≡ bit w j
  upper_bit v j l =
      let e : j ≡ i + 1 + (j - (i + 1)) = omega arith in
      rw e (sym (bit_of_quotient (with_bit w i v) (i + 1) (j - (i + 1)))
      ∙ ap (λ (x : ℕ). bit x (j - (i + 1))) (above v)
      ∙ bit_of_quotient w (i + 1) (j - (i + 1)))

  -- Where bit i of a number is replaced, every other bit stays.
  pub bit_kept : (v : Bool) (j : ℕ) → j ≢ i → bit (with_bit w i v) j ≡ bit w j
  bit_kept v j n = ⊎_elim (lower_bit v j) (λ l. upper_bit v j (omega (arith, l, n))) (cases_lt j i)

  -- A bit made what it is changes nothing.
  pub bit_as_it_is : with_bit w i (bit w i) ≡ w
  unfolding with_bit
  bit_as_it_is = sym (split_at_bit w i)

  -- A number of k bits, one of which is replaced, stays one of k bits.
  pub bit_fits : (k : ℕ) (v : Bool) → w < 2 ^ k → i < k → with_bit w i v < 2 ^ k
  bit_fits k v h l = rw (as_bits v) (bits_fit w i 1 (cond v 1 0) (one_bit v) k h (omega arith))
