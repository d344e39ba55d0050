-- What `bit` says: bit i of a number is its binary digit of weight 2^i.
-- The number is split at bit i by `split`, once for i and once for the bit above it.
use Rattle.std.proofs.Common.{◌≡◌, ℕ, zero, suc, ◌+◌, ◌-◌, ◌*◌, ◌/◌, ◌%◌, ◌^◌, ◌<◌, ◌≤◌, false, cond, eqb, sym, ap, ◌∙◌, subst, lt_of_lt_of_le, mod-lt, add_comm, zero-mul, add-one, arith, pow_pos, pow_mono, pow-add, shr-shr}
use native.Mathlib.Nat.{div-eq_of_lt, mod-one}
use lib.Pow.{split, field, mod-mod-pow}
use Rattle.words.specs.Bytes.{lo, hi, bit}

-- A number below 2^k has no bit k, nor any above it.
pub bit_above : (k : ℕ) {w i : ℕ} → w < 2 ^ k → k ≤ i → bit w i ≡ false
unfolding bit
bit_above k {w} {i} h l = rw (div-eq_of_lt (lt_of_lt_of_le h (pow_mono l)))

-- The lowest binary digit of q, at weight p.
weigh : (d p : ℕ) → d < 2 → d * p ≡ cond (eqb d 1) p 0
weigh zero p h = omega arith
weigh (suc zero) p h = omega arith
weigh (suc (suc d)) p h = absurd (omega arith)

halve : (k d p : ℕ) → (k * 2 + d) * p ≡ k * (p * 2) + d * p
halve k d p = omega arith

digit : (q p r : ℕ) → q * p + r ≡ q / 2 * (p * 2) + cond (eqb (q % 2) 1) p 0 + r
digit q p r =
    let e : q * p ≡ (q / 2 * 2 + q % 2) * p = ap (λ (x : ℕ). x * p) (omega arith) in
    ap (λ (x : ℕ). x + r) (e ∙ halve (q / 2) (q % 2) p ∙ ap (λ (x : ℕ). q / 2 * (p * 2) + x) (weigh (q % 2) p (omega arith)))

-- A number is what lies above bit i, its bit i at weight 2^i, and what lies below.
pub split_at_bit : (w i : ℕ) → w ≡ w / 2 ^ (i + 1) * 2 ^ (i + 1) + cond (bit w i) (2 ^ i) 0 + w % 2 ^ i
unfolding bit
split_at_bit w i =
    sym (split w i) ∙ digit (w / 2 ^ i) (2 ^ i) (w % 2 ^ i) ∙ rw (shr-shr w i 1, pow-add 2 i 1)

-- The bits of a number from k up are those of its quotient by 2^k.
pub bit_of_quotient : (w k i : ℕ) → bit (w / 2 ^ k) i ≡ bit w (k + i)
unfolding bit
bit_of_quotient w k i = rw (shr-shr w k i)

remainder_by : (w j i : ℕ) → bit (w % 2 ^ (j + 1 + i)) i ≡ bit w i
unfolding bit
remainder_by w j i = rw (field w (j + 1) i, mod-mod-pow (w / 2 ^ i) j 1)

-- The bits of a number below k are those of its remainder by 2^k.
pub bit_of_remainder : (w k i : ℕ) → i < k → bit (w % 2 ^ k) i ≡ bit w i
bit_of_remainder w k i h =
    subst (λ (n : ℕ). bit (w % 2 ^ n) i ≡ bit w i) (omega arith) (remainder_by w (k - suc i) i)

-- The n + 1 low bits of a number are its bit n, at weight 2^n, and its n low bits.
pub one_bit_more : (x n : ℕ) → x % 2 ^ (n + 1) ≡ cond (bit x n) (2 ^ n) 0 + x % 2 ^ n
one_bit_more x n =
    let y : ℕ = x % 2 ^ (n + 1) in
    let none : y / 2 ^ (n + 1) ≡ 0 = div-eq_of_lt (mod-lt x (pow_pos (n + 1))) in
    let low_bits : y % 2 ^ n ≡ x % 2 ^ n = ap (λ (k : ℕ). x % 2 ^ k % 2 ^ n) (add_comm n 1) ∙ mod-mod-pow x 1 n in
    split_at_bit y n ∙ rw (none, bit_of_remainder x (n + 1) n (omega arith), low_bits, zero-mul (2 ^ (n + 1))) (omega arith)

-- Numbers with the same bits below k have the same remainder by 2^k.
pub same_bits : (k x y : ℕ) → ((i : ℕ) → i < k → bit x i ≡ bit y i) → x % 2 ^ k ≡ y % 2 ^ k
same_bits zero x y e = mod-one x ∙ sym (mod-one y)
same_bits (suc k) x y e =
    let lower : x % 2 ^ k ≡ y % 2 ^ k = same_bits k x y (λ i l. e i (omega arith)) in
    rw (← add-one k) (one_bit_more x k ∙ (λ j. cond (e k (omega arith) j) (2 ^ k) 0 + lower j) ∙ sym (one_bit_more y k))

-- The bits of a word's low byte are its lower eight.
pub bit_of_low : (w i : ℕ) → i < 8 → bit (lo w) i ≡ bit w i
bit_of_low w i h = bit_of_remainder w 8 i h

-- The bits of a word's high byte are its upper eight.
pub bit_of_high : (w i : ℕ) → i < 8 → bit (hi w) i ≡ bit w (8 + i)
bit_of_high w i h = bit_of_remainder (w / 256) 8 i h ∙ bit_of_quotient w 8 i
