-- What the signed reading says: the field itself if its top bit is clear, and less 2^n if it is set.
-- The top bit of a field of n bits is set exactly if the field is 2^(n - 1) or more.
use Prim.Native.Nat.{ℕ, zero, suc, ◌+◌, ◌-◌, ◌*◌, ◌%◌, ◌^◌, ◌≤◌, ◌<◌}
use native.Mathlib.Nat.{mod-lt, mod-eq_of_lt, suc-mul, pow-succ'}
use native.Mathlib.Omega.{arith}
use mathlib.Core.Path.{◌≡◌, refl, sym, ap, subst, ◌∙◌}
use mathlib.Core.Bool.{Bool, true, false, cond}
use lib.IntN.{pos, negsuc, ◌-ℤ◌}
use lib.Pow.{pow_pos, pow-add, suc_ones, low}
use mathlib.Core.Logic.{⊎_elim}
use borrow.Author.Tests.{lt-ltb}
use Rattle.words.specs.Bytes.{bit}
use Rattle.std.proofs.lemmas.Bool.{cases_lt}
use Rattle.words.proofs.Bits.{bit_above, one_bit_more}
use Rattle.field_spec.specs.Field.{signed}
use Rattle.field_spec.specs.InPlainWords.{InRange, at_least_zero, below_zero, same_bits}

-- ---- the top bit

-- Bit n - 1 of a number below 2^(n - 1) is clear.
pub top_clear : (n x : ℕ) → x < 2 ^ (n - 1) → bit x (n - 1) ≡ false
top_clear n x h = bit_above (n - 1) h (omega arith)

-- 2^n is twice the top bit's weight.
pub twice : (n : ℕ) → 1 ≤ n → 2 ^ n ≡ 2 * 2 ^ (n - 1)
twice n s =
    let e : n ≡ suc (n - 1) = omega arith in
    ap (λ (k : ℕ). 2 ^ k) e ∙ pow-succ' 2 (n - 1)

is_set : (b : Bool) (p x r : ℕ) → x ≡ cond b p 0 + r → r < p → p ≤ x → b ≡ true
is_set true p x r e l h = refl
is_set false p x r e l h = absurd (omega arith)

-- Bit n - 1 of a number of n bits that is 2^(n - 1) or more is set.
pub top_set : (n x : ℕ) → 1 ≤ n → x < 2 ^ n → 2 ^ (n - 1) ≤ x → bit x (n - 1) ≡ true
top_set n x s l h =
    let k : ℕ = n - 1 in
    let whole : x % 2 ^ (k + 1) ≡ x = mod-eq_of_lt (subst (λ (j : ℕ). x < 2 ^ j) (omega arith) l) in
    is_set (bit x k) (2 ^ k) x (x % 2 ^ k) (subst (λ (y : ℕ). y ≡ cond (bit x k) (2 ^ k) 0 + x % 2 ^ k) whole (one_bit_more x k))
    (mod-lt x (pow_pos k)) h

-- ---- the reading

-- A number less a larger one (`negsuc k` is -1 - k).
less_larger : (x k : ℕ) → x < k → pos x -ℤ pos k ≡ negsuc (k - suc x)
less_larger x zero h = absurd (omega arith)
less_larger x (suc k) h = rw (lt-ltb x (suc k) h)

-- Below 2^(n - 1) the signed reading of a field is the field.
pub reads_low : (n x : ℕ) → x < 2 ^ (n - 1) → signed n x ≡ pos x
unfolding signed
reads_low n x h = rw (top_clear n x h)

-- From 2^(n - 1) on the signed reading of a field is the field less 2^n.
pub reads_high : (n x : ℕ) → 1 ≤ n → x < 2 ^ n → 2 ^ (n - 1) ≤ x → signed n x ≡ negsuc (2 ^ n - suc x)
unfolding signed
reads_high n x s l h = rw (top_set n x s l h) (less_larger x (2 ^ n) l)

-- ---- its range

-- The signed reading of a field of n bits is one of -2^(n - 1) to 2^(n - 1) - 1.
pub in_range : (n x : ℕ) → 1 ≤ n → x < 2 ^ n → InRange n (signed n x)
in_range n x s l =
    ⊎_elim
    (λ h. rw (reads_low n x h) (at_least_zero h))
    (λ h. rw (reads_high n x s l h) (below_zero {k = 2 ^ n - suc x} (omega (arith, twice n s, h, l))))
    (cases_lt x (2 ^ (n - 1)))

-- ---- back again

lacking : (q p x : ℕ) → x < p → q * p + p - suc (p - suc x) ≡ q * p + x
lacking q p x h = omega arith

-- The signed reading as 32 bits: the n low bits are the field.
pub same_low_bits : (n x : ℕ) → 1 ≤ n → n ≤ 32 → x < 2 ^ n → same_bits (signed n x) % 2 ^ n ≡ x
same_low_bits n x s m l =
    ⊎_elim
    (λ h. rw (reads_low n x h) (mod-eq_of_lt l))
    (λ h.
    let q : ℕ = 2 ^ (32 - n) - 1 in
    let w : 32 ≡ 32 - n + n = omega (arith, m) in
    let e : 2 ^ 32 ≡ q * 2 ^ n + 2 ^ n =
    ap (λ (k : ℕ). 2 ^ k) w ∙ pow-add 2 (32 - n) n
    ∙ ap (λ (k : ℕ). k * 2 ^ n) (sym (suc_ones (32 - n))) ∙ suc-mul q (2 ^ n)
    in rw (reads_high n x s l h, e, lacking q (2 ^ n) x l) (low q n l))
    (cases_lt x (2 ^ (n - 1)))
