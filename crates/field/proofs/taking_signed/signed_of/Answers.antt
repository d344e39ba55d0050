-- `field::taking_signed::signed_of` meets its contract: below half the field is its own reading, and from there on it lies as far
-- below -1 as it lies below all bits set.
use borrow.Author.Rules.{sfits_of}
use mir.Facts.{to_z_pos, to_z-of_z}
use mir.Syntax.{w32}
use mir.Val.{to_z}
use native.Mathlib.Nat.{zero-add}
use native.Mathlib.Omega.{arith}
use Prim.Native.Nat.{ℕ, zero, suc, ◌+◌, ◌-◌, ◌*◌, ◌%◌, ◌^◌, ◌≤◌, ◌<◌}
use mathlib.Core.Path.{◌≡◌, refl, sym, ap, ◌∙◌}
use lib.IntN.{pos, negsuc, ◌-ℤ◌}
use lib.Pow.{pow_pos, pow_mono}
use Rattle.std.proofs.lemmas.Nat.{one_shl}
use Rattle.field_spec.proofs.Signs.{twice, reads_low, reads_high}
use Rattle.field.proofs.taking_signed.signed_of.Goals as goal

-- Half of 2^size, as the code has it.
half_is : (n : ℕ) → n ≤ 32 → 1 * 2 ^ (n - 1) % 2 ^ 32 ≡ 2 ^ (n - 1)
half_is n l = one_shl (n - 1) 32 (omega arith)

-- It is 2^31 at most.
half : (n : ℕ) → n ≤ 32 → 2 ^ (n - 1) ≤ 2 ^ 31
half n l = pow_mono {j = 31} (omega arith)

low : (c : goal.Then-value-half) → c.args.value < 2 ^ 31
low c = omega (arith, half c.args.size (omega arith), (half_is c.args.size (omega arith)), c.if-value-half.true)

-- What the field lacks to all bits set, and that each step to it fits.
high : (c : goal.Else-value-half) →
    let x = c.args.value in
    let h = (1 * 2 ^ (c.args.size - 1) % 2 ^ 32) in
    (1 ≤ h) × (((h ≤ 2 ^ 31) × (x ≤ h - 1 + h))) × (h - 1 + h - x < 2 ^ 31)
    × (h - 1 + h - x ≡ 2 ^ c.args.size - suc x)
high c =
    let n = c.args.size in
    omega (arith, twice n (omega arith), half n (omega arith), (half_is c.args.size (omega arith)), pow_pos (n - 1), c.if-value-half.false)

one_less : (k : ℕ) → negsuc 0 -ℤ pos k ≡ negsuc k
one_less zero = refl
one_less (suc k) = ap (λ (x : ℕ). negsuc (suc x)) (zero-add k)

below : (c : goal.Else-value-half) →
    let y = (1 * 2 ^ (c.args.size - 1) % 2 ^ 32) - 1 + (1 * 2 ^ (c.args.size - 1) % 2 ^ 32) - c.args.value in
    negsuc 0 -ℤ to_z w32 y ≡ negsuc y
below c = ap (λ z. negsuc 0 -ℤ z) (to_z_pos w32 (high c).2) ∙ one_less _

pub overflow_cast-result : goal.overflow_cast-result
overflow_cast-result c = sfits_of (low c)

pub returns-then-value-half : goal.returns-then-value-half
returns-then-value-half c = to_z_pos w32 (low c) ∙ sym (reads_low _ _ (rw (half_is c.args.size (omega arith)) at c.if-value-half.true))

pub overflow_sub-below : goal.overflow_sub-below
overflow_sub-below c = omega (arith, (high c).0, (high c).1)

pub overflow_add-below : goal.overflow_add-below
overflow_add-below c = omega (arith, (high c).0, (high c).1)

pub overflow_sub-below-2 : goal.overflow_sub-below-2
overflow_sub-below-2 c = omega (arith, (high c).0, (high c).1)

pub overflow_cast-below : goal.overflow_cast-below
overflow_cast-below c = sfits_of (high c).2

pub overflow_sub-result : goal.overflow_sub-result
overflow_sub-result c = sfits_of (rw (below c) (high c).2)

pub returns : goal.returns
returns c =
    to_z-of_z (sfits_of {w = w32} (rw (below c) (high c).2)) ∙ below c ∙ ap negsuc (high c).3
    ∙ sym (reads_high _ _ c.requires.0 c.requires.1.1 (rw (half_is c.args.size (omega arith)) at c.if-value-half.false))
