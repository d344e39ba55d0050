-- Bits as binary digits: one, two side by side, and those that a mask leaves.
use Rattle.std.proofs.Common.{◌≡◌, ℕ, zero, suc, ◌+◌, ◌*◌, ◌/◌, ◌%◌, ◌^◌, ◌<◌, true, false, ◌&&◌, eqb, ◌↔◌, sym, refl, ap, ◌∙◌, ⊎_elim, arith, shr-shr, eq-eqb, ne_eqb, eqb-true}
use lib.Bits.{bit_and, and_shr, and_mod}
use borrow.Author.Tests.{eqb-false}
use Rattle.words.specs.Bytes.{bit}
use Rattle.std.proofs.lemmas.Bool.{cases_Bool}

-- A bit is set exactly if its binary digit is 1.
pub is_set : (v i : ℕ) → bit v i ≡ true ↔ v / 2 ^ i % 2 ≡ 1
unfolding bit
is_set v i = (eqb-true _ 1, eq-eqb _ 1)

-- A bit is clear exactly if its binary digit is 0.
pub is_clear : (v i : ℕ) → bit v i ≡ false ↔ v / 2 ^ i % 2 ≡ 0
unfolding bit
is_clear v i = (λ e. omega (arith, eqb-false (v / 2 ^ i % 2) 1 e), λ e. ne_eqb (v / 2 ^ i % 2) 1 (omega (arith, e)))

-- Two bits are the same exactly if their digits are.
pub same_digit : (v i w j : ℕ) → bit v i ≡ bit w j ↔ v / 2 ^ i % 2 ≡ w / 2 ^ j % 2
unfolding bit
same_digit v i w j = (
  λ e. ⊎_elim
      (λ s. (is_set v i).0 s ∙ sym ((is_set w j).0 (sym e ∙ s)))
      (λ s. (is_clear v i).0 s ∙ sym ((is_clear w j).0 (sym e ∙ s)))
      (cases_Bool (bit v i)),
  λ e. ap (λ (d : ℕ). eqb d 1) e,
)

-- Two bits side by side make a number of two digits.
pub two_digits : (v i : ℕ) → v / 2 ^ i % 4 ≡ v / 2 ^ (i + 1) % 2 * 2 + v / 2 ^ i % 2
two_digits v i = rw (← shr-shr v i 1) (omega arith)

-- A number below 4 whose two bits are bits i and i + 1 of another is what these two make.
pub made_of_two : (n v i : ℕ) → n < 4 → bit n 0 ≡ bit v i → bit n 1 ≡ bit v (i + 1) → n ≡ v / 2 ^ i % 4
made_of_two n v i h e f =
    let whole : n ≡ n / 2 ^ 0 % 4 = omega (arith, h) in
    whole ∙ two_digits n 0 ∙ (λ j. (same_digit n 1 v (i + 1)).0 f j * 2 + (same_digit n 0 v i).0 e j) ∙ sym (two_digits v i)

-- A mask leaves the bits that it has.
pub bit_left : (v m i : ℕ) → bit (bit_and v m) i ≡ (bit v i && bit m i)
unfolding bit
bit_left v m i =
    let one : (bit_and v m / 2 ^ i) % 2 ≡ bit_and (v / 2 ^ i % 2) (m / 2 ^ i % 2) =
    ap (λ (x : ℕ). x % 2) (and_shr v m i) ∙ and_mod (v / 2 ^ i) (m / 2 ^ i) 1 in
    ap (λ (x : ℕ). eqb x 1) one ∙ digit (v / 2 ^ i % 2) (m / 2 ^ i % 2) (omega arith) (omega arith)
  where
    digit : (x y : ℕ) → x < 2 → y < 2 → eqb (bit_and x y) 1 ≡ (eqb x 1 && eqb y 1)
    digit zero y h l = refl
    digit (suc zero) zero h l = refl
    digit (suc zero) (suc zero) h l = refl
    digit (suc zero) (suc (suc y)) h l = absurd (omega arith)
    digit (suc (suc x)) y h l = absurd (omega arith)
