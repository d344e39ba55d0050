-- Products, sums and quotients of floats that are finite and not negative, zero included, in either format: each is the exact
-- fraction, rounded once. Their order is that of the fractions, so a sum doesn't fall as a term grows.
use Prim.Native.Nat.{ℕ, zero, suc, ◌+◌, ◌*◌, ◌≤◌, ◌<◌}
use native.Mathlib.Nat.{le_of_eq, le_of_lt, lt_irrefl, mul-le-mul_right, le_of_mul-le-mul_right, mul-pos}
use native.Mathlib.Omega.{arith}
use mathlib.Core.Path.{◌≡◌, refl, sym, ap, ◌∙◌, subst}
use mathlib.Core.Bool.{Bool, true, false, ◌&&◌, ◌||◌, cond, true≢false}
use lib.IntN.{ℤ}
use lib.Dec.{T, ltb, eqb, eqb→eq, ltb→lt, eqb-suc-zero}
use lib.Ieee.{Float, nan, inf, fin, Format, up, down, round, sum, add, mul, div, le}
use lib.Ieee.Order.{transfer, round_mono}
use lib.Ieee.Positive.{num, den, den_pos, value→cross, first_pos}
use lib.Ieee.Scale.{round_same, finite}
use Rattle.tempo_spec.specs.InPlainWords.{Fraction}

-- ---- which floats are fractions

data Plain : Float → Type 0 where
  plain : (m : ℕ) (e : ℤ) → Plain (fin false m e)

is_plain : (x : Float) (a c : ℕ) → Fraction x a c → Plain x
is_plain nan a c p = absurd p
is_plain (inf s) a c p = absurd p
is_plain (fin true m e) a c p = absurd (true≢false p.0)
is_plain (fin false m e) a c p = plain m e

-- ---- the operations on them

module _ (f : Format) where
  mul_own : (x y : Float) → Plain x → Plain y → mul f x y ≡ round f false (num x * num y) (den x * den y)
  unfolding mul
  mul_own x y (plain m e) (plain n d) = refl

  add_own : (x y : Float) → Plain x → Plain y → add f x y ≡ round f false (num x * den y + num y * den x) (den x * den y)
  unfolding add sum
  add_own x y (plain m e) (plain n d) = refl

  not_zero : (n : ℕ) (x y : Float) → 0 < n → cond (eqb n 0) x y ≡ y
  not_zero zero x y h = absurd (lt_irrefl 0 h)
  not_zero (suc n) x y h = ap (λ (t : Bool). cond t x y) (eqb-suc-zero n)

  div_own : (x y : Float) → Plain x → Plain y → 0 < num y → div f x y ≡ round f false (num x * den y) (num y * den x)
  unfolding div
  div_own x y (plain m e) (plain n d) h =
      not_zero n (cond (eqb m 0) nan (inf false)) (round f false (m * up e * down d) (n * up d * down e)) (first_pos n (up d) h)

  -- x is a / c, and y is b / d
  module _ (x y : Float) (a c b d : ℕ) (c_above : 0 < c) (d_above : 0 < d) (p : Fraction x a c) (q : Fraction y b d) where
    bottoms : 0 < den x * den y
    bottoms = mul-pos (den_pos x) (den_pos y)

    x_cross : num x * c ≡ a * den x
    x_cross = value→cross x a c p

    y_cross : num y * d ≡ b * den y
    y_cross = value→cross y b d q

    -- A product is that of the two fractions, rounded once.
    pub mul_rounded : mul f x y ≡ round f false (a * b) (c * d)
    mul_rounded =
        mul_own x y (is_plain x a c p) (is_plain y b d q)
        ∙ round_same f false (num x * num y) (den x * den y) (a * b) (c * d) bottoms (mul-pos c_above d_above)
        (products (num x) (den x) a c (num y) (den y) b d x_cross y_cross)
      where
        products : (n e a c m g b d : ℕ) → n * c ≡ a * e → m * d ≡ b * g → n * m * (c * d) ≡ a * b * (e * g)
        products n e a c m g b d s t =
            let u = ap (λ (z : ℕ). z * (m * d)) s in
            let v = ap (λ (z : ℕ). a * e * z) t in
            omega (arith, u, v)

    -- A sum is that of the two fractions, rounded once.
    pub add_rounded : add f x y ≡ round f false (a * d + b * c) (c * d)
    add_rounded =
        add_own x y (is_plain x a c p) (is_plain y b d q)
        ∙ round_same f false (num x * den y + num y * den x) (den x * den y) (a * d + b * c) (c * d) bottoms (mul-pos c_above d_above)
        (sums (num x) (den x) a c (num y) (den y) b d x_cross y_cross)
      where
        sums : (n e a c m g b d : ℕ) → n * c ≡ a * e → m * d ≡ b * g → (n * g + m * e) * (c * d) ≡ (a * d + b * c) * (e * g)
        sums n e a c m g b d s t =
            let u = ap (λ (z : ℕ). z * (g * d)) s in
            let v = ap (λ (z : ℕ). z * (e * c)) t in
            omega (arith, u, v)

    -- A quotient by what is above 0 is that of the two fractions, rounded once.
    pub div_rounded : 0 < b → div f x y ≡ round f false (a * d) (b * c)
    div_rounded b_above =
        let top : 0 < num y = first_pos (num y) d (subst (λ (z : ℕ). 0 < z) (sym y_cross) (mul-pos b_above (den_pos y))) in
        div_own x y (is_plain x a c p) (is_plain y b d q) top
        ∙ round_same f false (num x * den y) (num y * den x) (a * d) (b * c) (mul-pos top (den_pos x)) (mul-pos b_above c_above)
        (quotients (num x) (den x) a c (num y) (den y) b d x_cross y_cross)
      where
        quotients : (n e a c m g b d : ℕ) → n * c ≡ a * e → m * d ≡ b * g → n * g * (b * c) ≡ a * d * (m * e)
        quotients n e a c m g b d s t =
            let u = ap (λ (z : ℕ). z * (b * g)) s in
            let v = ap (λ (z : ℕ). a * e * z) t in
            omega (arith, u, v)

-- ---- their order

either_test : (a b : ℕ) → T (ltb a b || (eqb a b && true)) → a ≤ b
either_test a b t = go (ltb a b) (eqb a b) (λ h. le_of_lt (ltb→lt a b h)) (λ h. le_of_eq (eqb→eq a b h)) t
  where
    go : (less same : Bool) → (T less → a ≤ b) → (T same → a ≤ b) → T (less || (same && true)) → a ≤ b
    go true same l s t = l tt
    go false true l s t = s tt
    go false false l s t = absurd t

le_own : (x y : Float) → Plain x → Plain y → T (le x y) → num x * den y ≤ num y * den x
unfolding le
le_own x y (plain m e) (plain n d) h = either_test (m * up e * down d) (n * up d * down e) h

-- Of two fractions in order, a / c and b / d, the cross products are in that order.
pub cross_of_le : (x y : Float) (a c b d : ℕ) → Fraction x a c → Fraction y b d → T (le x y) → a * d ≤ b * c
cross_of_le x y a c b d p q h =
    transfer a b c d (num x) (num y) (den x) (den y) (den_pos x) (den_pos y) (sym (value→cross x a c p)) (sym (value→cross y b d q))
    (le_own x y (is_plain x a c p) (is_plain y b d q) h)

between_plain : (x y z : Float) → Plain x → Plain z → T (le x y) → T (le y z) → T (finite y)
unfolding le
between_plain x nan z (plain m e) (plain n d) h k = absurd h
between_plain x (inf true) z (plain m e) (plain n d) h k = absurd h
between_plain x (inf false) z (plain m e) (plain n d) h k = absurd k
between_plain x (fin s l g) z (plain m e) (plain n d) h k = tt

-- What lies between two fractions is finite.
pub finite_between : (x y z : Float) (a c b d : ℕ) → Fraction x a c → Fraction z b d → T (le x y) → T (le y z) → T (finite y)
finite_between x y z a c b d p q = between_plain x y z (is_plain x a c p) (is_plain z b d q)

-- A sum doesn't fall as its second term grows from b / d to g / d.
pub sum_grows : (f : Format) (w x y : Float) (a c b g d : ℕ) → 0 < c → 0 < d → Fraction w a c → Fraction x b d → Fraction y g d
    → T (le x y) → T (le (add f w x) (add f w y))
sum_grows f w x y a c b g d c_above d_above o p q h =
    let parts : b ≤ g = le_of_mul-le-mul_right (cross_of_le x y b d g d p q h) d_above in
    let tops : a * d + b * c ≤ a * d + g * c = omega (arith, mul-le-mul_right c parts) in
    let bottom : 0 < c * d = mul-pos c_above d_above in
    rw (add_rounded f w x a c b d c_above d_above o p, add_rounded f w y a c g d c_above d_above o q) (
    round_mono f (a * d + b * c) (c * d) (a * d + g * c) (c * d) bottom bottom (mul-le-mul_right (c * d) tops))
