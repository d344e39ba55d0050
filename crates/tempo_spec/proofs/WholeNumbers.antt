-- Whole numbers in double precision. Up to 2^53 each is held exactly; so a product or a sum of two numbers of sixteen bits is exact.
use Prim.Native.Nat.{ℕ, ◌+◌, ◌*◌, ◌^◌, ◌≤◌, ◌<◌}
use native.Mathlib.Nat.{le_trans, le_of_lt, mul-one, mul-le-mul, zero-lt-suc, eq_of_mul-eq-mul_right}
use mathlib.Core.Path.{◌≡◌, refl, sym, ◌∙◌, subst}
use mathlib.Core.Bool.{false}
use lib.Dec.{lit≤}
use lib.Ieee.{Float, binary64, round, add, mul, of_int}
use lib.Ieee.Back.{round_whole}
use lib.Ieee.Positive.{den, den_pos, value→cross}
use Rattle.tempo_spec.specs.InPlainWords.{Exactly}
use Rattle.tempo_spec.specs.Tempo.{double}
use Rattle.tempo_spec.proofs.Operations.{mul_rounded, add_rounded}

-- ---- up to 2^53

-- The double of a whole number up to 2^53 is that number, exactly.
pub double_whole : (n : ℕ) → n ≤ 2 ^ 53 → Exactly (double n) n
unfolding of_int
double_whole n h = round_whole binary64 false n h

one_whole : (x : Float) (m n : ℕ) → Exactly x m → Exactly x n → m ≡ n
one_whole x m n p q = eq_of_mul-eq-mul_right (den x) (den_pos x) m n (sym (value→cross x m 1 p) ∙ value→cross x n 1 q)

-- Two different whole numbers up to 2^53 have different doubles.
pub doubles_apart : (m n : ℕ) → m ≤ 2 ^ 53 → n ≤ 2 ^ 53 → double m ≡ double n → m ≡ n
doubles_apart m n h k e = one_whole (double n) m n (subst (λ (x : Float). Exactly x m) e (double_whole m h)) (double_whole n k)

-- Any whole number's double is that number, rounded once.
pub double_rounded : (n : ℕ) → double n ≡ round binary64 false n 1
unfolding of_int
double_rounded n = refl

-- ---- of sixteen bits

-- The double of a number of sixteen bits is that number, exactly.
pub tick_whole : (n : ℕ) → n < 65536 → Exactly (double n) n
tick_whole n h = double_whole n (le_trans (le_of_lt h) (lit≤ tt))

module _ (a b : ℕ) (h : a < 65536) (k : b < 65536) where
  -- The product of the doubles of two numbers of sixteen bits is the double of the numbers' product.
  pub product_exact : mul binary64 (double a) (double b) ≡ double (a * b)
  product_exact =
      mul_rounded binary64 (double a) (double b) a 1 b 1 (zero-lt-suc 0) (zero-lt-suc 0) (tick_whole a h) (tick_whole b k)
      ∙ sym (double_rounded (a * b))

  -- The product of the doubles of two numbers of sixteen bits is exactly the numbers' product: nothing is rounded away.
  pub product_whole : Exactly (mul binary64 (double a) (double b)) (a * b)
  product_whole = rw product_exact (double_whole (a * b) (le_trans (mul-le-mul (le_of_lt h) (le_of_lt k)) (lit≤ tt)))

  -- The sum of the doubles of two numbers of sixteen bits is the double of the numbers' sum.
  pub sum_exact : add binary64 (double a) (double b) ≡ double (a + b)
  sum_exact =
      add_rounded binary64 (double a) (double b) a 1 b 1 (zero-lt-suc 0) (zero-lt-suc 0) (tick_whole a h) (tick_whole b k)
      ∙ rw (mul-one a, mul-one b) (sym (double_rounded (a + b)))
