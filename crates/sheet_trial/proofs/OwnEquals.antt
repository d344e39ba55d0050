-- A float that does not equal itself is the one that is no number.
use Prim.Native.Nat.{ℕ}
use native.Mathlib.Omega.{arith}
use mathlib.Core.Path.{◌≡◌, refl}
use mathlib.Core.Bool.{Bool, true, false, not}
use borrow.Author.Tests.{eq-eqb}
use lib.Dec.{T}
use lib.Ieee.{Float, nan, inf, fin, eq, is_nan, to_bits, binary64}
use Rattle.words.proofs.Choices.{come_out_alike}

contra : {A : Type 0} {b : Bool} → b ≡ true → b ≡ false → A
contra p q = let z : ◌≡◌ {A = ℕ} 0 1 = cc in absurd (omega arith)

others : (x : Float) → T (not (is_nan x)) → eq x x ≡ true
unfolding eq is_nan
others nan t = absurd t
others (inf s) t = (come_out_alike s s).1 refl
others (fin s m e) t = rw (eq-eqb _ _ refl, (come_out_alike s s).1 refl)

-- A float that equals itself is a number or an infinity.
pub equal_is_no_nan : (x : Float) → eq x x ≡ true → T (not (is_nan x))
unfolding eq is_nan
equal_is_no_nan nan e = contra e refl
equal_is_no_nan (inf s) e = tt
equal_is_no_nan (fin s m k) e = tt

-- A float that does not equal itself has the pattern of the NaN.
pub unequal_is_nan : (x : Float) → eq x x ≡ false → 0x7ff8000000000000 ≡ to_bits binary64 x
unfolding is_nan to_bits
unequal_is_nan nan e = refl
unequal_is_nan (inf s) e = contra (others (inf s) tt) e
unequal_is_nan (fin s m k) e = contra (others (fin s m k) tt) e
