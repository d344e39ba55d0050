-- The digit for the selected banks: bit n is bank n, and nothing is above these four.
use Prim.Native.Nat.{ℕ, ◌≤◌, ◌<◌}
use native.Mathlib.Omega.{arith}
use mathlib.Core.Path.{◌≡◌, refl}
use mathlib.Core.Bool.{Bool, true, false, cond}
use Rattle.words.specs.Bytes.{bit}
use Rattle.bank_spec.specs.Decode.{decoded_as}
use Rattle.bank_spec.specs.declared.Decoded.{Decoded}
use Rattle.bank_trial.specs.Selected.{digit}

-- the answer that has this number and shows the banks of this digit
abbrev shown : ℕ → ℕ → Decoded
shown number d = decoded_as number (bit d 0) (bit d 1) (bit d 2) (bit d 3)

-- The bits of the digit for the selected banks are the banks of the answer that it was made of.
pub bit_by_bank : (o : Decoded) → shown o.number (digit o) ≡ o
unfolding bit
bit_by_bank o = each o.bank0 o.bank1 o.bank2 o.bank3
  where
    each : (s t u v : Bool) → shown o.number (digit (decoded_as o.number s t u v)) ≡ decoded_as o.number s t u v
    each true true true true = refl
    each true true true false = refl
    each true true false true = refl
    each true true false false = refl
    each true false true true = refl
    each true false true false = refl
    each true false false true = refl
    each true false false false = refl
    each false true true true = refl
    each false true true false = refl
    each false true false true = refl
    each false true false false = refl
    each false false true true = refl
    each false false true false = refl
    each false false false true = refl
    each false false false false = refl

no_more : (s : Bool) (k : ℕ) → cond s k 0 ≤ k
no_more true k = omega arith
no_more false k = omega arith

-- The digit for the selected banks is one hexadecimal digit.
pub one_digit : (o : Decoded) → digit o < 16
one_digit o = omega (arith, no_more o.bank0 1, no_more o.bank1 2, no_more o.bank2 4, no_more o.bank3 8)
