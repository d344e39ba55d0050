-- How many bytes of an input surely have room for their answers.
use Prim.Native.Nat.{ℕ, ◌+◌, ◌*◌, ◌-◌, ◌≤◌, ◌<◌, min}
use native.Mathlib.Omega.{arith}
use mathlib.Core.Path.{◌≡◌, sym, ap, ◌∙◌}
use mathlib.Core.List.{List}
use mathlib.Core.Logic.{◌⊎◌, inl, inr}
use lib.ListN.{length, take}
use lib.Seq.{take_all}
use Rattle.std.proofs.lemmas.Bool.{cases_lt}
use Rattle.listing.specs.Listing.{fitting}

-- To take at most n bytes of a text, or the smaller of n and its length, is the same.
pub taken_is : (n : ℕ) (l : List ℕ) → take (min n (length l)) l ≡ take n l
taken_is n l = go (cases_lt n (length l))
  where
    go : (n < length l) ⊎ (length l ≤ n) → take (min n (length l)) l ≡ take n l
    go (inl h) =
        let e : min n (length l) ≡ n = omega (arith, h) in
        ap (λ (k : ℕ). take k l) e
    go (inr h) = take_all (min n (length l)) l (omega (arith, h)) ∙ sym (take_all n l h)

-- The bytes of a piece that are listed need no more room than there is, at 10 bytes for each 3 and 9 for `bad line`: with `text_fits`, they
-- surely have room for their answers.
pub fits : (room : ℕ) → 10 * fitting room ≤ 3 * (room - 9)
fits room = omega arith

-- Three bytes more than are listed of a piece would need more room than there is, at 10 bytes for each 3 and 9 for `bad line`.
pub three_more : (room : ℕ) → 3 * (room - 9) < 10 * (fitting room + 3)
three_more room = omega arith
