-- First places of lists, and places further on: what is moved to a buffer's front.
use Prim.Native.Nat.{ℕ, ◌+◌, ◌-◌, ◌≤◌, min}
use native.Mathlib.Omega.{arith}
use mathlib.Core.Path.{◌≡◌, sym, ap, ◌∙◌}
use mathlib.Core.List.{List}
use mathlib.Core.Logic.{⊎_elim}
use lib.ListN.{length, take, drop, length-drop}
use lib.Seq.{paste, length-take-le, take_all, take-length, take-add, take-take, take-paste, drop_at}
use Rattle.std.specs.List.{copy_within}
use Rattle.std.proofs.lemmas.Bool.{cases_lt}

-- No more places are taken of a list than there are.
pub take_min : (n : ℕ) (l : List ℕ) → take (min n (length l)) l ≡ take n l
take_min n l =
    ⊎_elim
    (λ h. let e : min n (length l) ≡ n = omega arith in ap (λ (k : ℕ). take k l) e)
    (λ h.
    let e : min n (length l) ≡ length l = omega arith in
    ap (λ (k : ℕ). take k l) e ∙ take-length l ∙ sym (take_all n l h))
    (cases_lt n (length l))

-- n places from w on are the last of w + n.
last_of_first : (w n : ℕ) (l : List ℕ) → w ≤ length l → drop w (take (w + n) l) ≡ take n (drop w l)
last_of_first w n l h = ap (drop w) (take-add w n l) ∙ drop_at (take w l) (take n (drop w l)) w (length-take-le w l h)

-- Places further on are the same of a list and of its first places, where these reach so far.
pub within_first : (all w n : ℕ) (l : List ℕ) → all ≤ length l → w + n ≤ all → take n (drop w (take all l)) ≡ take n (drop w l)
within_first all w n l k h =
    let m = length-take-le all l k in
    sym (last_of_first w n (take all l) (omega arith)) ∙ ap (drop w) (take-take (w + n) all l h) ∙ last_of_first w n l (omega arith)

-- Bytes of a list that were moved to its front stand there.
pub moved : (from n : ℕ) (l : List ℕ) → from + n ≤ length l → take n (copy_within l from (from + n) 0) ≡ take n (drop from l)
moved from n l h =
    let e : from + n - from ≡ n = omega arith in
    let z : n ≡ 0 + n = omega arith in
    ap (λ (k : ℕ). take n (paste l 0 (drop from l) k)) e
    ∙ ap (λ (k : ℕ). take k (paste l 0 (drop from l) n)) z
    ∙ take-paste l 0 (drop from l) n (omega arith) (omega (arith, length-drop from l, h))
