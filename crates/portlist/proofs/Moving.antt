-- Bytes of a buffer that are moved to its front.
use Prim.Native.Nat.{ℕ, ◌+◌, ◌-◌, ◌≤◌}
use native.Mathlib.Omega.{arith}
use mathlib.Core.Path.{◌≡◌, sym, ap, ◌∙◌}
use mathlib.Core.List.{List}
use lib.ListN.{length, take, drop, length-drop}
use lib.Seq.{slice, length-slice}
use Rattle.std.specs.List.{copy_within}
use Rattle.std.proofs.lemmas.List.{drop-take}
use Rattle.std.proofs.lemmas.List.Edits.{take-paste}

module _ (s : List ℕ) (from to : ℕ) (h : from ≤ to) (k : to ≤ length s) where
  -- The bytes of a buffer between two places are as many as these are apart.
  pub count : length (slice from to s) ≡ to - from
  count = length-slice from to s k

  -- The bytes between two places of a buffer that were moved to its front are its front.
  pub front_moved : take (to - from) (copy_within s from to 0) ≡ slice from to s
  front_moved =
      let far : to ≡ from + (to - from) = omega (arith, h) in
      ap (λ (n : ℕ). take n (copy_within s from to 0)) (omega arith) ∙
      take-paste s 0 (drop from s) (to - from) (omega arith) (omega (arith, length-drop from s, k)) ∙
      sym (drop-take from (to - from) s) ∙
      ap (λ (n : ℕ). drop from (take n s)) (sym far)
