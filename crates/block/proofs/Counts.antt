-- A yes taken for a number is the one that it counts.
use Rattle.std.proofs.Common.{◌≡◌, ◌≤◌, Bool, true, false, refl, arith}
use mir.Val.{bool_byte}
use Rattle.block_spec.specs.Block.{counted}

-- A yes taken for a number counts one, a no none.
pub as_counted : (b : Bool) → bool_byte b ≡ counted b
as_counted true = refl
as_counted false = refl

-- That number is at most 1.
pub at_most_1 : (b : Bool) → bool_byte b ≤ 1
at_most_1 true = omega arith
at_most_1 false = omega arith
