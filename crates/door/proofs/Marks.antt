-- A mark taken for a number is its bit.
use Rattle.std.proofs.Common.{◌≡◌, Bool, true, false, cond, refl}
use mir.Val.{bool_byte}

-- A mark taken for a number is 1 where it is set, else 0.
pub as_bit : (b : Bool) → bool_byte b ≡ cond b 1 0
as_bit true = refl
as_bit false = refl
