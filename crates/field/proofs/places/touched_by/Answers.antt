-- `field::places::touched_by` meets its contract (`touched_is`).
use mathlib.Core.Path.{sym}
use native.Mathlib.Omega.{arith}
use Rattle.field_spec.proofs.Counted.{touched_is}
use Rattle.field.proofs.places.touched_by.Goals as goal

pub returns : goal.returns
returns c = sym (touched_is _ _ (omega arith))
