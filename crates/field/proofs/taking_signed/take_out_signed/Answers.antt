-- `field::taking_signed::take_out_signed` meets its contract: what it gathers is a number of so many bits.
use native.Mathlib.Omega.{arith}
use mathlib.Core.Path.{sym}
use Rattle.field_spec.proofs.Accepted.{none_applies}
use Rattle.field_spec.proofs.Readings.{field_fits}
use Rattle.field.proofs.taking_signed.take_out_signed.Goals as goal

pub signed_of-requires : goal.signed_of-requires
signed_of-requires c =
    let g = c.args in
    let i = none_applies _ _ _ (sym c.in_default.ensures) in
    (i.some, (i.most, rw c.gather-field.ensures (omega (arith, field_fits g.memory.now g.at g.size))))
