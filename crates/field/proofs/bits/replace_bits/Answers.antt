-- `field::bits::replace_bits` meets its contract: by `bits_fit` the sum is a word.
use native.Mathlib.Omega.{arith}
use Prim.Native.Nat.{◌+◌}
use Rattle.std.proofs.lemmas.Nat.{one_shl}
use Rattle.field_spec.specs.WithBits.{with_bits}
use Rattle.field_spec.proofs.WordBits.{bits_fit}
use Rattle.field.proofs.bits.replace_bits.Goals as goal

pub overflow_cast-result : goal.overflow_cast-result
unfolding with_bits
overflow_cast-result c =
    let a = c.args in
    let fit = bits_fit a.word a.o a.n a.bits c.requires.1 16 (omega arith) c.requires.0 in
    rw (c.from-x.ensures, one_shl a.o 32 (omega arith), one_shl (a.o + a.n) 32 (omega arith)) (omega (arith, fit))
