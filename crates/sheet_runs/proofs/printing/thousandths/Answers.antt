-- `sheet_runs::printing::thousandths` meets its contract: each of its two tests is one of the definition's.
use Rattle.std.proofs.Common.{T, sym, subst}
use lib.Ieee.{of_bits, neg, of_int}
use Rattle.sheet_runs.specs.Parts.{whole_part}
use Rattle.sheet_runs.proofs.printing.thousandths.Goals as goal

pub truncating_f64_to_u64-requires : goal.truncating_f64_to_u64-requires
unfolding of_bits neg
truncating_f64_to_u64-requires c =
    record { lower_bound = subst T (sym c.if-x.true) tt; upper_bound = subst T (sym c.if-x-2.true) tt }

pub returns-then-x-2 : goal.returns-then-x-2
unfolding of_bits neg of_int whole_part
returns-then-x-2 c = rw (c.if-x.true, c.if-x-2.true) c.truncating_f64_to_u64.ensures

pub returns-else-x-2 : goal.returns-else-x-2
unfolding of_bits neg of_int whole_part
returns-else-x-2 c = rw (c.if-x.true, c.if-x-2.false)

pub returns-else-x : goal.returns-else-x
unfolding of_bits neg of_int whole_part
returns-else-x c = rw c.if-x.false
