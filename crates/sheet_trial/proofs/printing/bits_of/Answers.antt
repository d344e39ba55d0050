-- `sheet_trial::printing::bits_of` meets its contract: its test tells whether the time is a NaN.
use Rattle.sheet_trial.proofs.OwnEquals.{equal_is_no_nan, unequal_is_nan}
use Rattle.sheet_trial.proofs.printing.bits_of.Goals as goal

pub float_to_bits-result : goal.float_to_bits-result
float_to_bits-result c = equal_is_no_nan _ c.if-time.true

pub returns : goal.returns
returns c = unequal_is_nan _ c.if-time.false
