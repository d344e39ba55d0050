-- `sheet_trial::reading::table_of` meets its contract, by what the read of its number ensures.
use Rattle.sheet_trial.proofs.reading.table_of.Goals as goal

pub returns : goal.returns
returns c = rw c.wide_at.ensures
