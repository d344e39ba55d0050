-- `sheet_trial::reading::rule_of` meets its contract, by what the read of its number ensures.
use Rattle.sheet_trial.proofs.reading.rule_of.Goals as goal

pub returns : goal.returns
returns c = c.wide_at.ensures
