-- `sheet_trial::reading::time_of` meets its contract, by what the reads of its numbers ensure.
use Rattle.sheet_trial.proofs.reading.time_of.Goals as goal

pub returns : goal.returns
returns c = rw (c.wide_at.ensures, c.wide_at-2.ensures, c.wide_at-3.ensures)
