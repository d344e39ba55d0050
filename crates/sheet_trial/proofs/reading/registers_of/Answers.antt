-- `sheet_trial::reading::registers_of` meets its contract, by what the reads of its numbers ensure.
use Rattle.sheet_trial.proofs.reading.registers_of.Goals as goal

pub returns : goal.returns
returns c =
    let pointer = c.wide_at.ensures in
    rw (pointer, c.number_at.ensures, c.number_at-2.ensures, c.number_at-3.ensures)
