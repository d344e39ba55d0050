-- `sheet_trial::carrying::carry_out` meets its contract: the words are laid, and the sheet is that of the lent parts, which come back.
use native.Mathlib.Omega.{arith}
use Rattle.sheet_trial.proofs.OneRecord.{carried}
use Rattle.sheet_trial.proofs.carrying.carry_out.Goals as goal

pub returns : goal.returns
returns c =
    carried
    (record {
      filled = c.lay_words.ensures;
      words_lent = omega (arith, c.min-words.ensures, c.from.ensures, c.number_at.ensures);
      places_lent = omega (arith, c.min-places.ensures, c.from-2.ensures, c.number_at-2.ensures);
      registers = c.registers_of.ensures;
      table = c.table_of.ensures;
      counting = c.rule_of.ensures;
      time = c.time_of.ensures;
    })
    c.strike_sheet.ensures
