-- `sheet::sheets::strike_sheet` meets its contract: refused before the port is touched, or the table is read for a time in
-- range.
use borrow.Author.Tests.{eq-eqb, ne_eqb}
use mathlib.Core.Path.{refl, sym, ◌∙◌}
use Rattle.sheet_spec.specs.Sheet.{sheet_of, list_after}
use Rattle.words.proofs.RefusalNumbers.{none_is_0}
use Rattle.sheet.proofs.sheets.strike_sheet.Goals as goal

pub returns-in-Err : goal.returns-in-Err
unfolding sheet_of list_after
returns-in-Err c =
    let number = c.in-Err.ensures.number in
    let no = ne_eqb _ 0 (λ z. none_is_0 c.in-Err.refusal (number ∙ z)) in
    record { outcome = rw (no, c.refuse.ensures, number); memory = refl; list = rw no }

pub returns-in-Ok : goal.returns-in-Ok
unfolding sheet_of list_after
returns-in-Ok c =
    let yes = eq-eqb _ 0 (sym c.in-Ok.ensures.number) in
    let e = rw (c.in-Ok.ensures.strokes.0, c.in-Ok.ensures.strokes.1) at c.read_table.ensures in
    record { outcome = rw yes e.outcome; memory = e.memory; list = rw yes e.list }
