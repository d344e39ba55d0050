-- `sheet::sheets::read_table` meets its contract: the pointer is loaded, the count word is read and judged, and the ticks follow.
use mathlib.Core.Path.{refl}
use Rattle.port_spec.specs.Sequences.{machine}
use Rattle.words.proofs.RefusalNumbers.{none_is_0}
use Rattle.sheet.proofs.TableRead.{count_refused, count_right}
use Rattle.sheet.proofs.sheets.read_table.Goals as goal

pub returns-in-Err : goal.returns-in-Err
returns-in-Err c =
    let a = c.args in
    rw c.refuse.ensures
    (count_refused (machine a.r a.memory.now) a.table a.strokes.count c.load_pointer-loaded.ensures c.host_access-o.ensures _
    c.in-Err.ensures (none_is_0 c.in-Err.refusal) a.strokes.rule a.list.now)

pub returns : goal.returns
returns c =
    let a = c.args in
    count_right (machine a.r a.memory.now) a.table a.strokes.count c.load_pointer-loaded.ensures c.host_access-o.ensures _
    c.in_default.ensures refl c.take_ticks.ensures
