-- `sheet::reading::load_pointer` meets its contract: two writes, in the order that LBL commands.
use mathlib.Core.Path.{sym, ◌∙◌}
use Rattle.port_spec.specs.Sequences.{machine}
use Rattle.port_spec.proofs.Loading.{low_last, high_last}
use Rattle.sheet.proofs.reading.load_pointer.Goals as goal

pub returns-then-fetches_by : goal.returns-then-fetches_by
returns-then-fetches_by c =
    let a = c.args in
    low_last (machine a.r a.memory.now) a.a c.low_half_of-low.ensures c.high_half_of-high.ensures
    (sym c.fetches_by.ensures ∙ c.if-fetches_by.true)
    c.write_half-q.ensures c.write_half.ensures

pub returns : goal.returns
returns c =
    let a = c.args in
    high_last (machine a.r a.memory.now) a.a c.low_half_of-low.ensures c.high_half_of-high.ensures
    (sym c.fetches_by.ensures ∙ c.if-fetches_by.false)
    c.write_half-q-2.ensures c.write_half-2.ensures
