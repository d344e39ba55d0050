-- `script::printing::put_state` meets its contract: five numbers, each after what stands before it.
use Rattle.std.proofs.Common.{◌≡◌, Bool, true, false, refl}
use mir.Val.{bool_byte}
use Rattle.script.proofs.Laying.{follows}
use Rattle.script.specs.Answers.{counted, state_text}
use Rattle.script.proofs.printing.put_state.Goals as goal

counted_as : (mark : Bool) → bool_byte mark ≡ counted mark
counted_as true = refl
counted_as false = refl

pub returns : goal.returns
unfolding state_text
returns c =
    let latch = rw c.from.ensures at c.put_number-2.ensures in
    let control = rw c.from-2.ensures at c.put_number-3.ensures in
    let mark = rw (c.from-3.ensures, counted_as c.args.s.registers.hollow) at c.put_number-4.ensures in
    let bus = rw c.bus_number.ensures at c.put_number-5.ensures in
    follows c.put_number.ensures (follows latch (follows control (follows mark bus)))
