-- `portlist::list` meets its contract: at each turn registers, memory and line begun are those of the pieces that came; the line begun
-- stays short, so that a read has room.
use native.Mathlib.Omega.{arith}
use mathlib.Core.Path.{ap, subst}
use lib.ListN.{take}
use Rattle.std.specs.Prelude.{Option, Ok}
use Rattle.registers.specs.declared.Woken.{Woken}
use Rattle.portlist.specs.Turning.{ListedTurn}
use Rattle.portlist.specs.declared.Turn.{Turn}
use Rattle.portlist.proofs.OneTurn.{next_short}
use Rattle.portlist.proofs.Pieces.{nothing_yet, ran_after, so_far_after}
use Rattle.portlist.proofs.list.Goals as goal

pub loop-init : goal.loop-init
loop-init c =
    record {
      so_far = nothing_yet (ap (λ (w : Woken). w.registers) c.reset.ensures) c.requires;
      begun = omega arith;
    }

pub returns-in_err-next : goal.returns-in_err-next
returns-in_err-next c =
    ran_after c.take_turn.result c.take_turn.new.input c.loop.invariant.so_far c.take_turn.ensures

pub loop-preserved : goal.loop-preserved
loop-preserved c =
    let k = c.loop.invariant in
    let before = c.loop in
    let w =
    subst
    (λ (y : Option Turn).
    ListedTurn before.turn.registers before.memory (take before.turn.have before.input) (Ok y) c.take_turn.new.memory
    c.take_turn.new.input)
    c.in-Some.is
    c.in_ok-next.ensures
    in
    record {
      so_far = so_far_after k.so_far w;
      begun = next_short w.1.next;
    }
