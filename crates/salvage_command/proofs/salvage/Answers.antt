-- `salvage_command::salvage` meets its contract: at each turn what stands between two turns holds (`Going`).
use native.Mathlib.Omega.{arith}
use Rattle.salvage_command.proofs.Going.{nothing_yet, filled_on, goes_on, tells}
use Rattle.salvage_command.proofs.salvage.Goals as goal

pub loop-init : goal.loop-init
loop-init c =
    let long = c.requires in
    record {
      so_far = nothing_yet _;
      few = omega arith;
      piece_long = long.0;
      sound_long = long.1;
      kept = omega arith;
      gone = omega arith;
    }

pub returns-then-not-turn : goal.returns-then-not-turn
returns-then-not-turn c =
    tells (filled_on c.loop.invariant c.fill-read.ensures) c.loop-test.true c.in_ok-turn.ensures.taken c.take_turn.auto.piece

pub loop-preserved : goal.loop-preserved
loop-preserved c =
    let turn = c.take_turn in
    goes_on (filled_on c.loop.invariant c.fill-read.ensures) c.loop-test.true c.in_ok-turn.ensures.taken turn.auto.piece turn.auto.sound
