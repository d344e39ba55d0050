-- `salvage_command::salvage` meets its contract: at each turn what stands between two turns holds (`Going`).
use Rattle.salvage_command.proofs.Going.{Going}
use Rattle.salvage_command.proofs.salvage.Given as goal

abbrev pub invariant-loop : goal.invariant-loop
invariant-loop l = Going l.piece l.sound l.progress l.counter
