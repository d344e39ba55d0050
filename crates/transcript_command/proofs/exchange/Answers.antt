-- `transcript_command::exchange` meets its contract: what is written lies in the output and is what the input was turned into.
use Rattle.std.proofs.Common.{sym, arith, length-take-le}
use Rattle.transcript_command.proofs.Turns.{turned_fits, turned_writes}
use Rattle.transcript_command.proofs.exchange.Goals as goal

pub slice_bounds-write-end : goal.slice_bounds-write-end
slice_bounds-write-end c = omega (arith, turned_fits c.turn-turned.ensures c.in-Ok.is, c.turn-turned.auto.output)

pub slice_bounds-write-end-in-Ok : goal.slice_bounds-write-end-in-Ok
slice_bounds-write-end-in-Ok c =
    sym (length-take-le _ _ (omega (arith, turned_fits c.turn-turned.ensures c.in-Ok.is, c.turn-turned.auto.output)))

pub write-requires : goal.write-requires
write-requires c = turned_writes c.turn-turned.ensures c.in-Ok.is
