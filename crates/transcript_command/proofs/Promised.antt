-- What the contracts of `transcript_command` promise, taken from the contracts themselves: `Pre` and `Post` are what the check makes of
-- `requires` and `ensures`; arguments by their places. Some input came, no contract says which.
use Rattle.std.proofs.Common.{◌<◌, length, take}
use Rattle.std.specs.Prelude.{ℕ, Result, IsOk}
use Rattle.input.specs.Filling.{there}
use borrow.Fn.Kinds.{Dens, ended_of}
use contract.Lifetimes.{Lfts}
use denote.Triple.Clauses.{AtExit}
use Rattle.transcript_spec.specs.Lists.{lists}
use Rattle.transcript_exchange.specs.declared.NotTurned.{NotTurned}
use Rattle.transcript_command.specs.Ways.{TurnedTo}
use Rattle.transcript_command.specs.Whole.{Writes}
use Rattle.transcript_command.proofs.turn.Kinds as turn_kinds
use Rattle.transcript_command.proofs.turn.Reads as turn
use Rattle.transcript_command.proofs.write.Kinds as write_kinds
use Rattle.transcript_command.proofs.write.Reads as write

-- The function that turns an input only takes one that was read to its end: no read failed, and the buffer has room left.
pub turn_asks : (κs : Lfts 6) (a : Dens κs turn_kinds.ps) → turn.Pre κs a →
    let read = a.1.0 in
    let input = a.1.1.0 in
    IsOk read × (there read < length input.now)
turn_asks κs a p = p

-- The function that turns an input turns the bytes that were read, all of them and no others, in the way that it is told (`TurnedTo`).
pub turn_says : (κs : Lfts 6) (a : Dens κs turn_kinds.ps) (o : Result ℕ NotTurned) (s : AtExit (ended_of 6 turn_kinds.ps turn_kinds.r) κs) →
    turn.Post κs a o s →
    let way = a.0 in
    let read = a.1.0 in
    let input = a.1.1.0 in
    let kinds = a.1.1.1.0 in
    let kinds' = s.1.1.1.0 in
    let registers = a.1.1.1.1.0 in
    let registers' = s.1.1.1.1.0 in
    let lanes = a.1.1.1.1.1.0 in
    let lanes' = s.1.1.1.1.1.0 in
    let words = a.1.1.1.1.1.1.0 in
    let words' = s.1.1.1.1.1.1.0 in
    let output = a.1.1.1.1.1.1.1.0 in
    let output' = s.1.1.1.1.1.1.1.0 in
    TurnedTo way (take (there read) input.now) (lists kinds.now registers.now lanes.now words.now) output.now o
    (lists kinds'.now registers'.now lanes'.now words'.now) output'.now
turn_says κs a o s p = p

-- The function that writes only takes what the bytes that were read turn to, all of them and no others: of lines their transcript, of a
-- transcript its lines (`Writes`).
pub write_asks : (κs : Lfts 2) (a : Dens κs write_kinds.ps) → write.Pre κs a →
    let way = a.0 in
    let read = a.1.0 in
    let input = a.1.1.0 in
    let text = a.1.1.1.0 in
    Writes way (take (there read) input.now) text.now
write_asks κs a p = p
