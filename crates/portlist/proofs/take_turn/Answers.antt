-- `portlist::take_turn` meets its contract: a piece came behind the bytes of the line begun.
use borrow.Author.Rules.{rules}
use Rattle.portlist.proofs.OneTurn.{piece_came}
use Rattle.portlist.proofs.take_turn.Goals as goal

pub returns : goal.returns
returns c =
    piece_came c.args.input.now c.fill-read.new.buffer c.args.turn.have _ (search rules) (search rules) c.in_ok-next.ensures
