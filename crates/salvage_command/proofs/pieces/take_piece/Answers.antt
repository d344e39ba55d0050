-- `salvage_command::pieces::take_piece` meets its contract: behind a bad record all is left.
use mathlib.Core.Path.{sym, ◌∙◌}
use Rattle.salvage_command.proofs.OnePiece.{left}
use Rattle.salvage_command.proofs.pieces.take_piece.Goals as goal

pub returns : goal.returns
returns c = rw c.leave_piece.ensures (left _ _ _ _ c.requires (sym c.goes_on.ensures ∙ c.if-goes_on.false))
