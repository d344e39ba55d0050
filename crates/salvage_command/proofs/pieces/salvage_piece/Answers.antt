-- `salvage_command::pieces::salvage_piece` meets its contract: what is salvaged of the bytes at hand makes the progress and what is
-- written.
use native.Mathlib.Omega.{arith}
use mathlib.Core.Path.{ap, ◌∙◌}
use lib.ListN.{take}
use Rattle.salvage_command.proofs.Fronts.{moved}
use Rattle.salvage_command.proofs.OnePiece.{left_within, kept_within, held_within, held_there, salvaged}
use Rattle.salvage_command.proofs.pieces.salvage_piece.Goals as goal

pub overflow_sub-wrote : goal.overflow_sub-wrote
overflow_sub-wrote c = left_within _ _ _ _ c.requires.0 c.salvage_transcript-found.ensures

pub overflow_sub-left : goal.overflow_sub-left
overflow_sub-left c =
    (held_within _ _ _ _ c.requires.0 c.salvage_transcript-found.ensures c.count_held-held.ensures).1

pub overflow_add-kept : goal.overflow_add-kept
overflow_add-kept c =
    let ready = c.requires.0 in
    omega (arith, kept_within _ _ _ _ ready c.salvage_transcript-found.ensures, ready.room.kept, ready.within)

pub overflow_add-gone : goal.overflow_add-gone
overflow_add-gone c =
    let ready = c.requires.0 in
    omega (arith, left_within _ _ _ _ ready c.salvage_transcript-found.ensures, ready.room.gone, ready.within)

pub returns : goal.returns
returns c =
    let ready = c.requires.0 in
    let there = held_there _ _ _ _ ready c.salvage_transcript-found.ensures c.count_held-held.ensures in
    let front = ap (take c.count_held-held.result) c.copy_within.ensures.after ∙ moved _ _ c.args.piece.now there in
    salvaged _ _ _ _ ready c.salvage_transcript-found.ensures c.count_held-held.ensures _ front c.requires.1
