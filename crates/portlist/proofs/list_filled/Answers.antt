-- `portlist::list_filled` meets its contract: all the bytes fit, so they are listed whole, and what is left of a line is moved.
use mathlib.Core.Path.{refl, sym, ap, ◌∙◌}
use Rattle.std.specs.Prelude.{Result, is_err}
use Rattle.portlist.specs.declared.messages.Failed.{Failed}
use Rattle.portlist.proofs.OneTurn.{wrote_text, ended_is, used_within, turned_on}
use Rattle.portlist.proofs.Pieces.{may_print_listed}
use Rattle.portlist.proofs.list_filled.Goals as goal

pub print-requires : goal.print-requires
print-requires c =
    let room = c.requires.all_in_bounds in
    may_print_listed
    c.requires.at_hand
    (wrote_text c.args.input.now c.args.all room.0 room.1 c.list_piece-listed.ensures)
    (ended_is c.args.input.now c.args.all room.0 room.1 c.list_piece-listed.ensures)

pub copy_within-requires-clause-start_le_end : goal.copy_within-requires-clause-start_le_end
copy_within-requires-clause-start_le_end c =
    let room = c.requires.all_in_bounds in
    used_within c.args.input.now c.args.all room.0 room.1 c.list_piece-listed.ensures

pub overflow_sub-result : goal.overflow_sub-result
overflow_sub-result c =
    let room = c.requires.all_in_bounds in
    used_within c.args.input.now c.args.all room.0 room.1 c.list_piece-listed.ensures

pub returns : goal.returns
returns c =
    let room = c.requires.all_in_bounds in
    turned_on c.args.input.now c.args.all room.0 room.1 c.list_piece-listed.ensures
    (λ e. sym (ap (λ (x : Result Unit Failed). is_err x) c.in_ok-print.was) ∙ c.print.ensures e)
    refl refl c.copy_within.ensures.after
