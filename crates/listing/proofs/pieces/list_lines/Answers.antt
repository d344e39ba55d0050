-- `listing::pieces::list_lines` meets its contract: each turn is one of those of `Turns`.
use mathlib.Core.Path.{◌∙◌, refl}
use Rattle.listing.proofs.Laying.{put_length}
use Rattle.listing.proofs.Turns.{left_start, room_for_next, left_next, lies, room_for_last, left_bad, left_open}
use Rattle.listing.proofs.pieces.list_lines.Goals as goal

pub loop-a-init : goal.loop-a-init
loop-a-init c =
    left_start c.args.r c.args.memory.now
    c.args.input.now c.args.output.now c.good_lines-lines.ensures

pub answer_line-done-requires : goal.answer_line-done-requires
answer_line-done-requires c = room_for_next c.loop-a.invariant c.requires c.in-Some.ensures.steps

pub loop-a-preserved : goal.loop-a-preserved
loop-a-preserved c =
    left_next c.loop-a.invariant c.requires c.in-Some.ensures.steps c.answer_line-done.ensures c.answer_line-done.auto.memory

pub overflow_sub-used : goal.overflow_sub-used
overflow_sub-used c = lies c.loop-a.invariant c.requires c.in_default.ensures.steps

pub put-requires : goal.put-requires
put-requires c = room_for_last c.loop-a.invariant c.requires c.in_default.ensures.steps c.front_line.ensures c.in-Bad.is

pub shape_of-memory-in-Bad : goal.shape_of-memory-in-Bad
shape_of-memory-in-Bad c = c.loop-a.invariant.kept.size

pub shape_of-output-in-Bad : goal.shape_of-output-in-Bad
shape_of-output-in-Bad c =
    put_length (room_for_last c.loop-a.invariant c.requires c.in_default.ensures.steps c.front_line.ensures c.in-Bad.is) c.put.ensures ∙
    c.loop-a.invariant.kept.room

pub returns-in-Bad : goal.returns-in-Bad
returns-in-Bad c =
    left_bad c.loop-a.invariant c.requires c.in_default.ensures.steps c.front_line.ensures c.in-Bad.is refl c.put.ensures

pub shape_of-memory : goal.shape_of-memory
shape_of-memory c = c.loop-a.invariant.kept.size

pub shape_of-output : goal.shape_of-output
shape_of-output c = c.loop-a.invariant.kept.room

pub returns : goal.returns
returns c =
    left_open c.loop-a.invariant c.requires c.in_default.ensures.steps c.front_line.ensures c.in_default-front_line.not-Bad refl
