-- `listing::answers::put_answer` meets its contract: the three parts, one behind the other.
use native.Mathlib.Omega.{arith}
use mathlib.Core.Path.{sym}
use lib.ListN.{length-append}
use Rattle.listing.specs.Answer.{mark_text, cycle_text, answer_text}
use Rattle.listing.proofs.AnswerTexts.{head_length, mark_length, cycle_length}
use Rattle.listing.proofs.Laying.{put_behind, put_length}
use Rattle.listing.proofs.answers.put_answer.Goals as goal

pub put_mark-after_mark-requires : goal.put_mark-after_mark-requires
put_mark-after_mark-requires c =
    let a = c.args in
    let head = c.put_head-after_head.ensures in
    let six = head_length a.answer.number a.answer.word in
    let room = put_length (omega (arith, c.requires.0, six)) head in
    omega (arith, c.requires.0, head.end, six, room)

pub put_cycle-requires : goal.put_cycle-requires
put_cycle-requires c =
    let a = c.args in
    let head = c.put_head-after_head.ensures in
    let mark = c.put_mark-after_mark.ensures in
    let six = head_length a.answer.number a.answer.word in
    let eight = mark_length c.shows_mark-shown.result a.answer.hollow in
    let room = put_length (omega (arith, c.requires.0, six)) head in
    let room2 = put_length (omega (arith, c.requires.0, head.end, six, eight, room)) mark in
    omega (arith, c.requires.0, head.end, mark.end, six, eight, room, room2)

pub returns : goal.returns
unfolding answer_text
returns c =
    let a = c.args in
    let shown = c.shows_mark-shown.result in
    let six = head_length a.answer.number a.answer.word in
    let eight = mark_length shown a.answer.hollow in
    let less = cycle_length a.answer.cycle in
    let room = put_length (omega (arith, c.requires.0, six)) c.put_head-after_head.ensures in
    let rest = length-append (mark_text shown a.answer.hollow) (cycle_text a.answer.cycle) in
    rw
    (sym c.shows_mark-shown.ensures)
    (put_behind
    (omega (arith, c.requires.0, six, eight, less, rest))
    c.put_head-after_head.ensures
    (put_behind (omega (arith, c.requires.0, six, eight, less, room, c.put_head-after_head.ensures.end)) c.put_mark-after_mark.ensures
    c.put_cycle.ensures))
