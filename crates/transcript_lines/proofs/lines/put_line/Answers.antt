-- `transcript_lines::lines::put_line` meets its contract: a read's line at once, a write's in two parts, one behind the other.
use native.Mathlib.Omega.{arith}
use mathlib.Core.Path.{ap}
use lib.ListN.{length}
use Rattle.listing.proofs.Laying.{put_behind, put_length}
use Rattle.transcript_lines.proofs.Sayable.{sayable_when}
use Rattle.transcript_lines.proofs.LineBytes.{read_line, write_line}
use Rattle.transcript_lines.proofs.lines.put_line.Goals as goal

pub overflow_cast-register : goal.overflow_cast-register
overflow_cast-register c =
    let says = (sayable_when c.args.e).0 c.requires.1 in
    record { fits = omega (arith, says.register) }

pub overflow_cast-lanes : goal.overflow_cast-lanes
overflow_cast-lanes c =
    let says = (sayable_when c.args.e).0 c.requires.1 in
    record { fits = omega (arith, says.lanes) }

pub put_head-requires : goal.put_head-requires
put_head-requires c =
    let says = (sayable_when c.args.e).0 c.requires.1 in
    let long = ap length (read_line c.args.e c.if-e-eq0.true) in
    (omega (arith, long, c.requires.0), says.register, says.lanes)

pub returns-then-e-eq0 : goal.returns-then-e-eq0
returns-then-e-eq0 c =
    rw (read_line c.args.e c.if-e-eq0.true) c.put_head.ensures

pub overflow_cast-word : goal.overflow_cast-word
overflow_cast-word c =
    let says = (sayable_when c.args.e).0 c.requires.1 in
    record { fits = omega (arith, says.word) }

pub put_head-middle-requires : goal.put_head-middle-requires
put_head-middle-requires c =
    let says = (sayable_when c.args.e).0 c.requires.1 in
    let long = ap length (write_line c.args.e c.if-e-eq0.false) in
    (omega (arith, long, c.requires.0), says.register, says.lanes)

pub put_word-requires : goal.put_word-requires
put_word-requires c =
    let long = ap length (write_line c.args.e c.if-e-eq0.false) in
    let room = put_length (omega (arith, long, c.requires.0)) c.put_head-middle.ensures in
    omega (arith, long, c.requires.0, room, c.put_head-middle.ensures.end)

pub returns : goal.returns
returns c =
    let is = write_line c.args.e c.if-e-eq0.false in
    let long = ap length is in
    rw is (put_behind (omega (arith, long, c.requires.0)) c.put_head-middle.ensures c.put_word.ensures)
