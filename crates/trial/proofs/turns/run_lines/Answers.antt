-- `trial::turns::run_lines` meets its contract: after i turns the world and the output are those of the first i lines.
use Rattle.std.proofs.Common.{◌*◌, refl, sym, ap, ◌∙◌, arith}
use Rattle.block_spec.proofs.Lent.{part_length}
use Rattle.script.proofs.Laying.{whole_line}
use Rattle.script.proofs.Shapes.{read_good, read_bad}
use Rattle.script.specs.Script.{line_in}
use Rattle.trial.specs.Lines.{all_calls, after_lines, printed}
use Rattle.trial.proofs.turns.run_lines.Invariants.{in_output, turned, line_off, none_left}
use Rattle.trial.proofs.turns.run_lines.Goals as goal

pub loop-line-init : goal.loop-line-init
unfolding all_calls after_lines printed
loop-line-init c = (
  record { most = omega arith; size = refl; rooms = refl; lists = refl; calls = refl; left = refl; out = refl },
  record {
    each = rw c.into_iter-line-iterator.ensures.into_iter_gives c.chunks_exact-line-items.ensures.size;
    behind = rw c.into_iter-line-iterator.ensures.into_iter_gives c.chunks_exact-line-items.ensures.rest;
  },
)

pub overflow_mul-calls : goal.overflow_mul-calls
overflow_mul-calls c =
    let off = line_off c.loop-line.invariant.1 c.in-Some.ensures.steps.1.0 c.in-Some.ensures.steps.1.1 in
    let fits = in_output c.loop-line.invariant.0 off.0 c.requires in
    omega (arith, fits, c.well_formed)

pub overflow_mul-calls-in-loop-line : goal.overflow_mul-calls-in-loop-line
overflow_mul-calls-in-loop-line c =
    let off = line_off c.loop-line.invariant.1 c.in-Some.ensures.steps.1.0 c.in-Some.ensures.steps.1.1 in
    let fits = in_output c.loop-line.invariant.0 off.0 c.requires in
    omega (arith, fits, c.well_formed)

pub overflow_add-calls : goal.overflow_add-calls
overflow_add-calls c =
    let off = line_off c.loop-line.invariant.1 c.in-Some.ensures.steps.1.0 c.in-Some.ensures.steps.1.1 in
    let fits = in_output c.loop-line.invariant.0 off.0 c.requires in
    omega (arith, fits, c.well_formed)

pub slice_bounds-put_line-end : goal.slice_bounds-put_line-end
slice_bounds-put_line-end c =
    let off = line_off c.loop-line.invariant.1 c.in-Some.ensures.steps.1.0 c.in-Some.ensures.steps.1.1 in
    in_output c.loop-line.invariant.0 off.0 c.requires

pub loop-line-preserved : goal.loop-line-preserved
loop-line-preserved c =
    let k = c.loop-line.invariant in
    let steps = c.in-Some.ensures.steps in
    let off = line_off k.1 steps.1.0 steps.1.1 in
    let read = read_good _ _ (ap line_in off.1 ∙ sym c.in-Some-read_line.ensures) in
    let done = c.carry_out-done.ensures in
    let kept = c.carry_out-done.auto in
    let part = part_length (47 * c.loop-line.calls) 47 c.loop-line.output (in_output k.0 off.0 c.requires) in
    let long = c.put_line.auto.line ∙ part in
    let written = c.put_line.ensures ∙ whole_line _ _ _ part in (
      turned k.0 off.0 c.requires read.0 read.1 done kept.room kept.list written long,
      record { each = steps.0 ∙ k.1.each; behind = off.2 },
    )

pub returns-in_default : goal.returns-in_default
returns-in_default c =
    let k = c.loop-line.invariant in
    let steps = c.in-Some.ensures.steps in
    let off = line_off k.1 steps.1.0 steps.1.1 in
    let bad = read_bad _ (ap line_in off.1 ∙ sym c.in_default.ensures) in
    record { most = k.0.most; calls = k.0.calls; cut = λ _. bad; left = k.0.left; written = k.0.out }

pub returns : goal.returns
returns c =
    let k = c.loop-line.invariant in
    let all = none_left k.1 c.in-None.ensures.steps.1.0 in
    record { most = k.0.most; calls = k.0.calls; cut = λ less. absurd (omega (arith, all)); left = k.0.left; written = k.0.out }
