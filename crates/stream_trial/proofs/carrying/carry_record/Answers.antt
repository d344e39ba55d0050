-- `stream_trial::carrying::carry_record` meets its contract: its tests are those of the record's first byte.
use Prim.Native.Nat.{ℕ}
use mathlib.Core.Path.{ap, ◌∙◌}
use borrow.Author.Tests.{eq-eqb}
use Rattle.std.specs.Prelude.{eqb}
use Rattle.std.proofs.Common.{rules}
use Rattle.stream_spec.specs.Stream.{streamed}
use Rattle.stream_trial.specs.Record.{started_at}
use Rattle.stream_trial.proofs.OneRecord.{by_start, by_delivery, by_end}
use Rattle.stream_trial.proofs.carrying.carry_record.Goals as goal

pub returns-in-0 : goal.returns-in-0
returns-in-0 c =
    by_start (eq-eqb _ _ c.in-0.is)
    (c.leave_lists.ensures.0 ∙ c.start_from.ensures ∙ ap (λ (n : ℕ). streamed 0 0 0 (started_at n)) c.number_in.ensures)
    c.leave_lists.ensures.1

pub returns-in-1 : goal.returns-in-1
returns-in-1 c = by_delivery (ap (λ (n : ℕ). eqb n 0) c.in-1.is) (eq-eqb _ _ c.in-1.is) c.deliver.ensures

pub returns-in_default : goal.returns-in_default
returns-in_default c =
    by_end (search rules) (search rules)
    (c.leave_lists-in_default.ensures.0 ∙ c.end_stream.ensures) c.leave_lists-in_default.ensures.1
