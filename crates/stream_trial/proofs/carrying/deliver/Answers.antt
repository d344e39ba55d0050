-- `stream_trial::carrying::deliver` meets its contract: the call is on the lent parts, which come back.
use Rattle.stream_trial.proofs.OneRecord.{delivered}
use Rattle.stream_trial.proofs.carrying.deliver.Goals as goal

pub returns : goal.returns
returns c =
    delivered c.string_lent.ensures
    (record {
      of_kinds = c.places_lent-k.ensures;
      of_registers = c.places_lent-r.ensures;
      of_lanes = c.places_lent-l.ensures;
      of_words = c.places_lent-w.ensures;
    })
    c.take_delivery-answer.ensures
