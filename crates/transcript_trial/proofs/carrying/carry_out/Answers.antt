-- `transcript_trial::carrying::carry_out` meets its contract: the call is on the lent parts, which come back.
use Rattle.transcript_trial.proofs.OneRecord.{carried}
use Rattle.transcript_trial.proofs.carrying.carry_out.Goals as goal

pub returns : goal.returns
returns c =
    carried
    (record {
      of_string = c.places_lent-s.ensures;
      of_lists =
          record {
            of_kinds = c.places_lent-k.ensures;
            of_registers = c.places_lent-r.ensures;
            of_lanes = c.places_lent-l.ensures;
            of_words = c.places_lent-w.ensures;
          };
    })
    c.call.ensures
