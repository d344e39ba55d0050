-- `salvage_trial::carrying::carry_out` meets its contract: the call is on the lent parts, and those to be written come back.
use Rattle.salvage_trial.proofs.OneRecord.{carried}
use Rattle.salvage_trial.proofs.carrying.carry_out.Goals as goal

pub returns : goal.returns
returns c = carried c.places_lent-given.ensures c.places_lent-room.ensures c.salvage_transcript.ensures
