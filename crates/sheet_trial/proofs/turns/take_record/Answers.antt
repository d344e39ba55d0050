-- `sheet_trial::turns::take_record` meets its contract: the record is carried out, and no more.
use Rattle.sheet_trial.specs.Records.{one_record}
use Rattle.sheet_trial.proofs.turns.take_record.Goals as goal

pub returns : goal.returns
returns g c = one_record c.carry_out-o.ensures
