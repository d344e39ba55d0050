-- `sheet_trial::turns::run` meets its contract: after each turn some records are carried out.
use Rattle.std.specs.Prelude.{ℕ, List, Float}
use mathlib.Core.Path.{refl, ◌∙◌}
use Rattle.sheet_trial.specs.Records.{StruckTurn, one_record, Ran, no_records, and_one}
use Rattle.sheet_trial.proofs.turns.run.Goals as goal

one_more : {b room₀ room room' : List ℕ} {list₀ list list' : List Float} →
    Ran room₀ list₀ room list → StruckTurn b room list room' list' → Ran room₀ list₀ room' list'
one_more ran (one_record carried) = and_one ran carried

pub loop-bytes-init : goal.loop-bytes-init
loop-bytes-init c = record { rooms = refl; lists = refl; ran = no_records }

pub loop-bytes-preserved : goal.loop-bytes-preserved
loop-bytes-preserved c =
    let going = c.loop-bytes.invariant in
    let turn = c.take_record in
    record { rooms = turn.auto.room ∙ going.rooms; lists = turn.auto.list ∙ going.lists; ran = one_more going.ran turn.ensures }

pub returns : goal.returns
returns c = c.loop-bytes.invariant.ran
