-- `script::reading::number_at`: after i digits the number is what they say.
use Rattle.std.proofs.Common.{◌≡◌, ◌+◌, true}
use Rattle.script.specs.Script.{digits_from, number_from}
use Rattle.script.proofs.reading.number_at.Given as goal

abbrev pub invariant-loop-digit : goal.invariant-loop-digit
invariant-loop-digit l =
    (digits_from l.line (l.at + 1) l.digit-index ≡ true) × (l.number ≡ number_from l.line (l.at + 1) l.digit-index)
