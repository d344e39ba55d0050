-- What the private functions of the reader state.
--   answer_for found room  the answer, by what was found, where so many entries have room
use Rattle.std.specs.Prelude.{ℕ, cond, eqb}
use Rattle.transcript_spec.specs.Writing.{refused, accepted_if_fits}
use Rattle.transcript_spec.specs.declared.Transcribed.{Transcribed}
use Rattle.transcript_scan.specs.declared.scanning.Scanned.{Scanned}

unfoldable pub answer_for : Scanned → ℕ → Transcribed
answer_for found room =
    cond (eqb found.refusal 0) (accepted_if_fits found.entries room) (refused found.refusal found.place)
