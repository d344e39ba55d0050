-- What the two calls answer, in numbers: as the writer and the reader do, a number, a count and a place. Document 01: "If an answer is an
-- enum, a definition gives this paper's number and values for each of the enum's cases. The promises use that definition".
--   taken_numbers o   of `take_lines`: the count is of entries, the place that of the bad line, by the good ones before it
--   put_numbers o     of `put_lines`: the count is of bytes, the place that of the entry which no line can say, its index
use Rattle.std.specs.Prelude.{ℕ, Result, Ok, Err}
use Rattle.listing.specs.InNumbers.{bad_line_number}
use Rattle.transcript_spec.specs.Writing.{refused, accepted}
use Rattle.transcript_spec.specs.declared.Transcribed.{Transcribed}
use Rattle.transcript_lines.specs.declared.NotPut.{NotPut}
use Rattle.transcript_lines.specs.declared.NotPut.TheVariants.{Unsayable, NoBytes}
use Rattle.transcript_lines.specs.declared.NotTaken.{NotTaken}
use Rattle.transcript_lines.specs.declared.NotTaken.TheVariants.{BadLine, NoPlaces}

-- "24 list too small, exactly when all records are good and the whole result doesn't fit", "for 24 it is 0"
abbrev pub taken_numbers : Result ℕ NotTaken → Transcribed
taken_numbers (Ok n) = accepted n
taken_numbers (Err (BadLine k)) = refused bad_line_number k
taken_numbers (Err NoPlaces) = refused 24 0

-- 22: "also for a kind over 1 or a read's word not 0"; also for a register or lanes of two digits (ours)
abbrev pub put_numbers : Result ℕ NotPut → Transcribed
put_numbers (Ok n) = accepted n
put_numbers (Err (Unsayable k)) = refused 22 k
put_numbers (Err NoBytes) = refused 24 0
