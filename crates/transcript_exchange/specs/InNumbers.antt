-- What the two calls answer, in numbers: as the writer and the reader do, a number, a count and a place. Document 01: "If an answer is an
-- enum, a definition gives this paper's number and values for each of the enum's cases. The promises use that definition".
--   turned_numbers o   the count is of bytes in the output; the place is the number of good lines before a bad one, the index of an access
--                      among the lines, or a record's first byte
--   case_of a          the case that such numbers tell
use Rattle.std.specs.Prelude.{ℕ, cond, eqb, Result, Ok, Err}
use Rattle.listing.specs.InNumbers.{bad_line_number}
use Rattle.transcript_spec.specs.Writing.{refused, accepted}
use Rattle.transcript_spec.specs.declared.Transcribed.{Transcribed}
use Rattle.transcript_exchange.specs.declared.NotTurned.{NotTurned}
use Rattle.transcript_exchange.specs.declared.NotTurned.TheVariants.{BadLine, Refused, TooMany}

-- "24 list too small", also where the output is; "for 24 it is 0"
abbrev pub turned_numbers : Result ℕ NotTurned → Transcribed
turned_numbers (Ok n) = accepted n
turned_numbers (Err (BadLine k)) = refused bad_line_number k
turned_numbers (Err (Refused n k)) = refused n k
turned_numbers (Err TooMany) = refused 24 0

abbrev pub case_of : Transcribed → Result ℕ NotTurned
case_of a =
    cond (eqb a.number 0) (Ok a.count)
    (cond (eqb a.number 24) (Err TooMany)
    (cond (eqb a.number bad_line_number) (Err (BadLine a.place)) (Err (Refused a.number a.place))))
