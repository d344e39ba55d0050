-- Salvage of a damaged transcript: document 02, request (xii).
--   run s                  the longest run of whole good records from the start of a string
--   rest s                 the bytes behind it
--   report n kept left k   an answer, by its parts: number, records kept, bytes left, what stopped it
--   salvage_answer s room  what salvage answers of a string, lent so many bytes
--   bytes_after s out      the lent bytes afterwards
--   SalvagedTranscript     these, as the contract of the call
use Rattle.std.specs.Prelude.{ℕ, ◌≡◌, cond, List, eqb, ltb, length, take, drop}
use Rattle.transcript_spec.specs.Lists.{over}
use Rattle.transcript_spec.specs.Reading.{entries_read, place_read, refusal_read}
use Rattle.salvage_spec.specs.declared.Salvaged.{Salvaged}

-- "the longest run of whole good records from the start": up to where the reader finds the first bad record, or to the end
abbrev pub run : List ℕ → List ℕ
run s = take (place_read s) s

abbrev pub rest : List ℕ → List ℕ
rest s = drop (place_read s) s

abbrev pub report : ℕ → ℕ → ℕ → ℕ → Salvaged
report n kept left k = record { number = n; kept = kept; left = left; stop = k }

-- "24 when that run doesn't fit the caller's bytes"; "reports how many records it kept, how many bytes it left and the refusal that
-- stopped it": what stopped it is no refusal of the call, and a part of its own (ours)
unfoldable pub salvage_answer : List ℕ → ℕ → Salvaged
salvage_answer s room =
    cond (ltb room (length (run s))) (report 24 0 0 0) (report 0 (length (entries_read s)) (length (rest s)) (refusal_read s))

-- a refused call writes nothing
unfoldable pub bytes_after : List ℕ → List ℕ → List ℕ
bytes_after s out = cond (eqb (salvage_answer s (length out)).number 0) (over (run s) out) out

-- what salvage leaves: its answer, and the bytes that it was lent
pub record SalvagedTranscript (s out : List ℕ) (o : Salvaged) (out' : List ℕ) : Type 0 where
  pub answer : o ≡ salvage_answer s (length out)
  pub bytes : out' ≡ bytes_after s out
