-- Worked examples of salvage, worked out by hand from document 02, requests (ii) and (xii): what is lent, what is answered, and what is
-- left.
--   blank                  what lies in the bytes before a call
--   Row                    whole s out o out': the string s is salvaged into the bytes out; the answer is o, and these are out'
--                          pieces vs out o: an input that comes in the pieces vs; out is written in all, and o is reported at the end
--   answer n kept left k   an answer, by its parts
--   saves, stops           a salvage into blank bytes that is done, and that is refused
--   reported p             what is reported of an input that ends at the progress p
--   worked row             the row with its answer, and what is left, by the definitions
--   wholes, cuts, examples  the rows
use Rattle.std.specs.Prelude.{ℕ, ◌+◌, List, [], ◌∷◌, ◌++◌, length, replicate}
use Rattle.salvage_spec.specs.Pieces.{Progress, beginning, pieces_taken, pieces_written}
use Rattle.salvage_spec.specs.Salvage.{salvage_answer, bytes_after}
use Rattle.salvage_spec.specs.declared.Salvaged.{Salvaged}

abbrev pub blank : List ℕ
blank = 0xEE ∷ 0xEE ∷ 0xEE ∷ 0xEE ∷ 0xEE ∷ 0xEE ∷ []

pub data Row : Type 0 where
  whole : List ℕ → List ℕ → Salvaged → List ℕ → Row
  pieces : List (List ℕ) → List ℕ → Salvaged → Row

abbrev pub answer : ℕ → ℕ → ℕ → ℕ → Salvaged
answer n kept left stop = record { number = n; kept = kept; left = left; stop = stop }

abbrev pub reported : Progress → Salvaged
reported p = answer 0 p.kept (p.gone + length p.held) p.stop

abbrev pub worked : Row → Row
worked (whole s out o left) = whole s out (salvage_answer s (length out)) (bytes_after s out)
worked (pieces vs out o) = pieces vs (pieces_written beginning vs) (reported (pieces_taken beginning vs))

-- so many records are kept, so many bytes left, and this stopped it
abbrev pub saves : List ℕ → ℕ → ℕ → ℕ → List ℕ → Row
saves s kept left stop out' = whole s blank (answer 0 kept left stop) out'

abbrev pub stops : List ℕ → Row
stops s = whole s blank (answer 24 0 0 0) blank

unfoldable pub wholes : List Row
wholes =
    -- a sound transcript comes out the same; later places stay
    saves [] 0 0 0 blank ∷
    saves (0x1D ∷ 0xA4 ∷ 0x34 ∷ 0x1E ∷ []) 2 0 0 (0x1D ∷ 0xA4 ∷ 0x34 ∷ 0x1E ∷ 0xEE ∷ 0xEE ∷ []) ∷
    saves (0x1D ∷ 0xA4 ∷ 0x34 ∷ 0x1E ∷ 0x09 ∷ 0x00 ∷ []) 3 0 0 (0x1D ∷ 0xA4 ∷ 0x34 ∷ 0x1E ∷ 0x09 ∷ 0x00 ∷ []) ∷
    -- 20: a head cut off, a word missing, a word cut off, a long number cut off
    saves (0x1E ∷ 0x81 ∷ []) 1 1 20 (0x1E ∷ 0xEE ∷ 0xEE ∷ 0xEE ∷ 0xEE ∷ 0xEE ∷ []) ∷
    saves (0x1E ∷ 0x1D ∷ []) 1 1 20 (0x1E ∷ 0xEE ∷ 0xEE ∷ 0xEE ∷ 0xEE ∷ 0xEE ∷ []) ∷
    saves (0x1E ∷ 0x1D ∷ 0xA4 ∷ []) 1 2 20 (0x1E ∷ 0xEE ∷ 0xEE ∷ 0xEE ∷ 0xEE ∷ 0xEE ∷ []) ∷
    saves (0x1E ∷ 0x1D ∷ replicate 9 0xFF) 1 10 20 (0x1E ∷ 0xEE ∷ 0xEE ∷ 0xEE ∷ 0xEE ∷ 0xEE ∷ []) ∷
    -- 21: of a head, and of a word; the good records behind it are left
    saves (0x1E ∷ 0x80 ∷ 0x1E ∷ 0x1E ∷ []) 1 3 21 (0x1E ∷ 0xEE ∷ 0xEE ∷ 0xEE ∷ 0xEE ∷ 0xEE ∷ []) ∷
    saves (0x1E ∷ 0x1D ∷ 0x80 ∷ 0x34 ∷ 0x1E ∷ []) 1 4 21 (0x1E ∷ 0xEE ∷ 0xEE ∷ 0xEE ∷ 0xEE ∷ 0xEE ∷ []) ∷
    -- 22: a head over 31, a word over 65,535, a long number that ends
    saves (0x20 ∷ 0x1E ∷ []) 0 2 22 blank ∷
    saves (0x1D ∷ 0x34 ∷ 0x1D ∷ 0x84 ∷ 0x80 ∷ 0x00 ∷ 0x1E ∷ []) 1 5 22 (0x1D ∷ 0x34 ∷ 0xEE ∷ 0xEE ∷ 0xEE ∷ 0xEE ∷ []) ∷
    saves (replicate 9 0xFF ++ (0x7F ∷ 0x1E ∷ [])) 0 11 22 blank ∷
    -- 23: lanes 0
    saves (0x1E ∷ 0x1E ∷ 0x07 ∷ 0x1E ∷ []) 2 2 23 (0x1E ∷ 0x1E ∷ 0xEE ∷ 0xEE ∷ 0xEE ∷ 0xEE ∷ []) ∷
    saves (0x00 ∷ []) 0 1 23 blank ∷
    -- 24: seven bytes for six, whatever follows; it is the run that must fit, and not the string
    stops (0x1D ∷ 0xA4 ∷ 0x34 ∷ 0x1E ∷ 0x09 ∷ 0x81 ∷ 0x00 ∷ []) ∷
    stops (replicate 7 0x1E ++ (0x07 ∷ 0x1E ∷ [])) ∷
    saves (replicate 6 0x1E ++ (0x07 ∷ 0x1E ∷ 0x1E ∷ [])) 6 3 23 (replicate 6 0x1E) ∷
    whole (0x07 ∷ []) [] (answer 0 0 1 23) [] ∷
    whole (0x1E ∷ []) [] (answer 24 0 0 0) [] ∷
    []

unfoldable pub cuts : List Row
cuts =
    pieces [] [] (answer 0 0 0 0) ∷
    -- a record over three pieces, and empty ones among them
    pieces ((0x1E ∷ 0x1D ∷ []) ∷ [] ∷ (0xA4 ∷ []) ∷ (0x34 ∷ 0x1E ∷ []) ∷ []) (0x1E ∷ 0x1D ∷ 0xA4 ∷ 0x34 ∷ 0x1E ∷ []) (answer 0 3 0 0) ∷
    -- one of four bytes, which is the longest
    pieces ((0x09 ∷ 0x83 ∷ 0xFF ∷ []) ∷ (0x7F ∷ []) ∷ []) (0x09 ∷ 0x83 ∷ 0xFF ∷ 0x7F ∷ []) (answer 0 1 0 0) ∷
    pieces ((0x1E ∷ 0x1D ∷ []) ∷ [] ∷ (0x84 ∷ []) ∷ []) (0x1E ∷ []) (answer 0 1 2 20) ∷
    -- a long number over pieces: cut off, padded, too large
    pieces ((0x1E ∷ replicate 6 0x80) ∷ replicate 6 0xFF ∷ []) (0x1E ∷ []) (answer 0 1 12 20) ∷
    pieces ((0x1D ∷ replicate 6 0x80) ∷ (0x81 ∷ 0x00 ∷ []) ∷ (0x1E ∷ []) ∷ []) [] (answer 0 0 10 21) ∷
    pieces (replicate 6 0x81 ∷ (0x81 ∷ 0x00 ∷ []) ∷ (0x1E ∷ []) ∷ []) [] (answer 0 0 9 22) ∷
    -- four bytes tell that it is too large; of three, the next one could end a good word
    pieces ((0x1D ∷ 0x81 ∷ 0x80 ∷ 0x80 ∷ []) ∷ (0x00 ∷ []) ∷ []) [] (answer 0 0 5 22) ∷
    -- a record that is over is judged once: by its first four bytes alone it would be cut off
    pieces ((replicate 6 0x81 ++ (0x00 ∷ [])) ∷ [] ∷ []) [] (answer 0 0 7 22) ∷
    -- behind a bad record all pieces are left
    pieces ((0x1E ∷ 0x07 ∷ []) ∷ (0x1E ∷ 0x1E ∷ []) ∷ (0x1E ∷ []) ∷ []) (0x1E ∷ []) (answer 0 1 4 23) ∷
    []

unfoldable pub examples : List Row
examples = wholes ++ cuts
