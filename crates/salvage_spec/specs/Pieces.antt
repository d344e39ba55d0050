-- Salvage of an input of any length, that comes piece by piece (ours): what is kept of it between two pieces, and what is written of each.
--   Progress            how far an input is salvaged
--   beginning           before the first piece
--   may_go_on k         what stopped it may be only that a piece ends: nothing is wrong, or a record is cut off
--   at_hand p v         the bytes that are looked at when the piece v comes: those that are held, and v
--   held_of s           the bytes of s that are held for the next piece
--   piece_taken p v     the progress when the piece v is salvaged; piece_written p v, what is written of it
--   pieces_taken, pieces_written   the same of pieces one after another
use Rattle.std.specs.Prelude.{ℕ, ◌+◌, ◌-◌, Bool, cond, ◌||◌, List, [], ◌∷◌, ◌++◌, eqb, length, take}
use Rattle.transcript_spec.specs.Reading.{entries_read, refusal_read}
use Rattle.salvage_spec.specs.Salvage.{run, rest}

-- kept: records so far; held: the first bytes of the record that the last piece cut off; gone: other bytes that are left; stop: what
-- stopped it, or would if the input ended here
pub record Progress : Type 0 where
  pub kept : ℕ
  pub held : List ℕ
  pub gone : ℕ
  pub stop : ℕ

abbrev pub beginning : Progress
beginning = record { kept = 0; held = []; gone = 0; stop = 0 }

abbrev pub may_go_on : ℕ → Bool
may_go_on k = eqb k 0 || eqb k 20

abbrev pub at_hand : Progress → List ℕ → List ℕ
at_hand p v = p.held ++ v

-- four bytes are enough: no good record has more, and those of a longer one tell as what it is bad, whatever follows
unfoldable pub held_of : List ℕ → List ℕ
held_of s = cond (may_go_on (refusal_read s)) (take 4 (rest s)) []

-- behind a bad record everything is left
unfoldable pub piece_taken : Progress → List ℕ → Progress
piece_taken p v =
    cond (may_go_on p.stop)
    (record {
      kept = p.kept + length (entries_read (at_hand p v));
      held = held_of (at_hand p v);
      gone = p.gone + (length (rest (at_hand p v)) - length (held_of (at_hand p v)));
      stop = refusal_read (at_hand p v);
    })
    (record { kept = p.kept; held = p.held; gone = p.gone + length v; stop = p.stop })

unfoldable pub piece_written : Progress → List ℕ → List ℕ
piece_written p v = cond (may_go_on p.stop) (run (at_hand p v)) []

unfoldable pub pieces_taken : Progress → List (List ℕ) → Progress
pieces_taken p [] = p
pieces_taken p (v ∷ vs) = pieces_taken (piece_taken p v) vs

unfoldable pub pieces_written : Progress → List (List ℕ) → List ℕ
pieces_written p [] = []
pieces_written p (v ∷ vs) = piece_written p v ++ pieces_written (piece_taken p v) vs
