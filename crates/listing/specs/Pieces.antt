-- The whole of what `portlist` prints, and the same input in pieces: what the laws say of a listing.
--   at_end x         what the input's end adds: "a last one without its line feed included"
--   printed s t      what the program prints of an input t
--   in_turns         what it prints when the input comes in pieces, each listed behind what is left of a line
--   behind           a listing whose text and bytes follow those of another
--   NoFeed u        no byte of u is a line feed
use Rattle.std.specs.Prelude.{ℕ, ◌+◌, false, cond, List, [], ◌∷◌, ◌++◌, ◌≡◌}
use Rattle.port_spec.specs.Sequences.{Machine}
use Rattle.listing.specs.Line.{has_feed}
use Rattle.listing.specs.Answer.{bad_line}
use Rattle.listing.specs.Listing.{Listing, start, listing}

-- a line that is left is bad; none is left where nothing was begun
abbrev pub left_over : List ℕ → List ℕ
left_over [] = []
left_over (b ∷ rest) = bad_line

abbrev pub at_end : Listing → List ℕ
at_end x = x.text ++ left_over x.begun

-- "empty input prints nothing"
abbrev pub printed : Machine → List ℕ → List ℕ
printed s t = at_end (listing (start s) t)

-- one turn for each piece: list what is left of a line with the piece behind it; go on with what is left then, unless a bad
-- line ended it
unfoldable pub in_turns : Machine → List ℕ → List (List ℕ) → List ℕ
in_turns s left [] = left_over left
in_turns s left (piece ∷ rest) =
    let x = listing (start s) (left ++ piece) in
    x.text ++ cond x.ended [] (in_turns x.machine x.begun rest)

abbrev pub behind : List ℕ → ℕ → Listing → Listing
behind text used x =
    record { machine = x.machine; text = text ++ x.text; used = used + x.used; begun = x.begun; ended = x.ended }

abbrev pub NoFeed : List ℕ → Type 0
NoFeed u = has_feed u ≡ false
