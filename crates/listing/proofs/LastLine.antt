-- "A line of another shape, a last one without its line feed included, prints `bad line` and ends it".
use Prim.Native.Nat.{ℕ, ◌≤◌, ◌<◌}
use mathlib.Core.Path.{◌≡◌, ap}
use mathlib.Core.List.{List, [], ◌∷◌, ◌++◌}
use mathlib.Core.Logic.{◌⊎◌, inl, inr}
use lib.ListN.{length}
use Rattle.std.proofs.lemmas.Bool.{cases_lt}
use Rattle.port_spec.specs.Sequences.{Machine}
use Rattle.listing.specs.Line.{bad, line_of}
use Rattle.listing.specs.Answer.{bad_line}
use Rattle.listing.specs.Listing.{Listing, start, listing}
use Rattle.listing.specs.Pieces.{at_end, printed, NoFeed}
use Rattle.listing.proofs.LineByLine.{whole_bad, never_ends, never_good}

-- A line of another shape than a read's or a write's prints `bad line`, and nothing follows, whatever stands behind it.
pub other_shape : (s : Machine) (u v : List ℕ) → NoFeed u → line_of u ≡ bad → printed s (u ++ 10 ∷ v) ≡ bad_line
other_shape s u v h e = ap at_end (whole_bad s [] 0 u v h e)

-- A last line without its line feed, good or not, prints `bad line`.
pub last_line : (s : Machine) (b : ℕ) (u : List ℕ) → NoFeed (b ∷ u) → printed s (b ∷ u) ≡ bad_line
last_line s b u h = go (cases_lt 31 (length (b ∷ u)))
  where
    go : (31 < length (b ∷ u)) ⊎ (length (b ∷ u) ≤ 31) → printed s (b ∷ u) ≡ bad_line
    go (inl k) = ap at_end (never_good s [] 0 (b ∷ u) h k)
    go (inr k) = ap at_end (never_ends s [] 0 (b ∷ u) h k)

-- A line without its line feed is not carried out: the port and its memory stay.
pub not_carried_out : (s : Machine) (u : List ℕ) → NoFeed u → (listing (start s) u).machine ≡ s
not_carried_out s u h = go (cases_lt 31 (length u))
  where
    go : (31 < length u) ⊎ (length u ≤ 31) → (listing (start s) u).machine ≡ s
    go (inl k) = ap (λ (x : Listing). x.machine) (never_good s [] 0 u h k)
    go (inr k) = ap (λ (x : Listing). x.machine) (never_ends s [] 0 u h k)
