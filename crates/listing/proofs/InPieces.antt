-- However an input is cut into pieces, and listed piece by piece, the text printed is that of the whole.
use Prim.Native.Nat.{ℕ, ◌≤◌}
use native.Mathlib.Omega.{arith}
use mathlib.Core.Path.{◌≡◌, refl, sym, ap, ◌∙◌}
use mathlib.Core.Bool.{true, false, cond}
use mathlib.Core.List.{List, [], ◌∷◌, ◌++◌, append_assoc, append-nil, flatten}
use mathlib.Core.Logic.{◌⊎◌, inl, inr}
use lib.ListN.{length}
use Rattle.std.proofs.lemmas.Bool.{cases_Bool}
use Rattle.port_spec.specs.Sequences.{Machine}
use Rattle.listing.specs.Line.{has_feed}
use Rattle.listing.specs.Listing.{Listing, start, listing}
use Rattle.listing.specs.Pieces.{left_over, at_end, printed, in_turns, NoFeed}
use Rattle.listing.proofs.LineByLine.{never_ends}
use Rattle.listing.proofs.Cutting.{come, cut, cut_after_bad}

-- one turn, and the turns after it
abbrev turn_text : Listing → List ℕ → List ℕ
turn_text x rest = x.text ++ cond x.ended [] rest

one_turn : (s : Machine) (u v : List ℕ) →
    let x = listing (start s) u in turn_text x (printed x.machine (x.begun ++ v)) ≡ printed s (u ++ v)
one_turn s u v = go (cases_Bool (listing (start s) u).ended)
  where
    go : ((listing (start s) u).ended ≡ true) ⊎ ((listing (start s) u).ended ≡ false) →
        turn_text (listing (start s) u) (printed (listing (start s) u).machine ((listing (start s) u).begun ++ v)) ≡ printed s (u ++ v)
    go (inl e) =
        let x = listing (start s) u in
        rw e
        (ap (λ (l : List ℕ). x.text ++ left_over l) (sym ((come s u).cleared e)) ∙
        ap at_end (sym (cut_after_bad s u v e)))
    go (inr e) =
        let x = listing (start s) u in
        let y = listing (start x.machine) (x.begun ++ v) in
        rw e (sym (append_assoc x.text y.text (left_over y.begun)) ∙ ap at_end (sym (cut s u v e)))

turns : (pieces : List (List ℕ)) (s : Machine) (left : List ℕ) → NoFeed left → length left ≤ 31 →
    in_turns s left pieces ≡ printed s (left ++ flatten pieces)
unfolding in_turns flatten
turns [] s left h k =
    sym (ap (λ (t : List ℕ). printed s t) (append-nil left) ∙ ap at_end (never_ends s [] 0 left h k))
turns (piece ∷ rest) s left h k =
    let u : List ℕ = left ++ piece in
    let x = listing (start s) u in
    let c = come s u in
    ap (turn_text x) (turns rest x.machine x.begun c.none c.short) ∙
    one_turn s u (flatten rest) ∙
    ap (λ (t : List ℕ). printed s t) (append_assoc left piece (flatten rest))

-- An input in any number of pieces, listed one after the other as the program reads them, prints the same as the whole.
pub in_pieces : (s : Machine) (pieces : List (List ℕ)) → in_turns s [] pieces ≡ printed s (flatten pieces)
unfolding has_feed
in_pieces s pieces = turns pieces s [] refl (omega arith)

-- An input cut in two prints the same as the whole.
pub in_two : (s : Machine) (u v : List ℕ) → in_turns s [] (u ∷ v ∷ []) ≡ printed s (u ++ v)
unfolding flatten
in_two s u v = in_pieces s (u ∷ v ∷ []) ∙ ap (λ (t : List ℕ). printed s (u ++ t)) (append-nil v)
