-- However an input is cut into pieces, and salvaged piece by piece, it ends like the salvage of the whole: what is written, the records
-- kept, the bytes left and what stopped it.
use Prim.Native.Nat.{ℕ, ◌+◌}
use mathlib.Core.Path.{◌≡◌, refl, sym, ap, ◌∙◌, subst}
use mathlib.Core.List.{List, [], ◌∷◌, ◌++◌, append_assoc, append-nil, flatten}
use lib.ListN.{length}
use Rattle.words.specs.Bytes.{AreBytes}
use Rattle.transcript_spec.specs.Reading.{feeds, entries_read, refusal_read}
use Rattle.transcript_spec.specs.declared.Entry.{Entry}
use Rattle.transcript_spec.proofs.Bytes.{bytes_first}
use Rattle.salvage_spec.specs.InPlainWords.{Divides}
use Rattle.salvage_spec.specs.Pieces.{Progress, beginning, held_of, piece_taken, piece_written, pieces_taken, pieces_written}
use Rattle.salvage_spec.specs.Salvage.{run, rest}
use Rattle.salvage_spec.proofs.Divides.{divides}
use Rattle.salvage_spec.proofs.OneMorePiece.{Stands, one_more}

record Pieces (s : List ℕ) (vs : List (List ℕ)) (p : Progress) : Type 0 where
  pub stands : Stands (s ++ flatten vs) (pieces_taken p vs)
  pub writes : run (s ++ flatten vs) ≡ run s ++ pieces_written p vs

go_on : (vs : List (List ℕ)) (s : List ℕ) (p : Progress) → AreBytes (s ++ flatten vs) → Stands s p → Pieces s vs p
unfolding flatten pieces_taken pieces_written
go_on [] s p a k =
    record {
      stands = subst (λ (l : List ℕ). Stands l p) (sym (append-nil s)) k;
      writes = ap run (append-nil s) ∙ sym (append-nil (run s));
    }
go_on (v ∷ vs) s p a k =
    let same = append_assoc s v (flatten vs) in
    let x = one_more s v p k (bytes_first s (v ++ flatten vs) a) in
    let y = go_on vs (s ++ v) (piece_taken p v) (λ i. rw same (a i)) x.stands in
    record {
      stands = subst (λ (l : List ℕ). Stands l (pieces_taken (piece_taken p v) vs)) same y.stands;
      writes =
          ap run (sym same) ∙ y.writes ∙
          ap (λ (l : List ℕ). l ++ pieces_written (piece_taken p v) vs) x.writes ∙
          append_assoc (run s) (piece_written p v) (pieces_written (piece_taken p v) vs);
    }

-- Pieces and one more are taken as the pieces, and then that one.
pub taken_on : (p : Progress) (vs : List (List ℕ)) (v : List ℕ) → pieces_taken p (vs ++ (v ∷ [])) ≡ piece_taken (pieces_taken p vs) v
unfolding pieces_taken
taken_on p [] v = refl
taken_on p (w ∷ vs) v = taken_on (piece_taken p w) vs v

-- What is written of pieces and one more is what is written of the pieces, and behind it what is written of that one.
pub written_on : (p : Progress) (vs : List (List ℕ)) (v : List ℕ) →
    pieces_written p (vs ++ (v ∷ [])) ≡ pieces_written p vs ++ piece_written (pieces_taken p vs) v
unfolding pieces_taken pieces_written
written_on p [] v = append-nil (piece_written p v)
written_on p (w ∷ vs) v =
    ap (λ (l : List ℕ). piece_written p w ++ l) (written_on (piece_taken p w) vs v)
    ∙ sym (append_assoc (piece_written p w) (pieces_written (piece_taken p w) vs) (piece_written (pieces_taken (piece_taken p w) vs) v))

-- what stands at the end, of pieces that make the string s
pub record Ends (s : List ℕ) (p : Progress) (out : List ℕ) : Type 0 where
  pub writes : out ≡ run s
  pub kept : p.kept ≡ length (entries_read s)
  pub left : p.gone + length p.held ≡ length (rest s)
  pub stop : p.stop ≡ refusal_read s

-- However an input is cut into pieces, empty ones among them, what is written of all of them, the records kept, the bytes left and what
-- stopped it are those of the whole.
pub in_pieces : (vs : List (List ℕ)) → AreBytes (flatten vs) → Ends (flatten vs) (pieces_taken beginning vs) (pieces_written beginning vs)
unfolding feeds held_of
in_pieces vs a =
    let x = go_on vs [] beginning a (record { kept = refl; held = refl; left = refl; stop = refl }) in
    record { writes = sym x.writes; kept = x.stands.kept; left = x.stands.left; stop = x.stands.stop }

-- In plain words: what is written of the pieces is good records, as many as are kept, and behind them as many bytes are left as are counted
-- or held, which are nothing or begin with a bad record, refused as is reported.
pub pieces_divide : (vs : List (List ℕ)) → AreBytes (flatten vs) →
    (es : List Entry) × (u : List ℕ) × Divides (flatten vs) es (pieces_written beginning vs) u (pieces_taken beginning vs).stop
    × ((pieces_taken beginning vs).kept ≡ length es)
    × ((pieces_taken beginning vs).gone + length (pieces_taken beginning vs).held ≡ length u)
pieces_divide vs a =
    let x = in_pieces vs a in
    let s = flatten vs in (
      entries_read s,
      rest s,
      subst (λ (t : List ℕ). Divides s (entries_read s) t (rest s) (pieces_taken beginning vs).stop) (sym x.writes)
          (subst (Divides s (entries_read s) (run s) (rest s)) (sym x.stop) (divides s)),
      x.kept,
      x.left,
    )
