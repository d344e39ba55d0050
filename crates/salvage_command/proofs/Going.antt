-- Between two turns of `salvage`: the progress is that of the pieces that came, the buffers keep their lengths, and the counts have room
-- for every turn that may follow.
use Prim.Native.Nat.{ℕ, ◌+◌, ◌*◌, ◌≤◌, ◌<◌}
use native.Mathlib.Omega.{arith}
use mathlib.Core.Path.{◌≡◌, refl, sym, ap, ◌∙◌}
use mathlib.Core.List.{List, [], ◌∷◌, ◌++◌}
use lib.ListN.{length}
use lib.Seq.{length-take-le}
use Rattle.std.specs.Prelude.{Result}
use Rattle.input.specs.Filling.{FilledBehind}
use Rattle.input.specs.declared.Unread.{Unread}
use Rattle.salvage_spec.specs.Pieces.{beginning, piece_taken, pieces_taken, Progress as SalvageProgress}
use Rattle.salvage_spec.proofs.InPieces.{taken_on}
use Rattle.salvage_command.specs.Turning.{Room, SalvagedTurn, SoFar, Tells}
use Rattle.salvage_command.specs.declared.Turn.{Turn}
use Rattle.salvage_command.specs.declared.pieces.Progress.{Progress}
use Rattle.salvage_command.proofs.OnePiece.{by_parts}

-- between two turns, when so many have been: 65,540 bytes a turn, and 2^46 turns in all
pub record Going (piece sound : List ℕ) (p : Progress) (turns : ℕ) : Type 0 where
  pub so_far : SoFar p piece
  pub few : p.held ≤ 4
  pub piece_long : length piece ≡ 65540
  pub sound_long : length sound ≡ 65540
  pub kept : p.kept ≤ 65540 * turns
  pub gone : p.gone ≤ 65540 * turns

-- Before the first piece the progress is that of no pieces.
pub nothing_yet : (piece : List ℕ) → SoFar (record { kept = 0; gone = 0; held = 0; stop = 0 }) piece
unfolding pieces_taken
nothing_yet piece = record { pieces = []; made = refl }

-- A read behind the bytes that are held leaves all that stands between two turns.
pub filled_on : {piece sound piece' : List ℕ} {p : Progress} {turns : ℕ} {r : Result ℕ Unread} →
    Going piece sound p turns → FilledBehind piece p.held r piece' → Going piece' sound p turns
filled_on {p = p} g f =
    record {
      so_far =
          record {
            pieces = g.so_far.pieces;
            made = ap (λ (l : List ℕ). by_parts p.kept l p.gone p.stop) f.first ∙ g.so_far.made;
          };
      few = g.few;
      piece_long = f.as_long ∙ g.piece_long;
      sound_long = g.sound_long;
      kept = g.kept;
      gone = g.gone;
    }

module _ {piece sound : List ℕ} {p : Progress} {turns : ℕ} (g : Going piece sound p turns) (more : turns < 70368744177664) where
  -- As long as turns are left, one can be taken.
  pub ready : Room p piece sound
  ready =
      record {
        few = g.few;
        holds = omega (arith, g.piece_long);
        fits = omega (arith, g.piece_long, g.sound_long);
        kept = omega (arith, g.piece_long, g.kept, more);
        gone = omega (arith, g.piece_long, g.gone, more);
      }

  module _ {t : Turn} {piece' sound' : List ℕ} (x : SalvagedTurn p piece t piece' sound') where
    -- one piece more came
    so_far_on : SoFar t.taken.progress piece'
    so_far_on =
        let before = g.so_far in
        record {
          pieces = before.pieces ++ (x.came ∷ []);
          made =
              x.progress
              ∙ ap (λ (q : SalvageProgress). piece_taken q x.came) before.made
              ∙ sym (taken_on beginning before.pieces x.came);
        }

    -- After a turn that keeps the buffers' lengths, the next one can be taken.
    pub goes_on : length piece' ≡ length piece → length sound' ≡ length sound → Going piece' sound' t.taken.progress (turns + 1)
    goes_on a b =
        record {
          so_far = so_far_on;
          few = x.few;
          piece_long = a ∙ g.piece_long;
          sound_long = b ∙ g.sound_long;
          kept = omega (arith, x.kept, g.kept, g.piece_long);
          gone = omega (arith, x.gone, g.gone, g.piece_long);
        }

    -- The report's count of bytes left has room.
    pub can_say : t.taken.progress.gone + t.taken.progress.held < 18446744073709551616
    can_say = omega (arith, x.few, x.gone, g.gone, g.piece_long, more)

    -- The report is that of the pieces that came: what is held at the end is left.
    pub tells : length piece' ≡ length piece →
        Tells (record { kept = t.taken.progress.kept; left = t.taken.progress.gone + t.taken.progress.held; stop = t.taken.progress.stop })
    tells a =
        let now = so_far_on in
        let long = length-take-le t.taken.progress.held piece' (omega (arith, a, g.piece_long, x.few)) in
        record {
          pieces = now.pieces;
          kept = ap (λ (q : SalvageProgress). q.kept) now.made;
          left =
              ap (λ (n : ℕ). t.taken.progress.gone + n) (sym long)
              ∙ ap (λ (q : SalvageProgress). q.gone + length q.held) now.made;
          stop = ap (λ (q : SalvageProgress). q.stop) now.made;
        }
