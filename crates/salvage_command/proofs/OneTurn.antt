-- What a whole turn leaves: a piece came behind the bytes that were held, and it is taken.
use Prim.Native.Nat.{ℕ, ◌-◌, ◌≤◌}
use native.Mathlib.Omega.{arith}
use mathlib.Core.Path.{◌≡◌, ap, ◌∙◌}
use mathlib.Core.Bool.{Bool}
use mathlib.Core.List.{List}
use lib.Dec.{ltb}
use lib.ListN.{length, take, drop, length-drop}
use lib.Seq.{length-take-le, take-take}
use Rattle.salvage_spec.specs.Pieces.{piece_taken, piece_written}
use Rattle.salvage_command.specs.Turning.{Took, SalvagedTurn}
use Rattle.salvage_command.specs.declared.pieces.Progress.{Progress}
use Rattle.salvage_command.specs.declared.pieces.Taken.{Taken}
use Rattle.salvage_command.proofs.OnePiece.{by_parts}

-- Where the bytes that were held stayed, and the bytes at hand are taken, that is a whole turn: what came is what stands behind those that
-- were held.
pub turn_taken : (p : Progress) (piece filled : List ℕ) (all : ℕ) {t : Taken} {piece' sound' : List ℕ} {more : Bool} →
    p.held ≤ all → all ≤ length filled → length filled ≡ length piece → take p.held filled ≡ take p.held piece →
    Took p (take all filled) t piece' sound' → more ≡ ltb 0 (all - p.held) →
    SalvagedTurn p piece (record { taken = t; more = more }) piece' sound'
turn_taken p piece filled all h k same front x m =
    let long = length-take-le all filled k in
    let behind = length-drop p.held (take all filled) in
    let came = drop p.held (take all filled) in
    let held = take-take p.held all filled h ∙ front in
    let whole : all - p.held ≡ length came = omega (arith, long, behind) in
    record {
      came = came;
      progress = x.progress ∙ ap (λ (l : List ℕ). piece_taken (by_parts p.kept l p.gone p.stop) came) held;
      written = x.written ∙ ap (λ (l : List ℕ). piece_written (by_parts p.kept l p.gone p.stop) came) held;
      fits = x.fits;
      more = m ∙ ap (ltb 0) whole;
      few = x.few;
      kept = omega (arith, x.kept, long, same);
      gone = omega (arith, x.gone, long, same);
    }
