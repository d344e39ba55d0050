-- `sheet::sheets::take_ticks` meets its contract: the ticks are judged, and their first and last give the times.
use Prim.Native.Nat.{ℕ, ◌≤◌}
use native.Mathlib.Omega.{arith}
use mathlib.Core.Path.{◌≡◌, refl}
use lib.ListN.{length, take, replicate}
use Rattle.std.proofs.Common.{length-take}
use Rattle.words.proofs.RefusalNumbers.{none_is_0}
use Rattle.sheet.proofs.TicksTaken.{ticks_refused, first_then_last, ticks_taken}
use Rattle.sheet.proofs.sheets.take_ticks.Goals as goal

-- the room has a place for each stroke
places : (n : ℕ) → n ≤ 32 → length {A = ℕ} (take n (replicate 32 0)) ≡ n
places n few = simp length-take (omega arith)

pub returns-in-Err : goal.returns-in-Err
returns-in-Err c =
    let read = rw (places c.args.strokes.count c.args.strokes.few.1) at c.read_ticks-run.ensures in
    rw c.refuse.ensures (ticks_refused read _ c.in-Err.ensures (none_is_0 c.in-Err.refusal) _ _)

pub invariant_of-tempo : goal.invariant_of-tempo
invariant_of-tempo c =
    let read = rw (places c.args.strokes.count c.args.strokes.few.1) at c.read_ticks-run.ensures in
    record { in_order = first_then_last read _ c.in_default.ensures refl c.args.strokes.few.0 }

pub returns : goal.returns
returns c =
    let read = rw (places c.args.strokes.count c.args.strokes.few.1) at c.read_ticks-run.ensures in
    ticks_taken read _ c.in_default.ensures refl _ _ _ c.fill.ensures
