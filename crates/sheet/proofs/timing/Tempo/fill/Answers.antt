-- `sheet::timing::Tempo::fill` meets its contract: before stroke k the places are the times of the strokes before it, then what they were.
use Prim.Native.Nat.{ℕ, ◌+◌, ◌≤◌, ◌<◌}
use native.Mathlib.Omega.{arith}
use mathlib.Core.Path.{◌≡◌, refl, ap, ◌∙◌}
use mathlib.Core.List.{List, ◌++◌}
use lib.Ieee.{Float}
use lib.ListN.{length, take, drop, set}
use Rattle.std.proofs.Common.{length-take}
use Rattle.std.proofs.lemmas.List.{append-nil, drop_all}
use Rattle.tempo_spec.specs.Tempo.{even_time, even_times}
use Rattle.tempo_spec.proofs.Times.{times_more}
use Rattle.sheet.proofs.timing.Tempo.fill.Invariants.{Filling}
use Rattle.sheet.proofs.timing.Tempo.fill.Goals as goal

begun : (list : List Float) (first last strokes : ℕ) → strokes ≤ length list →
    Filling (take strokes list) first last strokes (take strokes list) 0
unfolding even_times
begun list first last strokes h = record { room = simp length-take (omega arith); most = omega arith; filled = refl }

-- one time more
turned : {places₀ places : List Float} {first last strokes k : ℕ} → Filling places₀ first last strokes places k → k < strokes →
    {t : Float} → t ≡ even_time first last strokes k → Filling places₀ first last strokes (set places k t) (k + 1)
turned {places₀} {places} {first} {last} {strokes} {k} f more e =
    record {
      room = f.room;
      most = omega arith;
      filled = rw (f.filled, e) (times_more first last strokes k places₀ (omega (arith, f.room)));
    }

-- all of them
ended : {places₀ places : List Float} {first last strokes k : ℕ} → Filling places₀ first last strokes places k → length places₀ ≤ k →
    places ≡ even_times first last strokes strokes
ended {places₀} {places} {first} {last} {strokes} {k} f all =
    let e : k ≡ strokes = omega (arith, f.room, f.most) in
    f.filled ∙
    ap (λ (rest : List Float). even_times first last strokes k ++ rest) (drop_all k places₀ all) ∙
    append-nil (even_times first last strokes k) ∙
    ap (even_times first last strokes) e

pub loop-k-init : goal.loop-k-init
loop-k-init c = begun _ _ _ _ c.requires

pub loop-k-preserved : goal.loop-k-preserved
loop-k-preserved c = turned c.loop-k.invariant (omega (arith, c.loop-k.invariant.room)) c.time_of.ensures

pub returns : goal.returns
returns c =
    let a = c.args in
    ap (λ (times : List Float). times ++ drop a.self.strokes a.list.now) (ended c.loop-k.invariant c.loop-k-test.false)
