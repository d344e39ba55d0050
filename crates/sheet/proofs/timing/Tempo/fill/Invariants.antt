-- `sheet::timing::Tempo::fill` meets its contract: before stroke k the places are the times of the strokes before it, then what they were.
use Prim.Native.Nat.{ℕ, ◌≤◌}
use mathlib.Core.Path.{◌≡◌}
use mathlib.Core.List.{List, ◌++◌}
use lib.Ieee.{Float}
use lib.ListN.{length, drop}
use Rattle.tempo_spec.specs.Tempo.{even_times}
use Rattle.sheet.proofs.timing.Tempo.fill.Given as goal

pub record Filling (places₀ : List Float) (first last strokes : ℕ) (places : List Float) (k : ℕ) : Type 0 where
  pub room : length places₀ ≡ strokes
  pub most : k ≤ strokes
  pub filled : places ≡ even_times first last strokes k ++ drop k places₀

abbrev pub invariant-loop-k : goal.invariant-loop-k
invariant-loop-k l = Filling l.initial.time-items l.self.first l.self.last l.self.strokes l.time-items l.k
