-- `sheet_trial::turns::run` meets its contract: after each turn some records are carried out.
use Prim.Native.Nat.{ℕ}
use mathlib.Core.Path.{◌≡◌}
use mathlib.Core.List.{List}
use lib.Ieee.{Float}
use lib.ListN.{length}
use Rattle.sheet_trial.specs.Records.{Ran}
use Rattle.sheet_trial.proofs.turns.run.Given as goal

pub record Going (room₀ : List ℕ) (list₀ : List Float) (room : List ℕ) (list : List Float) : Type 0 where
  pub rooms : length room ≡ length room₀
  pub lists : length list ≡ length list₀
  pub ran : Ran room₀ list₀ room list

abbrev pub invariant-loop-bytes : goal.invariant-loop-bytes
invariant-loop-bytes l = Going l.fn.room l.fn.list l.room l.list
