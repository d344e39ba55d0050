-- `sheet_trial::carrying::lay_words` meets its contract: after k turns the first k words are laid.
use Prim.Native.Nat.{ℕ, ◌<◌}
use mathlib.Core.Path.{◌≡◌}
use mathlib.Core.List.{List}
use lib.ListN.{length}
use Rattle.sheet_trial.specs.Record.{number}
use Rattle.sheet_trial.specs.CarriedOut.{laid}
use Rattle.sheet_trial.proofs.carrying.lay_words.Given as goal

pub record Laying (b room₀ : List ℕ) (first : ℕ) (room : List ℕ) (k : ℕ) : Type 0 where
  pub from : first ≡ number b 17
  pub small : first < 65536
  pub long : length room ≡ length room₀
  pub done : room ≡ laid b room₀ k

abbrev pub invariant-loop-k : goal.invariant-loop-k
invariant-loop-k l = Laying l.fn.bytes l.fn.room l.first l.room l.k
