-- `portlist::list` meets its contract: at each turn registers, memory and line begun are those of the pieces that came; the line begun
-- stays short, so that a read has room.
use Prim.Native.Nat.{ℕ, ◌≤◌}
use mathlib.Core.List.{List}
use lib.ListN.{take}
use Rattle.portlist.specs.Turning.{SoFar}
use Rattle.portlist.specs.declared.Turn.{Turn}
use Rattle.portlist.proofs.list.Given as goal

pub record Kept (memory input : List ℕ) (t : Turn) : Type 0 where
  pub so_far : SoFar t.registers memory (take t.have input)
  pub begun : t.have ≤ 31

abbrev pub invariant-loop : goal.invariant-loop
invariant-loop l = Kept l.memory l.input l.turn
