-- `sheet::reading::read_ticks` meets its contract: after i turns machine, mark and the first i places are those of i reads.
use Prim.Native.Nat.{ℕ, ◌≤◌}
use mathlib.Core.Path.{◌≡◌}
use mathlib.Core.Bool.{Bool}
use mathlib.Core.List.{List}
use lib.ListN.{length, take}
use Rattle.registers.specs.declared.Registers.{Registers}
use Rattle.port_spec.specs.Sequences.{Machine, machine}
use Rattle.sheet.specs.Parts.{ReadTicks}
use Rattle.sheet.proofs.reading.read_ticks.Given as goal

pub record Reading (s : Machine) (ticks₀ m ticks : List ℕ) (q : Registers) (hollow : Bool) (i : ℕ) : Type 0 where
  pub most : i ≤ length ticks₀
  pub room : length ticks ≡ length ticks₀
  pub read : ReadTicks s i (record { registers = q; hollow = hollow }) m (take i ticks)

abbrev pub invariant-loop-tick : goal.invariant-loop-tick
invariant-loop-tick l = Reading (machine l.fn.r l.fn.memory) l.fn.ticks l.memory l.ticks l.q l.hollow l.tick-index
