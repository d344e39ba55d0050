-- `script::printing::put_digits`: the digits of the value are those of what is left of it, before those already laid down.
use Rattle.std.proofs.Common.{◌≡◌, ℕ, ◌-◌, ◌≤◌, List, ◌++◌, length, drop}
use Rattle.script.specs.Answers.{digits}
use Rattle.script.proofs.printing.put_digits.Given as goal

pub record Laid (value : ℕ) (places₀ places : List ℕ) (rest i : ℕ) : Type 0 where
  pub most : i ≤ length places₀
  pub room : length places ≡ length places₀
  pub laid : digits (length places₀) value ≡ digits i rest ++ drop i places

abbrev pub invariant-loop-i : goal.invariant-loop-i
invariant-loop-i l = Laid l.value l.initial.places l.places l.rest (length l.initial.places - l.i)
