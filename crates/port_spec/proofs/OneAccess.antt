-- One access as the code does it, and as a run of accesses takes it.
use Prim.Native.Nat.{ℕ}
use mathlib.Core.Path.{◌≡◌, ap}
use mathlib.Core.List.{List}
use Rattle.registers.specs.declared.Registers.{Registers}
use Rattle.port_spec.specs.Host.{Accessed}
use Rattle.port_spec.specs.Sequences.{machine, answer_of, after}
use Rattle.port_spec.specs.declared.Access.{Access}
use Rattle.port_spec.specs.declared.Outcome.{Outcome}

module _ {r : Registers} {m : List ℕ} {a : Access} {o : Outcome} {m' : List ℕ} (e : Accessed r m a o m') where
  -- What an access leaves by its contract is the machine that comes after it.
  pub leaves : machine o.registers m' ≡ after (machine r m) a
  unfolding after
  leaves = rw (e.outcome, e.memory)

  -- What an access answers by its contract is what the machine answers.
  pub says : o.answer ≡ answer_of (machine r m) a
  unfolding answer_of
  says = ap (λ (p : Outcome). p.answer) e.outcome
