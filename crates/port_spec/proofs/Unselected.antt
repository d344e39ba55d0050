-- "An unselected byte is ignored in a write": two writes whose words agree on the selected bytes are one access in all that they do.
use Prim.Native.Nat.{ℕ}
use mathlib.Core.Path.{◌≡◌}
use mathlib.Core.List.{List}
use Rattle.registers.specs.declared.Registers.{Registers}
use Rattle.registers.proofs.Unselected.{AgreeOn, written_alike}
use Rattle.port_spec.specs.Host.{begin_access, access, access_memory}
use Rattle.port_spec.specs.declared.Access.TheVariants.{Write}

module _ (lanes v w : ℕ) (e : AgreeOn lanes v w) where
  begun_alike : (r : Registers) (k : ℕ) → begin_access r (Write k lanes v) ≡ begin_access r (Write k lanes w)
  unfolding begin_access
  begun_alike r k = rw (written_alike lanes v w e r k)

  -- An unselected byte of the written word changes neither the outcome nor the memory, whatever the register, done or refused.
  pub unselected_ignored : (r : Registers) (m : List ℕ) (k : ℕ) →
      (access r m (Write k lanes v) ≡ access r m (Write k lanes w)) ×
      (access_memory r m (Write k lanes v) ≡ access_memory r m (Write k lanes w))
  unfolding access access_memory
  unselected_ignored r m k = (rw (begun_alike r k), rw (begun_alike r k))
