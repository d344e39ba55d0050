-- The number of a cycle tells which it was, and has two bits.
use Prim.Native.Nat.{◌<◌}
use native.Mathlib.Omega.{arith}
use mathlib.Core.Path.{◌≡◌, refl}
use mathlib.Core.Logic.{◌↔◌}
use Rattle.port_spec.specs.Cycle.{cycle_number}
use Rattle.port_spec.specs.declared.Cycle.{Cycle}
use Rattle.port_spec.specs.declared.Cycle.TheVariants.{None, Inside, Empty}

-- The number of a cycle tells which it was.
pub record CycleTold (c : Cycle) : Type 0 where
  pub none : cycle_number c ≡ 0 ↔ c ≡ None
  pub inside : cycle_number c ≡ 1 ↔ c ≡ Inside
  pub empty : cycle_number c ≡ 2 ↔ c ≡ Empty

-- Each cycle has its own number: 0 none, 1 inside, 2 empty.
pub cycle_told : (c : Cycle) → CycleTold c
cycle_told None =
    record {
      none = (λ z. refl, λ z. refl);
      inside = (λ z. absurd (omega arith), λ z. cc);
      empty = (λ z. absurd (omega arith), λ z. cc);
    }
cycle_told Inside =
    record {
      none = (λ z. absurd (omega arith), λ z. cc);
      inside = (λ z. refl, λ z. refl);
      empty = (λ z. absurd (omega arith), λ z. cc);
    }
cycle_told Empty =
    record {
      none = (λ z. absurd (omega arith), λ z. cc);
      inside = (λ z. absurd (omega arith), λ z. cc);
      empty = (λ z. refl, λ z. refl);
    }

-- Two bits are enough for the number of a cycle.
pub cycle_below : (c : Cycle) → cycle_number c < 4
cycle_below None = omega arith
cycle_below Inside = omega arith
cycle_below Empty = omega arith
