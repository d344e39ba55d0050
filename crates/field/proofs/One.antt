-- Any two outcomes that a statement allows are one. The functions that are lent nothing to change state one equation each, and
-- `one_value` of crate words is their law.
use Prim.Native.Nat.{ℕ}
use mathlib.Core.Path.{◌≡◌}
use mathlib.Core.List.{List}
use Rattle.words.specs.declared.BitAddress.{BitAddress}
use Rattle.words.proofs.One.{one_value}
use Rattle.field.specs.Parts.{Scattered}

-- Putting in a field that was accepted has one outcome. (`one_put_in` of crate `field_spec` says so of the whole call.)
pub one_scattered : {m m' m'' : List ℕ} {a : BitAddress} {n v c d : ℕ} →
    Scattered m a n v c m' → Scattered m a n v d m'' → (c ≡ d) × (m' ≡ m'')
one_scattered p q = (one_value p.count q.count, one_value p.memory q.memory)
