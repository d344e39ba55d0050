-- Any two outcomes that a statement allows are one. The functions that are lent nothing to change state one equation each, and
-- `one_value` of crate words is their law.
use Prim.Native.Nat.{ℕ}
use mathlib.Core.Path.{◌≡◌}
use mathlib.Core.List.{List}
use Rattle.words.specs.declared.BitAddress.{BitAddress}
use Rattle.words.proofs.One.{one_value}
use Rattle.field_spec.specs.Answers.{PutIn}
use Rattle.field_spec.specs.declared.Put.{Put}

-- Putting in has one outcome.
pub one_put_in : {m m' m'' : List ℕ} {a : BitAddress} {n v : ℕ} {r s : Put} →
    PutIn m a n v r m' → PutIn m a n v s m'' → (r ≡ s) × (m' ≡ m'')
one_put_in p q = (one_value p.answer q.answer, one_value p.memory q.memory)
