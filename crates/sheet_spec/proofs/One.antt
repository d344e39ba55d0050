-- Any two outcomes that the statement of a sheet allows are one.
use Prim.Native.Nat.{ℕ}
use mathlib.Core.Path.{◌≡◌}
use mathlib.Core.List.{List}
use lib.Ieee.{Float}
use Rattle.words.specs.declared.BitAddress.{BitAddress}
use Rattle.words.proofs.One.{one_value}
use Rattle.registers.specs.declared.Registers.{Registers}
use Rattle.sheet_spec.specs.Sheet.{Struck}
use Rattle.sheet_spec.specs.declared.Sheet.{Sheet}
use Rattle.sheet_spec.specs.declared.TimeStruck.{TimeStruck}

-- A sheet has one outcome.
pub one_struck : {r : Registers} {m : List ℕ} {a : BitAddress} {rule : ℕ} {t : TimeStruck} {l : List Float}
    {o p : Sheet} {m' m'' : List ℕ} {l' l'' : List Float} →
    Struck r m a rule t l o m' l' → Struck r m a rule t l p m'' l'' → (o ≡ p) × (m' ≡ m'') × (l' ≡ l'')
one_struck p q =
    (one_value p.outcome q.outcome, one_value p.memory q.memory, one_value p.list q.list)
