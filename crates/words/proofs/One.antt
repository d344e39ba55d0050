-- Any two outcomes that a statement allows are one.
use Rattle.std.proofs.Common.{◌≡◌, ℕ, Bool, List, sym, ◌∙◌}
use Rattle.words.specs.Memory.{Stored}
use Rattle.words.specs.declared.WordNumber.{WordNumber}

-- A statement that is one equation, as that of every function that is lent nothing to change, allows one value.
pub one_value : {A : Type 0} {x r r' : A} → r ≡ x → r' ≡ x → r ≡ r'
one_value p q = p ∙ sym q

-- A store has one outcome.
pub one_stored : {m m' m'' : List ℕ} {n : WordNumber} {w : ℕ} {i j : Bool} →
    Stored m n w i m' → Stored m n w j m'' → (i ≡ j) × (m' ≡ m'')
one_stored p q = (one_value p.fell q.fell, one_value p.memory q.memory)
