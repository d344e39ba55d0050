-- Any two outcomes that the contract of a piece allows are one.
use Prim.Native.Nat.{ℕ}
use mathlib.Core.Path.{◌≡◌, sym, ◌∙◌}
use mathlib.Core.List.{List}
use Rattle.registers.specs.declared.Registers.{Registers}
use Rattle.listing.specs.Listing.{ListedPiece}
use Rattle.listing.specs.declared.Listed.{Listed}

-- A piece of input has one outcome, and leaves one memory and one output.
pub one_listed : {r : Registers} {m input out m' m'' out' out'' : List ℕ} {o p : Listed} →
    ListedPiece r m input out o m' out' → ListedPiece r m input out p m'' out'' → (o ≡ p) × (m' ≡ m'') × (out' ≡ out'')
one_listed x y = (x.outcome ∙ sym y.outcome, x.memory ∙ sym y.memory, x.output ∙ sym y.output)
