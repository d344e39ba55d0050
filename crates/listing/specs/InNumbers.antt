-- The line that a text begins with, in numbers and in plain words. Document 01: "If an answer is an enum, a definition gives this paper's
-- number and values for each of the enum's cases. The promises use that definition".
--   bad_line_number    the number of a bad line
--   FrontNumbers       number, size of the line, and the access that it asks for: kind (0 read, 1 write), register, lanes, word
--   front_numbers x    those of what `front_line` answers
--   FrontAs t n        what these numbers say of a text
use Rattle.std.specs.Prelude.{ℕ, ◌<◌, ◌≤◌, ◌≡◌, List, ◌∷◌, ◌++◌, ◌≢◌, length}
use Rattle.port_spec.specs.declared.Access.{Access}
use Rattle.port_spec.specs.declared.Access.TheVariants.{Read, Write}
use Rattle.listing.specs.Pieces.{NoFeed}
use Rattle.listing.specs.Spelled.{line_text, Sayable}
use Rattle.listing.specs.declared.Front.{Front}
use Rattle.listing.specs.declared.Front.TheVariants.{Good, Bad, Open}

-- Document 01 has words for it, `bad line`, and no paper has a number: (ours) the next behind document 02's 26.
abbrev pub bad_line_number : ℕ
bad_line_number = 27

pub record FrontNumbers : Type 0 where
  pub number : ℕ
  pub size : ℕ
  pub kind : ℕ
  pub register : ℕ
  pub lanes : ℕ
  pub word : ℕ

-- "A refusal returns zeros"; a line that may go on is no refusal, and none of its bytes is used yet
abbrev pub front_numbers : Front → FrontNumbers
front_numbers (Good (Read register lanes) n) = record { number = 0; size = n; kind = 0; register = register; lanes = lanes; word = 0 }
front_numbers (Good (Write register lanes w) n) = record { number = 0; size = n; kind = 1; register = register; lanes = lanes; word = w }
front_numbers Bad = record { number = bad_line_number; size = 0; kind = 0; register = 0; lanes = 0; word = 0 }
front_numbers Open = record { number = 0; size = 0; kind = 0; register = 0; lanes = 0; word = 0 }

-- "lines `R reg lanes` and `W reg lanes hhhh` ..., at most 32 bytes each. A line of another shape .."
pub data FrontAs (t : List ℕ) : FrontNumbers → Type 0 where
  read_line : (r l : ℕ) (v : List ℕ) → Sayable (Read r l) → t ≡ line_text (Read r l) ++ 10 ∷ v →
      FrontAs t (record { number = 0; size = 6; kind = 0; register = r; lanes = l; word = 0 })
  write_line : (r l w : ℕ) (v : List ℕ) → Sayable (Write r l w) → t ≡ line_text (Write r l w) ++ 10 ∷ v →
      FrontAs t (record { number = 0; size = 11; kind = 1; register = r; lanes = l; word = w })
  bad_line : (u v : List ℕ) → NoFeed u → t ≡ u ++ 10 ∷ v → ((a : Access) → Sayable a → u ≢ line_text a) →
      FrontAs t (record { number = 27; size = 0; kind = 0; register = 0; lanes = 0; word = 0 })
  long_line : NoFeed t → 31 < length t → FrontAs t (record { number = 27; size = 0; kind = 0; register = 0; lanes = 0; word = 0 })
  open_line : NoFeed t → length t ≤ 31 → FrontAs t (record { number = 0; size = 0; kind = 0; register = 0; lanes = 0; word = 0 })
