-- The line that asks for an access: what a good line is, said the other way round.
--   line_text a    the bytes of that line, without its line feed
--   Sayable a      an access that a line can ask for: one digit for the register, one for the lanes
--   lines_of, answers_of   the lines of a list of accesses, and those of their answers
use Rattle.std.specs.Prelude.{ℕ, ◌+◌, ◌/◌, ◌<◌, List, [], ◌∷◌, ◌++◌}
use Rattle.port_spec.specs.Sequences.{Machine, after, answer_of}
use Rattle.port_spec.specs.declared.Access.{Access}
use Rattle.port_spec.specs.declared.Access.TheVariants.{Read, Write}
use Rattle.digits.specs.Digits.{digit_for}
use Rattle.listing.specs.Answer.{answer_text}

-- `R reg lanes` and `W reg lanes hhhh`
abbrev pub line_text : Access → List ℕ
line_text (Read register lanes) = 82 ∷ 32 ∷ (48 + register) ∷ 32 ∷ (48 + lanes) ∷ []
line_text (Write register lanes w) =
    87 ∷ 32 ∷ (48 + register) ∷ 32 ∷ (48 + lanes) ∷ 32 ∷
    digit_for (w / 4096) ∷ digit_for (w / 256) ∷ digit_for (w / 16) ∷ digit_for w ∷ []

abbrev pub Sayable : Access → Type 0
Sayable (Read register lanes) = (register < 10) × (lanes < 10)
Sayable (Write register lanes w) = (register < 10) × (lanes < 10) × (w < 65536)

-- ---- lists of accesses

-- a line each
unfoldable pub lines_of : List Access → List ℕ
lines_of [] = []
lines_of (a ∷ rest) = line_text a ++ (10 ∷ []) ++ lines_of rest

abbrev pub AllSayable : List Access → Type 0
AllSayable [] = Unit
AllSayable (a ∷ rest) = Sayable a × AllSayable rest

-- the answers of these accesses, one after the other, a line each
unfoldable pub answers_of : Machine → List Access → List ℕ
answers_of s [] = []
answers_of s (a ∷ rest) = answer_text a (answer_of s a) ++ answers_of (after s a) rest
