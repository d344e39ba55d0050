-- An answer to a line of text: document 01, 'Blocks and the two doors', "(number, word, hollow or held, cycle)".
--   number_text    the number and the word
--   shows_mark     whether a line tells the hollow mark
--   mark_text      that mark, between its spaces: hollow_mark, held_mark or no_mark
--   cycle_text     the cycle, with the line feed
--   answer_text    the whole line
--   bad_line       what a bad line prints
use Rattle.std.specs.Prelude.{ℕ, ◌+◌, ◌/◌, Bool, false, cond, ◌&&◌, List, [], ◌∷◌, ◌++◌, eqb}
use Rattle.port_spec.specs.declared.Access.{Access}
use Rattle.port_spec.specs.declared.Access.TheVariants.{Read, Write}
use Rattle.port_spec.specs.declared.Answer.{Answer}
use Rattle.port_spec.specs.declared.Cycle.{Cycle}
use Rattle.port_spec.specs.declared.Cycle.TheVariants.{None, Inside, Empty}
use Rattle.digits.specs.Digits.{digit_for}

-- the number's digit (a host's answer has no number above 3), a space, the word's four digits, upper-case (ours)
unfoldable pub number_text : ℕ → ℕ → List ℕ
number_text number w =
    (48 + number) ∷ 32 ∷ digit_for (w / 4096) ∷ digit_for (w / 256) ∷ digit_for (w / 16) ∷ digit_for w ∷ []

-- "accepted reads of register 2 print `held` or `hollow`, all other lines `-`"
unfoldable pub shows_mark : Access → ℕ → Bool
shows_mark (Read register lanes) number = eqb register 2 && eqb number 0
shows_mark (Write register lanes w) number = false

-- " hollow "
abbrev pub hollow_mark : List ℕ
hollow_mark = 32 ∷ 104 ∷ 111 ∷ 108 ∷ 108 ∷ 111 ∷ 119 ∷ 32 ∷ []

-- " held "
abbrev pub held_mark : List ℕ
held_mark = 32 ∷ 104 ∷ 101 ∷ 108 ∷ 100 ∷ 32 ∷ []

-- " - "
abbrev pub no_mark : List ℕ
no_mark = 32 ∷ 45 ∷ 32 ∷ []

unfoldable pub mark_text : Bool → Bool → List ℕ
mark_text shown hollow = cond shown (cond hollow hollow_mark held_mark) no_mark

-- "none", "in"; "An empty cycle prints `empty`"
unfoldable pub cycle_text : Cycle → List ℕ
cycle_text None = 110 ∷ 111 ∷ 110 ∷ 101 ∷ 10 ∷ []
cycle_text Inside = 105 ∷ 110 ∷ 10 ∷ []
cycle_text Empty = 101 ∷ 109 ∷ 112 ∷ 116 ∷ 121 ∷ 10 ∷ []

unfoldable pub answer_text : Access → Answer → List ℕ
answer_text a x =
    number_text x.number x.word ++
    (mark_text (shows_mark a x.number) x.hollow ++ cycle_text x.cycle)

-- "prints `bad line`", and a line feed (ours)
abbrev pub bad_line : List ℕ
bad_line = 98 ∷ 97 ∷ 100 ∷ 32 ∷ 108 ∷ 105 ∷ 110 ∷ 101 ∷ 10 ∷ []
