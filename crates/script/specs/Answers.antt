-- A line of the output: src/lib.rt, 'What is printed'.
--   digits n v             the last n digits of v
--   number n v             a space and they
--   counted, bus_number    a mark as a number; the bus as a number
--   state_text, line_of    the state after a call, and the whole line
--   with_line l letter d   that line in the place l, "of exactly 47 bytes"
--   Laid at line text end line'   a text was laid down in a line, from one place up to another
use Rattle.std.specs.Prelude.{ℕ, zero, suc, ◌+◌, ◌*◌, ◌/◌, Bool, cond, List, [], ◌∷◌, ◌++◌, ◌≡◌, eqb, length, take}
use Rattle.digits.specs.Digits.{digit_for}
use Rattle.bus.specs.declared.Bus.{Bus}
use Rattle.script.specs.declared.State.{State}
use Rattle.script.specs.declared.Done.{Done}

-- "in upper-case hexadecimal digits"
unfoldable pub digits : ℕ → ℕ → List ℕ
digits zero v = []
digits (suc n) v = digits n (v / 16) ++ (digit_for v ∷ [])

-- "After each space a number"
abbrev pub number : ℕ → ℕ → List ℕ
number n v = 0x20 ∷ digits n v

abbrev pub counted : Bool → ℕ
counted mark = cond mark 1 0

-- "bit s set: source s waits"
unfoldable pub bus_number : Bus → ℕ
bus_number b =
    counted b.hold + 2 * counted b.screen + 4 * counted b.dram + 8 * counted b.host
    + 16 * counted b.processor

-- "the pointer, eight digits; HSTDATA, four; HSTCTL as the record holds it, bit 10 too, four; the hollow mark, 0 or 1; the bus,
-- two digits"
unfoldable pub state_text : State → List ℕ
state_text s =
    number 8 s.registers.pointer.0
    ++ (number 4 s.registers.latch
    ++ (number 4 s.registers.control
    ++ (number 1 (counted s.registers.hollow)
    ++ number 2 (bus_number s.bus))))

-- "the letter; the number returned, two digits; x, eight digits, and y, eight digits; then the state after the call; a line feed"
unfoldable pub line_of : ℕ → Done → List ℕ
line_of letter d =
    (letter ∷ [])
    ++ (number 2 d.number
    ++ (number 8 d.x
    ++ (number 8 d.y
    ++ (state_text d.state
    ++ (0x0a ∷ [])))))

unfoldable pub with_line : List ℕ → ℕ → Done → List ℕ
with_line l letter d = cond (eqb (length l) 47) (line_of letter d) l

pub record Laid (at : ℕ) (line text : List ℕ) (end : ℕ) (line' : List ℕ) : Type 0 where
  pub laid : take end line' ≡ take at line ++ text
