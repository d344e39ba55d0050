-- A line of a script: src/lib.rt, 'A script'.
--   digits_from s at n        n digits stand in s from place at on
--   number_from s at n        the number that they say
--   has_number s at           a space and eight digits stand at a place
--   in_place_letter .. lent_letter, known   the letters, by what they are calls of
--   shaped, is_call           a line has the shape, and is a call
--   call_in s                 the call that it says
--   number_said s at          the number that stands at a place, if one does
--   line_in s                 what any bytes say: a call, or none
use Rattle.std.specs.Prelude.{ℕ, Option, Some, None, zero, suc, ◌+◌, ◌*◌, Bool, true, cond, ◌&&◌, ◌||◌, List, eqb, length, get_or}
use Rattle.digits.specs.Digits.{value_of, is_hex}
use Rattle.script.specs.declared.Call.{Call}

-- "upper-case hexadecimal digits"
unfoldable pub digits_from : List ℕ → ℕ → ℕ → Bool
digits_from s at zero = true
digits_from s at (suc n) = digits_from s at n && is_hex (get_or s (at + n) 0)

unfoldable pub number_from : List ℕ → ℕ → ℕ → ℕ
number_from s at zero = 0
number_from s at (suc n) = number_from s at n * 16 + value_of (get_or s (at + n) 0)

-- "each a space and eight upper-case hexadecimal digits"
unfoldable pub has_number : List ℕ → ℕ → Bool
has_number s at = eqb (get_or s at 0) 0x20 && digits_from s (at + 1) 8

abbrev pub number_said : List ℕ → ℕ → Option ℕ
number_said s at = cond (has_number s at) (Some (number_from s (at + 1) 8)) None

-- ---- the letters

-- H, K
unfoldable pub in_place_letter : ℕ → Bool
in_place_letter l = eqb l 0x48 || eqb l 0x4b

-- R, W; H, K
unfoldable pub host_letter : ℕ → Bool
host_letter l = (eqb l 0x52 || eqb l 0x57) || in_place_letter l

-- P, Q
unfoldable pub processor_letter : ℕ → Bool
processor_letter l = eqb l 0x50 || eqb l 0x51

-- T, S, F
unfoldable pub field_letter : ℕ → Bool
field_letter l = eqb l 0x54 || (eqb l 0x53 || eqb l 0x46)

-- A, B, C
unfoldable pub bus_letter : ℕ → Bool
bus_letter l = eqb l 0x41 || (eqb l 0x42 || eqb l 0x43)

-- I, O
unfoldable pub block_letter : ℕ → Bool
block_letter l = eqb l 0x49 || eqb l 0x4f

-- N, L, G, Z
unfoldable pub setting_letter : ℕ → Bool
setting_letter l = (eqb l 0x4e || eqb l 0x4c) || (eqb l 0x47 || eqb l 0x5a)

-- M, J, D
unfoldable pub whole_letter : ℕ → Bool
whole_letter l = eqb l 0x4d || (eqb l 0x4a || eqb l 0x44)

-- of the calls that are lent nothing, and of those that are lent memory
unfoldable pub plain_letter : ℕ → Bool
plain_letter l = processor_letter l || (bus_letter l || setting_letter l)

unfoldable pub lent_letter : ℕ → Bool
lent_letter l = host_letter l || (field_letter l || block_letter l)

unfoldable pub known : ℕ → Bool
known l = plain_letter l || (whole_letter l || lent_letter l)

-- ---- a line

-- "a letter, then four numbers a, b, c and d, .. then a line feed"
unfoldable pub shaped : List ℕ → Bool
shaped s =
    (has_number s 1 && has_number s 10)
    && ((has_number s 19 && has_number s 28) && eqb (get_or s 37 0) 0x0a)

-- "lines of exactly 38 bytes", "an unknown letter included"
unfoldable pub is_call : List ℕ → Bool
is_call s = eqb (length s) 38 && (known (get_or s 0 0) && shaped s)

unfoldable pub call_in : List ℕ → Call
call_in s =
    record {
      letter = get_or s 0 0;
      a = number_from s 2 8;
      b = number_from s 11 8;
      c = number_from s 20 8;
      d = number_from s 29 8;
    }

abbrev pub line_in : List ℕ → Option Call
line_in s = cond (is_call s) (Some (call_in s)) None
