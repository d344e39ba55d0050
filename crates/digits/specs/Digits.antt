-- Digits in text: document 01, 'Blocks and the two doors', "decimal digit, four upper-case hex digits". A text is a list of bytes.
--   is_decimal b    b is one of 0 to 9
--   decimal_of b    what it stands for
--   value_of b      what a digit 0 to 9 or A to F stands for; 16 for any other byte
--   is_hex b        b is one of these
--   decimal_value b, hex_value b   what a decimal digit, and a digit 0 to 9 or A to F, stands for; none for any other byte
--   digit_for n     the digit for n mod 16
use Rattle.std.specs.Prelude.{ℕ, ◌+◌, ◌-◌, ◌%◌, Bool, cond, ◌&&◌, nat_le, nat_lt, Option, None, Some}

-- '0' is 48, '9' 57
unfoldable pub is_decimal : ℕ → Bool
is_decimal b = nat_le 48 b && nat_le b 57

abbrev pub decimal_of : ℕ → ℕ
decimal_of b = b - 48

-- 'A' is 65, 'F' 70
unfoldable pub value_of : ℕ → ℕ
value_of b =
    cond (is_decimal b) (decimal_of b)
    (cond (nat_le 65 b && nat_le b 70) (b - 55) 16)

abbrev pub is_hex : ℕ → Bool
is_hex b = nat_lt (value_of b) 16

unfoldable pub decimal_value : ℕ → Option ℕ
decimal_value b = cond (is_decimal b) (Some (decimal_of b)) None

unfoldable pub hex_value : ℕ → Option ℕ
hex_value b = cond (is_hex b) (Some (value_of b)) None

unfoldable pub digit_for : ℕ → ℕ
digit_for n = cond (nat_lt (n % 16) 10) (48 + n % 16) (55 + n % 16)
