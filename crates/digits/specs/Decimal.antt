-- A number in decimal: document 02, request (iii), "a fifth column in decimal". A text is a list of bytes.
--   decimal_text n     the digits of n, the highest first, without a leading zero
--   decimal_read t     the number that the digits of a text stand for, in decimal
--   IsDecimalText t    t has decimal digits alone, one at the least, and begins with 0 only where it is 0 itself
use Rattle.std.specs.Prelude.{◌≡◌, ℕ, zero, suc, ◌+◌, ◌*◌, ◌/◌, ◌%◌, ◌≤◌, true, cond, List, [], ◌∷◌, ◌++◌, length, nat_lt, slice_index_or}
use Rattle.digits.specs.Digits.{is_decimal, decimal_of}

-- a number below 10 is one digit; any other the digits of its tenth part, and behind them that of the remainder; at most k of them
unfoldable pub digits_within : ℕ → ℕ → List ℕ
digits_within zero n = []
digits_within (suc k) n = cond (nat_lt n 10) ((48 + n) ∷ []) (digits_within k (n / 10) ++ ((48 + n % 10) ∷ []))

-- any number below 2^32 has ten digits at most
abbrev pub decimal_text : ℕ → List ℕ
decimal_text n = digits_within 10 n

-- ---- the way back

-- a digit behind those that make n
abbrev pub read_behind : ℕ → List ℕ → ℕ
read_behind n [] = n
read_behind n (b ∷ t) = read_behind (n * 10 + decimal_of b) t

abbrev pub decimal_read : List ℕ → ℕ
decimal_read t = read_behind 0 t

-- ---- which texts are a number in decimal

abbrev pub AllDecimal : List ℕ → Type 0
AllDecimal [] = Unit
AllDecimal (b ∷ t) = (is_decimal b ≡ true) × AllDecimal t

pub record IsDecimalText (t : List ℕ) : Type 0 where
  pub digits : AllDecimal t
  pub some : 1 ≤ length t
  pub no_leading_zero : slice_index_or t 0 0 ≡ 48 → length t ≡ 1
