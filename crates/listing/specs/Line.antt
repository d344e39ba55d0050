-- A line of text to an access: document 01, 'Blocks and the two doors', "lines `R reg lanes` and `W reg lanes hhhh` (decimal digit, four
-- upper-case hex digits, one space, line feed), at most 32 bytes each".
--   Line, line_of u          an access or bad; what a line u says, without its line feed
--   word_from                the word that four digits' values make
--   before_feed, has_feed    the bytes before a text's first line feed, and whether it has one
--   front_line t             the line that a text begins with
use Rattle.std.specs.Prelude.{ℕ, ◌+◌, ◌*◌, Bool, false, cond, ◌&&◌, ◌||◌, List, [], ◌∷◌, eqb, ltb, length, get_or}
use Rattle.digits.specs.Digits.{is_decimal, decimal_of, value_of, is_hex}
use Rattle.port_spec.specs.declared.Access.{Access}
use Rattle.port_spec.specs.declared.Access.TheVariants.{Read, Write}
use Rattle.listing.specs.declared.Front.{Front}
use Rattle.listing.specs.declared.Front.TheVariants.{Good, Bad, Open}

pub data Line : Type 0 where
  good : Access → Line
  bad : Line

abbrev pub byte : List ℕ → ℕ → ℕ
byte u k = get_or u k 0

abbrev pub digit : List ℕ → ℕ → ℕ
digit u k = decimal_of (byte u k)

abbrev pub hex : List ℕ → ℕ → ℕ
hex u k = value_of (byte u k)

-- a letter, "one space" (32), a "decimal digit", a space, a decimal digit
unfoldable pub headed : ℕ → List ℕ → Bool
headed letter u =
    eqb (byte u 0) letter &&
    (eqb (byte u 1) 32 && (is_decimal (byte u 2) && (eqb (byte u 3) 32 && is_decimal (byte u 4))))

-- then a space, "four upper-case hex digits"
unfoldable pub tailed : List ℕ → Bool
tailed u =
    eqb (byte u 5) 32 &&
    (is_hex (byte u 6) && (is_hex (byte u 7) && (is_hex (byte u 8) && is_hex (byte u 9))))

-- the word that four digits' values make, the highest first
abbrev pub word_from : ℕ → ℕ → ℕ → ℕ → ℕ
word_from a b c d = a * 4096 + b * 256 + c * 16 + d

abbrev pub read_in : List ℕ → Access
read_in u = Read (digit u 2) (digit u 4)

abbrev pub write_in : List ℕ → Access
write_in u = Write (digit u 2) (digit u 4) (word_from (hex u 6) (hex u 7) (hex u 8) (hex u 9))

-- `R reg lanes` ('R' is 82), `W reg lanes hhhh` ('W' is 87), or "A line of another shape"
unfoldable pub line_of : List ℕ → Line
line_of u =
    cond (eqb (length u) 5 && headed 82 u) (good (read_in u))
    (cond (eqb (length u) 10 && (headed 87 u && tailed u)) (good (write_in u)) bad)

-- ---- the line that a text begins with; the line feed is 10

unfoldable pub before_feed : List ℕ → List ℕ
before_feed [] = []
before_feed (b ∷ rest) = cond (eqb b 10) [] (b ∷ before_feed rest)

unfoldable pub has_feed : List ℕ → Bool
has_feed [] = false
has_feed (b ∷ rest) = eqb b 10 || has_feed rest

abbrev pub with_length : ℕ → Line → Front
with_length n (good a) = Good a n
with_length n bad = Bad

-- "at most 32 bytes each": 32 bytes without a line feed are a bad line already
unfoldable pub front_line : List ℕ → Front
front_line t =
    cond (has_feed t) (with_length (length (before_feed t) + 1) (line_of (before_feed t)))
    (cond (ltb 31 (length t)) Bad Open)
