-- What a record of a script says: crates/transcript_trial/src/main.rt, the table of 'A script'. Here it is the list of its bytes; those of
-- its string stand apart.
--   byte b k           byte k of the record b
--   number b k         number k of its lists
--   column b k         the list of six numbers from number k on
--   lists_in b         its four lists
--   is_read b          it calls the reader
--   string_lent b s    what is lent of the string s
--   string_back b s part   s when that comes back as part
--   lists_lent b l     what is lent of the four lists l
--   lists_returned b l part   l when these come back as part
use Rattle.std.specs.Prelude.{ℕ, ◌+◌, ◌*◌, ◌%◌, Bool, List, [], ◌∷◌, eqb, get_or}
use Rattle.words.specs.Lent.{lent, given_back}
use Rattle.transcript_spec.specs.Lists.{Lists, lists, lent_lists, lists_back}

abbrev pub byte : List ℕ → ℕ → ℕ
byte b k = get_or b k 0

-- "24 numbers of 32 bits, low byte first", from byte 8 on
abbrev pub number : List ℕ → ℕ → ℕ
number b k =
    byte b (8 + 4 * k) + 256 * byte b (8 + 4 * k + 1) + 65536 * byte b (8 + 4 * k + 2) + 16777216 * byte b (8 + 4 * k + 3)

abbrev pub column : List ℕ → ℕ → List ℕ
column b k = number b k ∷ number b (k + 1) ∷ number b (k + 2) ∷ number b (k + 3) ∷ number b (k + 4) ∷ number b (k + 5) ∷ []

-- "six kinds, six registers, six lanes, six words"
abbrev pub lists_in : List ℕ → Lists
lists_in b = lists (column b 0) (column b 6) (column b 12) (column b 18)

-- "the writer if it is even, the reader if it is odd"
abbrev pub is_read : List ℕ → Bool
is_read b = eqb (byte b 0 % 2) 1

-- "how many of the string's bytes are lent"
abbrev pub string_lent : List ℕ → List ℕ → List ℕ
string_lent b s = lent (byte b 1) s

abbrev pub string_back : List ℕ → List ℕ → List ℕ → List ℕ
string_back b s part = given_back (byte b 1) s part

-- "how many places of the lists of kinds, registers, lanes and words are lent"
abbrev pub lists_lent : List ℕ → Lists → Lists
lists_lent b l = lent_lists (byte b 2) (byte b 3) (byte b 4) (byte b 5) l

abbrev pub lists_returned : List ℕ → Lists → Lists → Lists
lists_returned b l part = lists_back (byte b 2) (byte b 3) (byte b 4) (byte b 5) l part
