-- What a record of a script says: crates/stream_trial/src/main.rt, the table of 'A script'. Here it is the list of its bytes.
--   byte b k           byte k of the record b
--   is_start b         it is a fresh start
--   delivers b         it is a delivery
--   number b           how many bytes the stream had already
--   started_at n       a stream that had so many, of whole good records
--   string_lent b      what is delivered of its string
--   blank_list, blank  a list, and the four of them, before each record
--   lists_lent b l     what is lent of the four lists l
--   lists_returned b l part   l when these come back as part
use Rattle.std.specs.Prelude.{ℕ, ◌+◌, ◌*◌, ◌%◌, min, Bool, false, List, [], ◌∷◌, eqb, take, drop, get_or}
use Rattle.transcript_spec.specs.Lists.{Lists, lists, lent_lists, lists_back}
use Rattle.transcript_spec.specs.Reading.{fresh}
use Rattle.stream_spec.specs.declared.Stream.{Stream}

abbrev pub byte : List ℕ → ℕ → ℕ
byte b k = get_or b k 0

-- "what is done, modulo 3: 0 a fresh start, 1 a delivery"
abbrev pub is_start : List ℕ → Bool
is_start b = eqb (byte b 0 % 3) 0

abbrev pub delivers : List ℕ → Bool
delivers b = eqb (byte b 0 % 3) 1

-- "32 bits, low byte first"
abbrev pub number : List ℕ → ℕ
number b = byte b 8 + 256 * byte b 9 + 65536 * byte b 10 + 16777216 * byte b 11

-- "`from` and `taken` begin with that number"
abbrev pub started_at : ℕ → Stream
started_at n = record { part = fresh; from = n; taken = n; ended = false }

-- "bytes 12 to 35"; "how many of the string's bytes are delivered; above 24 it counts as 24"
abbrev pub string_lent : List ℕ → List ℕ
string_lent b = take (min (byte b 1) 24) (drop 12 b)

-- "every place of the four lists, six places each, holds EEEEEEEEh"
abbrev pub blank_list : List ℕ
blank_list = 0xEEEEEEEE ∷ 0xEEEEEEEE ∷ 0xEEEEEEEE ∷ 0xEEEEEEEE ∷ 0xEEEEEEEE ∷ 0xEEEEEEEE ∷ []

abbrev pub blank : Lists
blank = lists blank_list blank_list blank_list blank_list

-- "how many places of the lists of kinds, registers, lanes and words are lent"
abbrev pub lists_lent : List ℕ → Lists → Lists
lists_lent b l = lent_lists (byte b 2) (byte b 3) (byte b 4) (byte b 5) l

abbrev pub lists_returned : List ℕ → Lists → Lists → Lists
lists_returned b l part = lists_back (byte b 2) (byte b 3) (byte b 4) (byte b 5) l part
