-- The reader, byte by byte: document 02, request (ii).
--   none, with_group, grown   a number before its first group; what one group more makes of its value; the number with one byte more
--   entry_said h w            the entry of a record whose head is h and whose word is w
--   head_read, word_read      what a head, a word says when its last group is read
--   fresh                     before a record
--   byte_taken p b            what the byte b makes of the part p
--   Reading                   how far a transcript is read
--   at, fed, feed, feeds      such a reading, by its parts; with what a byte made; with one byte more; with a whole string more
--   start, cut_off, ended     before the first byte; the refusal of a part when nothing follows, or 0; that of a reading
--   entries_read, place_read, refusal_read   of a whole string: the entries before the first bad record, where that is, its refusal or 0
--   read_answer s room        what the reader answers of a string, lent lists for so many entries
--   lists_after s l           the lent lists afterwards
--   ReadTranscript            these, as the contract of the call
use Rattle.std.specs.Prelude.{ℕ, ◌+◌, ◌*◌, ◌/◌, ◌%◌, ◌≡◌, true, false, cond, List, [], ◌∷◌, ◌++◌, eqb, ltb, length}
use Rattle.transcript_spec.specs.Lists.{Lists, size, with_entries}
use Rattle.transcript_spec.specs.Writing.{refused, accepted_if_fits}
use Rattle.transcript_spec.specs.declared.Entry.{Entry}
use Rattle.transcript_spec.specs.declared.Number.{Number}
use Rattle.transcript_spec.specs.declared.Part.{Part}
use Rattle.transcript_spec.specs.declared.Part.TheVariants.{Head, Word}
use Rattle.transcript_spec.specs.declared.Step.{Step}
use Rattle.transcript_spec.specs.declared.Step.TheVariants.{Goes, Whole, Bad}
use Rattle.transcript_spec.specs.declared.Transcribed.{Transcribed}

-- ---- a number

abbrev pub none : Number
none = record { begun = false; padded = false; value = 0 }

-- "groups of seven bits, most significant group first". Numbers may be of any length (ours): one that is over every limit stays there
unfoldable pub with_group : ℕ → ℕ → ℕ
with_group v g = cond (ltb v 65536) (v * 128 + g) v

-- "leading zero group": the first byte is 80h, a group of 0 with the top bit set
abbrev pub grown : Number → ℕ → Number
grown n b =
    record {
      begun = true;
      padded = cond n.begun n.padded (eqb b 128);
      value = with_group n.value (b % 128);
    }

-- ---- a record

-- "The head is kind (0 read, 1 write) + 2 × register + 8 × lanes"
abbrev pub entry_said : ℕ → ℕ → Entry
entry_said h w = record { kind = h % 2; register = h / 2 % 4; lanes = h / 8; word = w }

-- "21 leading zero group, 22 head over 31 .., 23 lanes 0, the head being judged in this order before the word is read"
unfoldable pub head_read : Number → Step
head_read n =
    cond n.padded (Bad 21)
    (cond (ltb 31 n.value) (Bad 22)
    (cond (ltb n.value 8) (Bad 23)
    (cond (eqb (n.value % 2) 0) (Whole (entry_said n.value 0)) (Goes (Word n.value none)))))

-- "22 .. word over 65,535"
unfoldable pub word_read : ℕ → Number → Step
word_read h n = cond n.padded (Bad 21) (cond (ltb 65535 n.value) (Bad 22) (Whole (entry_said h n.value)))

abbrev pub fresh : Part
fresh = Head none

-- "the top bit set on all bytes but the last": a number is judged when its last byte is there (ours)
unfoldable pub byte_taken : Part → ℕ → Step
byte_taken (Head n) b = cond (ltb b 128) (head_read (grown n b)) (Goes (Head (grown n b)))
byte_taken (Word h n) b = cond (ltb b 128) (word_read h (grown n b)) (Goes (Word h (grown n b)))

-- ---- a transcript

-- got: the entries of the good records so far; from: where the record begins that is being read; next: where the next byte
-- stands; part: how far that record is read; refusal: that of the first bad record, or 0
pub record Reading : Type 0 where
  pub got : List Entry
  pub from : ℕ
  pub next : ℕ
  pub part : Part
  pub refusal : ℕ

abbrev pub at : List Entry → ℕ → ℕ → Part → ℕ → Reading
at got from next p n = record { got = got; from = from; next = next; part = p; refusal = n }

-- a whole record is kept, and the next one begins
abbrev pub fed : List Entry → ℕ → ℕ → Step → Reading
fed got from next (Goes p) = at got from next p 0
fed got from next (Whole e) = at (got ++ (e ∷ [])) next next fresh 0
fed got from next (Bad n) = at got from next fresh n

-- after the first bad record nothing moves
unfoldable pub feed : Reading → ℕ → Reading
feed a b = cond (eqb a.refusal 0) (fed a.got a.from (a.next + 1) (byte_taken a.part b)) a

unfoldable pub feeds : Reading → List ℕ → Reading
feeds a [] = a
feeds a (b ∷ rest) = feeds (feed a b) rest

abbrev pub start : Reading
start = at [] 0 0 fresh 0

-- "20 number cut off or missing": between two records nothing is missing (ours)
abbrev pub cut_off : Part → ℕ
cut_off (Head n) = cond n.begun 20 0
cut_off (Word h n) = 20

abbrev pub ended : Reading → ℕ
ended a = cond (eqb a.refusal 0) (cut_off a.part) a.refusal

-- ---- a whole string

abbrev pub entries_read : List ℕ → List Entry
entries_read s = (feeds start s).got

abbrev pub place_read : List ℕ → ℕ
place_read s = (feeds start s).from

abbrev pub refusal_read : List ℕ → ℕ
refusal_read s = ended (feeds start s)

-- "name the place of the first bad record (first byte for the reader ..)"; "24 list too small, exactly when all records are good
-- and the whole result doesn't fit"
unfoldable pub read_answer : List ℕ → ℕ → Transcribed
read_answer s room =
    cond (eqb (refusal_read s) 0) (accepted_if_fits (length (entries_read s)) room) (refused (refusal_read s) (place_read s))

-- "Both sides refuse with nothing written"
unfoldable pub lists_after : List ℕ → Lists → Lists
lists_after s l = cond (eqb (read_answer s (size l)).number 0) (with_entries (entries_read s) l) l

-- what the reader leaves: its answer, and the lists that it was lent
pub record ReadTranscript (s : List ℕ) (l : Lists) (o : Transcribed) (l' : Lists) : Type 0 where
  pub answer : o ≡ read_answer s (size l)
  pub lists : l' ≡ lists_after s l
