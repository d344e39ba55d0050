-- The format of a transcript in plain words, record by record: what the laws say of writer and reader. Document 02, request (ii).
--   Continued s           every byte of s has the top bit set
--   Spelled s             s is the bytes of one number: some with the top bit set, then one without
--   value_of s            the number that they spell, of any length
--   Padded s, Unpadded s  its first group is 0, and another follows; it is not so
--   Spells s v            s spells v, with no leading zero group
--   Good e, AllGood es    an entry that has a record; a list of them
--   OffLanes e            its lanes are not 1, 2 or 3
--   BadEntry e n          an entry that has none, and the number with which it is refused
--   first_places n l, later_places n l   the four lists: their first n places, and those after them
--   GoodRecord s e        s is a record, that of the entry e
--   Sound s es            s is good records one after another, those of the list es
--   WriteHead s           s is a good head, and a word must follow
--   BadHead, BadWord s n  a number that is a bad head, a bad word, and its refusal
--   BadRecord s n         the string s begins with a bad record, whose refusal is n
--   answer n count place  an answer, by its parts
--   Written, ReadAs       what the writer answers of a list, the reader of a string: each answer, when and only then
--   WroteAll, ReadAll     what an accepted writing, an accepted reading leaves
use Rattle.std.specs.Prelude.{ℕ, ◌+◌, ◌*◌, ◌%◌, ◌^◌, ◌<◌, ◌≤◌, ◌≡◌, List, [], ◌∷◌, ◌++◌, ◌⊎◌, ◌≢◌, length, take, drop, get_or}
use Rattle.transcript_spec.specs.Format.{transcript_of}
use Rattle.transcript_spec.specs.Lists.{Lists, lists, size, entries_in, columns}
use Rattle.transcript_spec.specs.Reading.{entries_read}
use Rattle.transcript_spec.specs.declared.Entry.{Entry}
use Rattle.transcript_spec.specs.declared.Transcribed.{Transcribed}

-- ---- numbers: "in groups of seven bits, most significant group first, the top bit set on all bytes but the last, no leading zero group"

abbrev pub Continued : List ℕ → Type 0
Continued [] = Unit
Continued (b ∷ rest) = (128 ≤ b) × Continued rest

pub record Spelled (s : List ℕ) : Type 0 where
  pub first : List ℕ
  pub last : ℕ
  pub all : s ≡ first ++ (last ∷ [])
  pub continued : Continued first
  pub ends : last < 128

-- the groups are digits to the base 128; a byte's group is its low seven bits
unfoldable pub value_of : List ℕ → ℕ
value_of [] = 0
value_of (b ∷ rest) = b % 128 * 128 ^ length rest + value_of rest

-- 80h has the top bit set and a group of 0
abbrev pub Padded : List ℕ → Type 0
Padded s = get_or s 0 0 ≡ 128

abbrev pub Unpadded : List ℕ → Type 0
Unpadded s = get_or s 0 0 ≢ 128

pub record Spells (s : List ℕ) (v : ℕ) : Type 0 where
  pub spelled : Spelled s
  pub unpadded : Unpadded s
  pub value : value_of s ≡ v

-- ---- entries

pub record Good (e : Entry) : Type 0 where
  pub kind : e.kind ≤ 1
  pub register : e.register ≤ 3
  pub a_lane : 1 ≤ e.lanes
  pub lanes : e.lanes ≤ 3
  pub word : e.word ≤ 65535
  pub read : e.kind ≡ 0 → e.word ≡ 0

abbrev pub AllGood : List Entry → Type 0
AllGood [] = Unit
AllGood (e ∷ rest) = Good e × AllGood rest

abbrev pub OffLanes : Entry → Type 0
OffLanes e = (e.lanes ≡ 0) ⊎ (3 < e.lanes)

-- "The writer tests 2, 3, then 22 (also for a kind over 1 or a read's word not 0)"
pub data BadEntry (e : Entry) : ℕ → Type 0 where
  no_register : 3 < e.register → BadEntry e 2
  no_lanes : e.register ≤ 3 → OffLanes e → BadEntry e 3
  long_word : e.register ≤ 3 → 1 ≤ e.lanes → e.lanes ≤ 3 → 65535 < e.word → BadEntry e 22
  no_kind : e.register ≤ 3 → 1 ≤ e.lanes → e.lanes ≤ 3 → 1 < e.kind → BadEntry e 22
  read_with_word : e.register ≤ 3 → 1 ≤ e.lanes → e.lanes ≤ 3 → e.kind ≡ 0 → e.word ≢ 0 → BadEntry e 22

-- the first places of each list, and those after them
abbrev pub first_places : ℕ → Lists → Lists
first_places n l = lists (take n l.kinds) (take n l.registers) (take n l.lanes) (take n l.words)

abbrev pub later_places : ℕ → Lists → Lists
later_places n l = lists (drop n l.kinds) (drop n l.registers) (drop n l.lanes) (drop n l.words)

-- ---- good records: "A record is a head, then for a write the word. The head is kind (0 read, 1 write) + 2 × register + 8 × lanes"

pub data GoodRecord : List ℕ → Entry → Type 0 where
  a_read : {s : List ℕ} {e : Entry} → Good e → e.kind ≡ 0 → Spells s (e.kind + 2 * e.register + 8 * e.lanes) → GoodRecord s e
  a_write : {h w : List ℕ} {e : Entry} → Good e → e.kind ≡ 1 → Spells h (e.kind + 2 * e.register + 8 * e.lanes) →
      Spells w e.word → GoodRecord (h ++ w) e

pub data Sound : List ℕ → List Entry → Type 0 where
  nothing : Sound [] []
  and_more : {r s : List ℕ} {e : Entry} {es : List Entry} → GoodRecord r e → Sound s es → Sound (r ++ s) (e ∷ es)

-- ---- bad records: "20 number cut off or missing, 21 leading zero group, 22 head over 31 or word over 65,535, 23 lanes 0, the head
-- being judged in this order before the word is read"

pub data BadHead (s : List ℕ) : ℕ → Type 0 where
  padded : Padded s → BadHead s 21
  over : Unpadded s → 31 < value_of s → BadHead s 22
  off_lanes : Unpadded s → value_of s < 8 → BadHead s 23

pub data BadWord (s : List ℕ) : ℕ → Type 0 where
  padded : Padded s → BadWord s 21
  over : Unpadded s → 65535 < value_of s → BadWord s 22

-- an odd head is a write's
pub record WriteHead (s : List ℕ) : Type 0 where
  pub head : ℕ
  pub says : Spells s head
  pub lanes : 8 ≤ head
  pub small : head ≤ 31
  pub write : head % 2 ≡ 1

pub data BadRecord : List ℕ → ℕ → Type 0 where
  head_cut : {b : ℕ} {s : List ℕ} → Continued (b ∷ s) → BadRecord (b ∷ s) 20
  head_bad : {h : List ℕ} (s : List ℕ) {n : ℕ} → Spelled h → BadHead h n → BadRecord (h ++ s) n
  word_cut : {h : List ℕ} (s : List ℕ) → WriteHead h → Continued s → BadRecord (h ++ s) 20
  word_bad : {h w : List ℕ} (s : List ℕ) {n : ℕ} → WriteHead h → Spelled w → BadWord w n → BadRecord (h ++ (w ++ s)) n

-- ---- the answers

abbrev pub answer : ℕ → ℕ → ℕ → Transcribed
answer n count place = record { number = n; count = count; place = place }

-- "24 list too small, exactly when all records are good and the whole result doesn't fit"
pub data Written (es : List Entry) (room : ℕ) : Transcribed → Type 0 where
  done : AllGood es → length (transcript_of es) ≤ room → Written es room (answer 0 (length (transcript_of es)) 0)
  too_small : AllGood es → room < length (transcript_of es) → Written es room (answer 24 0 0)
  bad_entry : (xs ys : List Entry) {e : Entry} {n : ℕ} → es ≡ xs ++ (e ∷ ys) → AllGood xs → BadEntry e n →
      Written es room (answer n 0 (length xs))

pub data ReadAs (s : List ℕ) (room : ℕ) : Transcribed → Type 0 where
  done : {es : List Entry} → Sound s es → length es ≤ room → ReadAs s room (answer 0 (length es) 0)
  too_small : {es : List Entry} → Sound s es → room < length es → ReadAs s room (answer 24 0 0)
  bad_record : {es : List Entry} {t u : List ℕ} {n : ℕ} → s ≡ t ++ u → Sound t es → BadRecord u n → ReadAs s room (answer n 0 (length t))

-- ---- what an accepted call leaves

pub record WroteAll (l : Lists) (out : List ℕ) (o : Transcribed) (out' : List ℕ) : Type 0 where
  pub good : AllGood (entries_in l)
  pub count : o.count ≡ length (transcript_of (entries_in l))
  pub place : o.place ≡ 0
  pub fits : o.count ≤ length out
  pub bytes : take o.count out' ≡ transcript_of (entries_in l)
  pub rest : drop o.count out' ≡ drop o.count out

pub record ReadAll (s : List ℕ) (l : Lists) (o : Transcribed) (l' : Lists) : Type 0 where
  pub sound : Sound s (entries_read s)
  pub count : o.count ≡ length (entries_read s)
  pub place : o.place ≡ 0
  pub fits : o.count ≤ size l
  pub entries : first_places o.count l' ≡ columns (entries_read s)
  pub rest : later_places o.count l' ≡ later_places o.count l
