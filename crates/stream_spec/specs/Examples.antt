-- Worked examples of streams, worked out by hand from document 02, requests (ii) and (vii): the calls, what each answers, and what it
-- leaves.
--   entry k r l w       an entry; spare, what lies in the lists before a call
--   Told                what is told of a call: number, count, place, and of the stream afterwards where its record begins, how many bytes
--                       are read, and whether it has ended; told n c p f t b is that by its parts, said o that of an answer
--   Call                delivers s es o es': the bytes s come with lists that hold es; o is told, and the lists hold es'
--                       ends o: the sender says that nothing follows, and o is told
--   Row                 calls one after another, from a stream on; row st cs is that by its parts
--   called, worked      calls with what is told and left by the definitions; a row likewise
--   brings s o          a delivery with one spare place, which stays
--   behind n, new       the open stream behind n bytes of good records; that behind none
--   high_read, low_read, a_write   three entries
--   cuts, bad, small, after_the_end, limit, made_up, examples  the rows
use Rattle.std.specs.Prelude.{ℕ, Bool, true, false, List, [], ◌∷◌, ◌++◌, length, replicate}
use Rattle.transcript_spec.specs.Lists.{columns, entries_in}
use Rattle.transcript_spec.specs.Reading.{fresh}
use Rattle.transcript_spec.specs.declared.Entry.{Entry}
use Rattle.transcript_spec.specs.declared.Part.TheVariants.{Head, Word}
use Rattle.stream_spec.specs.Stream.{delivery_answer, lists_after, end_answer}
use Rattle.stream_spec.specs.declared.Stream.{Stream}
use Rattle.stream_spec.specs.declared.Streamed.{Streamed}

abbrev pub entry : ℕ → ℕ → ℕ → ℕ → Entry
entry k r l w = record { kind = k; register = r; lanes = l; word = w }

abbrev pub spare : Entry
spare = entry 7 7 7 7

pub record Told : Type 0 where
  pub number : ℕ
  pub count : ℕ
  pub place : ℕ
  pub from : ℕ
  pub taken : ℕ
  pub ended : Bool

abbrev pub told : ℕ → ℕ → ℕ → ℕ → ℕ → Bool → Told
told n c p f t b = record { number = n; count = c; place = p; from = f; taken = t; ended = b }

abbrev pub said : Streamed → Told
said o =
    record {
      number = o.number;
      count = o.count;
      place = o.place;
      from = o.stream.from;
      taken = o.stream.taken;
      ended = o.stream.ended;
    }

pub data Call : Type 0 where
  delivers : List ℕ → List Entry → Told → List Entry → Call
  ends : Told → Call

pub record Row : Type 0 where
  pub stream : Stream
  pub calls : List Call

abbrev pub row : Stream → List Call → Row
row st cs = record { stream = st; calls = cs }

abbrev pub called : Stream → List Call → List Call
called st [] = []
called st (delivers s es o es' ∷ rest) =
    delivers s es (said (delivery_answer st s (length es))) (entries_in (lists_after st s (columns es))) ∷
    called (delivery_answer st s (length es)).stream rest
called st (ends o ∷ rest) = ends (said (end_answer st)) ∷ called (end_answer st).stream rest

abbrev pub worked : Row → Row
worked r = row r.stream (called r.stream r.calls)

-- a delivery that finishes no record, with one spare place
abbrev pub brings : List ℕ → Told → Call
brings s o = delivers s (spare ∷ []) o (spare ∷ [])

abbrev pub behind : ℕ → Stream
behind n = record { part = fresh; from = n; taken = n; ended = false }

abbrev pub new : Stream
new = behind 0

-- a read of register 3 on both lanes, 1Eh; a read of register 0 on the low lane, 08h; a write of 1234h to register 2 on both lanes, 1Dh A4h
-- 34h
abbrev pub high_read : Entry
high_read = entry 0 3 3 0

abbrev pub low_read : Entry
low_read = entry 0 0 1 0

abbrev pub a_write : Entry
a_write = entry 1 2 3 0x1234

unfoldable pub cuts : List Row
cuts =
    -- a record over four deliveries, an empty one among them; two more behind it; nothing is missing at the end
    row new
    (delivers (0x1E ∷ 0x1D ∷ []) (spare ∷ spare ∷ []) (told 0 1 0 1 2 false) (high_read ∷ spare ∷ []) ∷
    brings [] (told 0 0 0 1 2 false) ∷
    brings (0xA4 ∷ []) (told 0 0 0 1 3 false) ∷
    delivers (0x34 ∷ 0x08 ∷ 0x1E ∷ []) (spare ∷ spare ∷ spare ∷ spare ∷ []) (told 0 3 0 6 6 false)
    (a_write ∷ low_read ∷ high_read ∷ spare ∷ []) ∷
    ends (told 0 0 0 6 6 true) ∷
    []) ∷
    -- all at once
    row new
    (delivers (0x1E ∷ 0x1D ∷ 0xA4 ∷ 0x34 ∷ 0x08 ∷ 0x1E ∷ []) (spare ∷ spare ∷ spare ∷ spare ∷ []) (told 0 4 0 6 6 false)
    (high_read ∷ a_write ∷ low_read ∷ high_read ∷ []) ∷
    ends (told 0 0 0 6 6 true) ∷
    []) ∷
    -- the longest good record, a byte each: FFFFh to register 0 on the low lane
    row new
    (brings (0x09 ∷ []) (told 0 0 0 0 1 false) ∷
    brings (0x83 ∷ []) (told 0 0 0 0 2 false) ∷
    brings (0xFF ∷ []) (told 0 0 0 0 3 false) ∷
    delivers (0x7F ∷ []) (spare ∷ []) (told 0 1 0 4 4 false) (entry 1 0 1 0xFFFF ∷ []) ∷
    []) ∷
    -- nothing at all
    row new (ends (told 0 0 0 0 0 true) ∷ []) ∷
    []

unfoldable pub bad : List Row
bad =
    -- 21: a zero group at the end of one delivery, of a head and of a word; the place is that of the record's first byte in the whole
    -- stream
    row new (brings (0x80 ∷ []) (told 0 0 0 0 1 false) ∷ brings (0x1E ∷ []) (told 21 0 0 0 2 true) ∷ []) ∷
    row new
    (delivers (0x1E ∷ 0x1D ∷ 0x80 ∷ []) (spare ∷ []) (told 0 1 0 1 3 false) (high_read ∷ []) ∷
    brings (0x34 ∷ 0x1E ∷ []) (told 21 0 1 1 4 true) ∷
    []) ∷
    -- 22: a head over 31; a word of 65,536 in three deliveries; a number of ten bytes, however it is cut
    row new (brings (0x20 ∷ []) (told 22 0 0 0 1 true) ∷ []) ∷
    row new
    (brings (0x1D ∷ 0x84 ∷ []) (told 0 0 0 0 2 false) ∷
    brings (0x80 ∷ []) (told 0 0 0 0 3 false) ∷
    brings (0x00 ∷ []) (told 22 0 0 0 4 true) ∷
    []) ∷
    row new
    (brings (replicate 4 0xFF) (told 0 0 0 0 4 false) ∷
    brings (replicate 5 0xFF) (told 0 0 0 0 9 false) ∷
    brings (0x7F ∷ []) (told 22 0 0 0 10 true) ∷
    []) ∷
    -- 23: lanes 0, behind good records of the same delivery, which are handed out; what is behind it is not read
    row new (delivers (0x1E ∷ 0x08 ∷ 0x07 ∷ 0x1E ∷ []) (spare ∷ spare ∷ []) (told 23 2 2 2 3 true) (high_read ∷ low_read ∷ []) ∷ []) ∷
    row new
    (delivers (0x1E ∷ []) (spare ∷ []) (told 0 1 0 1 1 false) (high_read ∷ []) ∷
    brings (0x00 ∷ []) (told 23 0 1 1 2 true) ∷
    []) ∷
    -- 20 at the end alone: a head cut off, a word missing, a word cut off, a zero group, a long number
    row new (brings (0x81 ∷ []) (told 0 0 0 0 1 false) ∷ ends (told 20 0 0 0 1 true) ∷ []) ∷
    row new (brings (0x1D ∷ []) (told 0 0 0 0 1 false) ∷ ends (told 20 0 0 0 1 true) ∷ []) ∷
    row new
    (delivers (0x1E ∷ 0x1D ∷ 0xA4 ∷ []) (spare ∷ []) (told 0 1 0 1 3 false) (high_read ∷ []) ∷ ends (told 20 0 1 1 3 true) ∷ []) ∷
    row new (brings (0x80 ∷ []) (told 0 0 0 0 1 false) ∷ ends (told 20 0 0 0 1 true) ∷ []) ∷
    row new (brings (replicate 9 0xFF) (told 0 0 0 0 9 false) ∷ ends (told 20 0 0 0 9 true) ∷ []) ∷
    []

unfoldable pub small : List Row
small =
    -- 24: two records for one place, and again with two
    row new
    (brings (0x1E ∷ 0x08 ∷ []) (told 24 0 0 0 0 false) ∷
    delivers (0x1E ∷ 0x08 ∷ []) (spare ∷ spare ∷ []) (told 0 2 0 2 2 false) (high_read ∷ low_read ∷ []) ∷
    []) ∷
    -- before the bad record behind them, which then ends the stream
    row new
    (brings (0x1E ∷ 0x08 ∷ 0x07 ∷ []) (told 24 0 0 0 0 false) ∷
    delivers (0x1E ∷ 0x08 ∷ 0x07 ∷ []) (spare ∷ spare ∷ []) (told 23 2 2 2 3 true) (high_read ∷ low_read ∷ []) ∷
    []) ∷
    -- a record that began in the delivery before counts
    row new
    (brings (0x1D ∷ 0xA4 ∷ []) (told 0 0 0 0 2 false) ∷
    delivers (0x34 ∷ []) [] (told 24 0 0 0 2 false) [] ∷
    delivers (0x34 ∷ []) (spare ∷ []) (told 0 1 0 3 3 false) (a_write ∷ []) ∷
    []) ∷
    -- one that is not finished needs no place, and neither does a bad one
    row new (delivers (0x1D ∷ []) [] (told 0 0 0 0 1 false) [] ∷ delivers (0x80 ∷ 0x00 ∷ []) [] (told 21 0 0 0 3 true) [] ∷ []) ∷
    []

unfoldable pub after_the_end : List Row
after_the_end =
    -- 25 after the end, of bytes, of nothing, and of a second end; also after 20 and after 21 to 23
    row new
    (ends (told 0 0 0 0 0 true) ∷
    brings (0x1E ∷ []) (told 25 0 0 0 0 true) ∷
    brings [] (told 25 0 0 0 0 true) ∷
    ends (told 25 0 0 0 0 true) ∷
    []) ∷
    row new
    (brings (0x1D ∷ []) (told 0 0 0 0 1 false) ∷
    ends (told 20 0 0 0 1 true) ∷
    brings (0x34 ∷ []) (told 25 0 0 0 1 true) ∷
    ends (told 25 0 0 0 1 true) ∷
    []) ∷
    row new
    (brings (0x07 ∷ []) (told 23 0 0 0 1 true) ∷
    brings (0x1E ∷ []) (told 25 0 0 0 1 true) ∷
    ends (told 25 0 0 0 1 true) ∷
    []) ∷
    []

unfoldable pub limit : List Row
limit =
    -- 26: one byte too many; one byte; nothing more, but an empty delivery, and the end
    row (behind 4294967294)
    (brings (0x1E ∷ 0x1E ∷ []) (told 26 0 0 4294967294 4294967294 false) ∷
    delivers (0x1E ∷ []) (spare ∷ []) (told 0 1 0 4294967295 4294967295 false) (high_read ∷ []) ∷
    brings (0x1E ∷ []) (told 26 0 0 4294967295 4294967295 false) ∷
    brings [] (told 0 0 0 4294967295 4294967295 false) ∷
    ends (told 0 0 0 4294967295 4294967295 true) ∷
    brings (0x1E ∷ []) (told 25 0 0 4294967295 4294967295 true) ∷
    []) ∷
    -- before 24, and before the bad record
    row (behind 4294967294)
    (delivers (0x1E ∷ 0x1E ∷ []) [] (told 26 0 0 4294967294 4294967294 false) [] ∷
    brings (0x07 ∷ 0x1E ∷ []) (told 26 0 0 4294967294 4294967294 false) ∷
    brings (0x07 ∷ []) (told 23 0 4294967294 4294967294 4294967295 true) ∷
    []) ∷
    -- a record that the limit leaves unfinished
    row (behind 4294967294)
    (brings (0x1D ∷ []) (told 0 0 0 4294967294 4294967295 false) ∷
    brings (0x34 ∷ []) (told 26 0 0 4294967294 4294967295 false) ∷
    ends (told 20 0 4294967294 4294967294 4294967295 true) ∷
    []) ∷
    []

unfoldable pub made_up : List Row
made_up =
    -- streams that no calls come to: they are taken as they are
    row (record { part = Word 200 (record { begun = true; padded = false; value = 70000 }); from = 9; taken = 3; ended = false })
    (brings (0x00 ∷ []) (told 22 0 9 9 4 true) ∷ []) ∷
    row (record { part = Word 200 (record { begun = false; padded = true; value = 2 }); from = 9; taken = 3; ended = false })
    (delivers (0x34 ∷ 0x1E ∷ []) (spare ∷ spare ∷ []) (told 0 2 0 5 5 false) (entry 0 0 25 0x134 ∷ high_read ∷ []) ∷ []) ∷
    row (record { part = Head (record { begun = true; padded = true; value = 0 }); from = 9; taken = 4294967295; ended = true })
    (brings (0x1E ∷ []) (told 25 0 0 9 4294967295 true) ∷ ends (told 25 0 0 9 4294967295 true) ∷ []) ∷
    []

unfoldable pub examples : List Row
examples = cuts ++ (bad ++ (small ++ (after_the_end ++ (limit ++ made_up))))
