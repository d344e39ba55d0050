-- Worked examples of transcripts, worked out by hand from document 02, request (ii): what is lent, what is answered, and what is left.
--   entry k r l w           an entry
--   spare, blank            what lies in the lists and in the bytes before a call
--   Row                     reading s es o es': the string s is read over lists that hold es; the answer is o, and they hold es'
--                           writing es s o s': the entries es are written over the bytes s; the answer is o, and these are s'
--   refused n place, accepted count   their answers
--   refuses, gives, bars    a reading of one spare place that is refused, one that is accepted, and a writing that is refused
--   worked row              the row with its answer, and what is left, by the definitions
--   forty                   a number of forty bytes
--   reads, writes, examples  the rows
use Rattle.std.specs.Prelude.{ℕ, List, [], ◌∷◌, ◌++◌, length, replicate}
use Rattle.transcript_spec.specs.Lists.{columns, entries_in}
use Rattle.transcript_spec.specs.Reading.{read_answer, lists_after}
use Rattle.transcript_spec.specs.Writing.{write_answer, bytes_after}
use Rattle.transcript_spec.specs.declared.Entry.{Entry}
use Rattle.transcript_spec.specs.declared.Transcribed.{Transcribed}

abbrev pub entry : ℕ → ℕ → ℕ → ℕ → Entry
entry k r l w = record { kind = k; register = r; lanes = l; word = w }

abbrev pub refused : ℕ → ℕ → Transcribed
refused n place = record { number = n; count = 0; place = place }

abbrev pub accepted : ℕ → Transcribed
accepted count = record { number = 0; count = count; place = 0 }

abbrev pub spare : Entry
spare = entry 7 7 7 7

abbrev pub blank : List ℕ
blank = 0xEE ∷ 0xEE ∷ 0xEE ∷ 0xEE ∷ []

pub data Row : Type 0 where
  reading : List ℕ → List Entry → Transcribed → List Entry → Row
  writing : List Entry → List ℕ → Transcribed → List ℕ → Row

abbrev pub worked : Row → Row
worked (reading s es o left) = reading s es (read_answer s (length es)) (entries_in (lists_after s (columns es)))
worked (writing es s o left) = writing es s (write_answer es (length s)) (bytes_after es s)

-- a refused reading of one spare place, which stays
abbrev pub refuses : List ℕ → ℕ → ℕ → Row
refuses s n place = reading s (spare ∷ []) (refused n place) (spare ∷ [])

-- an accepted reading of one entry
abbrev pub gives : List ℕ → Entry → Row
gives s e = reading s (spare ∷ []) (accepted 1) (e ∷ [])

-- a refused writing, which leaves the bytes
abbrev pub bars : List Entry → ℕ → ℕ → Row
bars es n place = writing es blank (refused n place) blank

abbrev pub forty : List ℕ
forty = replicate 39 0xFF ++ (0x7F ∷ [])

unfoldable pub reads : List Row
reads =
    -- "Writing 1234h to register 2 on both lanes is 1Dh A4h 34h"; a later place stays
    reading (0x1D ∷ 0xA4 ∷ 0x34 ∷ []) (spare ∷ spare ∷ []) (accepted 1) (entry 1 2 3 0x1234 ∷ spare ∷ []) ∷
    -- nothing at all is a good transcript
    reading [] (spare ∷ []) (accepted 0) (spare ∷ []) ∷
    -- every good head: the twelve of reads, by themselves, and the twelve of writes, with a word each
    reading (0x08 ∷ 0x0A ∷ 0x0C ∷ 0x0E ∷ 0x10 ∷ 0x12 ∷ 0x14 ∷ 0x16 ∷ 0x18 ∷ 0x1A ∷ 0x1C ∷ 0x1E ∷ []) (replicate 12 spare) (accepted 12)
    (entry 0 0 1 0 ∷ entry 0 1 1 0 ∷ entry 0 2 1 0 ∷ entry 0 3 1 0 ∷ entry 0 0 2 0 ∷ entry 0 1 2 0 ∷
    entry 0 2 2 0 ∷ entry 0 3 2 0 ∷ entry 0 0 3 0 ∷ entry 0 1 3 0 ∷ entry 0 2 3 0 ∷ entry 0 3 3 0 ∷ []) ∷
    reading (0x09 ∷ 5 ∷ 0x0B ∷ 5 ∷ 0x0D ∷ 5 ∷ 0x0F ∷ 5 ∷ 0x11 ∷ 5 ∷ 0x13 ∷ 5 ∷ 0x15 ∷ 5 ∷ 0x17 ∷ 5 ∷ 0x19 ∷ 5 ∷ 0x1B ∷ 5 ∷
    0x1D ∷ 5 ∷ 0x1F ∷ 5 ∷ []) (replicate 12 spare) (accepted 12)
    (entry 1 0 1 5 ∷ entry 1 1 1 5 ∷ entry 1 2 1 5 ∷ entry 1 3 1 5 ∷ entry 1 0 2 5 ∷ entry 1 1 2 5 ∷
    entry 1 2 2 5 ∷ entry 1 3 2 5 ∷ entry 1 0 3 5 ∷ entry 1 1 3 5 ∷ entry 1 2 3 5 ∷ entry 1 3 3 5 ∷ []) ∷
    -- words of one, two and three groups
    gives (0x1D ∷ 0x00 ∷ []) (entry 1 2 3 0) ∷
    gives (0x1D ∷ 0x7F ∷ []) (entry 1 2 3 127) ∷
    gives (0x1D ∷ 0x81 ∷ 0x00 ∷ []) (entry 1 2 3 128) ∷
    gives (0x09 ∷ 0x83 ∷ 0xFF ∷ 0x7F ∷ []) (entry 1 0 1 0xFFFF) ∷
    -- 20: a number cut off, however large it is already, or missing
    refuses (0x80 ∷ []) 20 0 ∷
    refuses (0x81 ∷ 0xFF ∷ []) 20 0 ∷
    refuses (0xFF ∷ 0xFF ∷ 0xFF ∷ 0xFF ∷ []) 20 0 ∷
    refuses (0x1D ∷ []) 20 0 ∷
    refuses (0x1D ∷ 0xA4 ∷ []) 20 0 ∷
    refuses (0x1D ∷ 0x80 ∷ []) 20 0 ∷
    refuses (0x1D ∷ 0xFF ∷ 0xFF ∷ 0xFF ∷ 0xFF ∷ []) 20 0 ∷
    -- 21: before 22 and 23, of a head and of a word
    refuses (0x80 ∷ 0x1D ∷ []) 21 0 ∷
    refuses (0x80 ∷ 0x20 ∷ []) 21 0 ∷
    refuses (0x80 ∷ 0x07 ∷ []) 21 0 ∷
    refuses (0x1D ∷ 0x80 ∷ 0x34 ∷ []) 21 0 ∷
    refuses (0x1D ∷ 0x80 ∷ 0x84 ∷ 0x80 ∷ 0x00 ∷ []) 21 0 ∷
    -- 22: head 32, head 128, word 65,536; forty bytes; a head that is 30 modulo 2^32
    refuses (0x20 ∷ []) 22 0 ∷
    refuses (0x21 ∷ []) 22 0 ∷
    refuses (0x81 ∷ 0x00 ∷ []) 22 0 ∷
    refuses (0x1D ∷ 0x84 ∷ 0x80 ∷ 0x00 ∷ []) 22 0 ∷
    refuses forty 22 0 ∷
    refuses (0x1D ∷ forty) 22 0 ∷
    refuses (0x90 ∷ 0x80 ∷ 0x80 ∷ 0x80 ∷ 0x80 ∷ 0x1E ∷ []) 22 0 ∷
    refuses (0x81 ∷ replicate 38 0x80 ++ (0x1E ∷ [])) 22 0 ∷
    refuses (0x1D ∷ 0x81 ∷ replicate 38 0x80 ++ (0x34 ∷ [])) 22 0 ∷
    -- 23: heads 0 to 7, the odd ones before any word
    refuses (0 ∷ []) 23 0 ∷
    refuses (1 ∷ []) 23 0 ∷
    refuses (2 ∷ []) 23 0 ∷
    refuses (3 ∷ []) 23 0 ∷
    refuses (4 ∷ []) 23 0 ∷
    refuses (5 ∷ []) 23 0 ∷
    refuses (6 ∷ []) 23 0 ∷
    refuses (7 ∷ []) 23 0 ∷
    -- the place is that of the record, of its head, and the first bad record counts
    refuses (0x1E ∷ 0x1D ∷ 0x80 ∷ 0x34 ∷ []) 21 1 ∷
    refuses (0x1E ∷ 0x1D ∷ 0x34 ∷ 0x1D ∷ []) 20 3 ∷
    refuses (0x1E ∷ 0x07 ∷ 0x20 ∷ []) 23 1 ∷
    -- 24: two entries for one place; a bad record comes first
    refuses (0x1E ∷ 0x1E ∷ []) 24 0 ∷
    refuses (0x1E ∷ 0x1E ∷ 0x20 ∷ []) 22 2 ∷
    []

unfoldable pub writes : List Row
writes =
    -- "Writing 1234h to register 2 on both lanes is 1Dh A4h 34h"; a later byte stays
    writing (entry 1 2 3 0x1234 ∷ []) blank (accepted 3) (0x1D ∷ 0xA4 ∷ 0x34 ∷ 0xEE ∷ []) ∷
    writing [] blank (accepted 0) blank ∷
    writing (entry 0 3 3 0 ∷ entry 1 2 3 0 ∷ []) blank (accepted 3) (0x1E ∷ 0x1D ∷ 0x00 ∷ 0xEE ∷ []) ∷
    -- one, two and three groups, at their edges; the unselected byte of a word is kept
    writing (entry 1 0 1 127 ∷ []) blank (accepted 2) (0x09 ∷ 0x7F ∷ 0xEE ∷ 0xEE ∷ []) ∷
    writing (entry 1 0 1 128 ∷ []) blank (accepted 3) (0x09 ∷ 0x81 ∷ 0x00 ∷ 0xEE ∷ []) ∷
    writing (entry 1 0 1 16383 ∷ []) blank (accepted 3) (0x09 ∷ 0xFF ∷ 0x7F ∷ 0xEE ∷ []) ∷
    writing (entry 1 0 1 16384 ∷ []) blank (accepted 4) (0x09 ∷ 0x81 ∷ 0x80 ∷ 0x00 ∷ []) ∷
    writing (entry 1 0 1 65535 ∷ []) blank (accepted 4) (0x09 ∷ 0x83 ∷ 0xFF ∷ 0x7F ∷ []) ∷
    -- 2, then 3, then 22, at the first bad entry
    bars (entry 0 4 3 0 ∷ []) 2 0 ∷
    bars (entry 0 3 0 0 ∷ []) 3 0 ∷
    bars (entry 0 3 4 0 ∷ []) 3 0 ∷
    bars (entry 2 3 3 0 ∷ []) 22 0 ∷
    bars (entry 1 3 3 65536 ∷ []) 22 0 ∷
    bars (entry 0 3 3 1 ∷ []) 22 0 ∷
    bars (entry 2 4 0 65536 ∷ []) 2 0 ∷
    bars (entry 2 3 0 65536 ∷ []) 3 0 ∷
    bars (entry 0 4 0 1 ∷ []) 2 0 ∷
    bars (entry 0 3 0 1 ∷ []) 3 0 ∷
    bars (entry 0 3 3 0 ∷ entry 0 3 4 0 ∷ entry 0 4 3 0 ∷ []) 3 1 ∷
    -- 24: five bytes for four; a bad entry comes first
    bars (entry 0 3 3 0 ∷ entry 1 0 1 65535 ∷ []) 24 0 ∷
    bars (entry 0 3 3 0 ∷ entry 1 0 1 65535 ∷ entry 2 3 3 0 ∷ []) 22 2 ∷
    []

unfoldable pub examples : List Row
examples = reads ++ writes
