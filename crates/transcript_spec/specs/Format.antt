-- What a transcript is written as: document 02, request (ii).
--   head_of e         the head of an entry's record
--   groups v          a number below 2^21 in groups of seven bits: every head and every word that is written is one
--   record_of e       the bytes of an entry
--   transcript_of es  the bytes of a list
use Rattle.std.specs.Prelude.{ℕ, ◌+◌, ◌*◌, ◌/◌, ◌%◌, cond, List, [], ◌∷◌, ◌++◌, eqb, ltb}
use Rattle.transcript_spec.specs.declared.Entry.{Entry}

-- "The head is kind (0 read, 1 write) + 2 × register + 8 × lanes"
abbrev pub head_of : Entry → ℕ
head_of e = e.kind + 2 * e.register + 8 * e.lanes

-- "groups of seven bits, most significant group first, the top bit set on all bytes but the last, no leading zero group"; 0
-- is one group (ours)
unfoldable pub groups : ℕ → List ℕ
groups v =
    cond (ltb v 128) (v ∷ [])
    (cond (ltb v 16384) ((128 + v / 128) ∷ (v % 128) ∷ [])
    ((128 + v / 16384) ∷ (128 + v / 128 % 128) ∷ (v % 128) ∷ []))

-- "A record is a head, then for a write the word"
unfoldable pub record_of : Entry → List ℕ
record_of e = groups (head_of e) ++ cond (eqb e.kind 1) (groups e.word) []

unfoldable pub transcript_of : List Entry → List ℕ
transcript_of [] = []
transcript_of (e ∷ rest) = record_of e ++ transcript_of rest
