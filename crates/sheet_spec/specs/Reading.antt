-- How a sheet's reader goes through its table: document 02, request (viii).
--   Way, whole, by_bytes   a way to do sixteen-bit accesses: each at once, or each as two byte accesses (demand 3)
--   table_read w s a n     what the reads answer from the machine s on: the count word of the table at a, then n ticks
--   any_hollow xs          some of these answers is hollow
--   rising ts              each tick lies after the one before it
use Rattle.std.specs.Prelude.{ℕ, suc, Bool, true, false, ◌&&◌, ◌||◌, List, [], ◌∷◌, ltb}
use Rattle.words.specs.declared.BitAddress.{BitAddress}
use Rattle.port_spec.specs.Sequences.{Machine, Sixteen, answers, ends, byte_answers, byte_ends}
use Rattle.port_spec.specs.Table.{loading, reading}
use Rattle.port_spec.specs.declared.Answer.{Answer}

-- ---- the accesses

-- answered: what a run of accesses answers; ended: the machine that it leaves
pub record Way : Type 0 where
  pub answered : Machine → List Sixteen → List Answer
  pub ended : Machine → List Sixteen → Machine

abbrev pub whole : Way
whole = record { answered = answers; ended = ends }

abbrev pub by_bytes : Way
by_bytes = record { answered = byte_answers; ended = byte_ends }

-- "The reader loads the pointer with two-lane writes, the half that fetches last, and reads two lanes at a time: the count
-- word, then .. every tick"
unfoldable pub table_read : Way → Machine → BitAddress → ℕ → List Answer
table_read w s a n = w.answered (w.ended s (loading s.registers.control a)) (reading (suc n))

-- ---- the answers

-- hollow by its mark, never by its word
unfoldable pub any_hollow : List Answer → Bool
any_hollow [] = false
any_hollow (x ∷ rest) = x.hollow || any_hollow rest

-- "one tick per stroke, rising strictly"
unfoldable pub rising : List ℕ → Bool
rising [] = true
rising (t ∷ []) = true
rising (t ∷ u ∷ rest) = ltb t u && rising (u ∷ rest)
