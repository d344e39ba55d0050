-- Whatever is done to the port or its memory, in any order, and the onlooker who judges HSTDATA from what is said of the cycles alone: the
-- words of the keeper's law. Document 01, 'Memory and addresses', 'The four host registers' and 'The processor's side'.
--   Deed, does, ran           what is done, and the machine after one deed and after a run of them
--   woken m                   the machine that a reset leaves
--   Content, content r        HSTDATA: its word, and whether that is hollow
--   Says                      what an answer to a read of HSTDATA says of it
--   reads_data, writes_data   an access is a read, a write of HSTDATA
--   has_cycle, word_used      an access calls for a memory cycle, and the word that this uses
--   judged, expected          the onlooker's judgement after an access by the host, and after any deed
--   Agree                     every answer in a run shows the mark that the onlooker expects
use Rattle.std.specs.Prelude.{ℕ, ◌≡◌, Bool, true, false, cond, not, ◌&&◌, ◌||◌, List, [], ◌∷◌, eqb}
use Rattle.words.specs.Addresses.{word_at, stepped_from}
use Rattle.words.specs.Bytes.{shown}
use Rattle.words.specs.declared.BitAddress.{BitAddress}
use Rattle.words.specs.declared.WordNumber.{WordNumber}
use Rattle.control.specs.Control.{incr, closes, fetches}
use Rattle.registers.specs.Registers.{written}
use Rattle.registers.specs.Processor.{processor_writes, at_reset}
use Rattle.registers.specs.declared.Registers.{Registers}
use Rattle.port_spec.specs.Sequences.{Machine, answer_of, after}
use Rattle.port_spec.specs.declared.Access.{Access}
use Rattle.port_spec.specs.declared.Access.TheVariants.{Read, Write}
use Rattle.port_spec.specs.declared.Answer.{Answer}
use Rattle.port_spec.specs.declared.Cycle.{Cycle}
use Rattle.port_spec.specs.declared.Cycle.TheVariants.{None, Inside, Empty}

-- ---- what is done
pub data Deed : Type 0 where
  -- an access by the host, on whatever lanes
  host : Access → Deed
  -- a write by the processor, of a word to one of its registers; what it reads changes nothing
  processor : ℕ → ℕ → Deed
  reset : Deed
  -- whoever else holds the memory, between two calls, leaves it so (ours)
  elsewhere : List ℕ → Deed

-- "Reset: .. Memory stays"
abbrev pub woken : List ℕ → Machine
woken m = record { registers = at_reset.registers; memory = m }

unfoldable pub does : Machine → Deed → Machine
does s (host a) = after s a
does s (processor register w) = record { registers = (processor_writes s.registers register w).registers; memory = s.memory }
does s reset = woken s.memory
does s (elsewhere m) = record { registers = s.registers; memory = m }

unfoldable pub ran : Machine → List Deed → Machine
ran s [] = s
ran s (d ∷ rest) = ran (does s d) rest

-- ---- HSTDATA
pub record Content : Type 0 where
  pub word : ℕ
  pub hollow : Bool

abbrev pub content : Registers → Content
content r = record { word = r.latch; hollow = r.hollow }

-- an answer to a read of HSTDATA on some lanes says that c is there
pub record Says (x : Answer) (lanes : ℕ) (c : Content) : Type 0 where
  pub word : x.word ≡ shown lanes c.word
  pub hollow : x.hollow ≡ c.hollow

abbrev pub reads_data : Access → Bool
reads_data (Read register lanes) = eqb register 2
reads_data (Write register lanes w) = false

abbrev pub writes_data : Access → Bool
writes_data (Read register lanes) = false
writes_data (Write register lanes w) = eqb register 2

-- ---- the cycle of an access

-- "If the closing byte is selected", for HSTDATA, and for a write of the half of the pointer that fetches
unfoldable pub has_cycle : Registers → Access → Bool
has_cycle r (Read register lanes) = eqb register 2 && closes r.control lanes
has_cycle r (Write register lanes w) = closes r.control lanes && (eqb register 2 || fetches r.control register)

-- "with INCR 1 the pointer gains 16; then a fetch"
abbrev pub ahead : Registers → BitAddress
ahead r = stepped_from (incr r.control) r.pointer

-- "a cycle uses pointer div 16" (house): a read the pointer ahead, a write the pointer as it then stands, before any step
unfoldable pub word_used : Registers → Access → WordNumber
word_used r (Read register lanes) = word_at (ahead r)
word_used r (Write register lanes w) = word_at (written r register lanes w).pointer

-- ---- the onlooker: knows what is done and what is said of each cycle

-- no cycle, no news; a word that memory has is good; beyond memory a fetch brings filler, and a store leaves the host's word
unfoldable pub judged : Bool → Access → Cycle → Bool
judged h a None = h
judged h a Inside = false
judged h a Empty = not (writes_data a)

-- "A write to HSTDATA clears the hollow mark"; "Reset: .. hollow true"
unfoldable pub expected : Bool → Machine → Deed → Bool
expected h s (host a) = judged h a (answer_of s a).cycle
expected h s (processor register w) = cond (eqb register 2) false h
expected h s reset = true
expected h s (elsewhere m) = h

-- a read of HSTDATA that is done shows that judgement; any other answer shows no mark
abbrev pub Shows : Bool → Machine → Deed → Type 0
Shows h s (host a) = (answer_of s a).hollow ≡ (eqb (answer_of s a).number 0 && (reads_data a && h))
Shows h s (processor register w) = Unit
Shows h s reset = Unit
Shows h s (elsewhere m) = Unit

unfoldable pub Agree : Bool → Machine → List Deed → Type 0
Agree h s [] = Unit
Agree h s (d ∷ rest) = Shows h s d × Agree (expected h s d) (does s d) rest
