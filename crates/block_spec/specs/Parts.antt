-- The parts of a block that is not refused: what the private functions of crate `block` state.
--   first_fetched r                   the word that a read fetches, where the pointer steps before it
--   straight_reads, straight_writes   how many accesses step from word to word inside memory
--   GoesStraight                      what accesses begin with that all do so: so many of them, the first at this word
--   stepped_by n a                    the bit address n steps on
--   ReadInto, WrittenFrom             what reads leave, with the part of the list that they fill; what writes leave, with the memory
use Rattle.std.specs.Prelude.{ℕ, ◌+◌, ◌-◌, ◌*◌, ◌%◌, ◌^◌, ◌≤◌, ◌<◌, min, Bool, true, cond, List, ◌≡◌}
use Rattle.words.specs.Addresses.{word_at}
use Rattle.words.specs.declared.BitAddress.{BitAddress}
use Rattle.words.specs.declared.WordNumber.{WordNumber}
use Rattle.control.specs.Control.{incr, incw}
use Rattle.registers.specs.declared.Registers.{Registers}
use Rattle.port_spec.specs.Sequences.{Machine, words_in, answers, ends}
use Rattle.port_spec.specs.Table.{reading}
use Rattle.block_spec.specs.Block.{writing, hollows_in, empties_in}
use Rattle.block_spec.specs.declared.Run.{Run}

-- a read fetches the word after the pointer's
abbrev pub first_fetched : Registers → WordNumber
first_fetched r = record { 0 = (word_at r.pointer).0 + 1 }

unfoldable pub straight_reads : Registers → ℕ → ℕ → ℕ
straight_reads r words count = cond (incr r.control) (min count (words - (first_fetched r).0)) 0

-- a write stores at the pointer's own word
unfoldable pub straight_writes : Registers → ℕ → ℕ → ℕ
straight_writes r words count = cond (incw r.control) (min count (words - (word_at r.pointer).0)) 0

-- `steps` is INCR or INCW; a memory that is not refused
pub record GoesStraight (steps : Bool) (first : WordNumber) (words count : ℕ) : Type 0 where
  pub memory : words ≤ 32768
  pub some : 0 < count
  pub stepping : steps ≡ true
  pub inside : first.0 + count ≤ words

abbrev pub stepped_by : ℕ → BitAddress → BitAddress
stepped_by n a = record { 0 = (a.0 + 16 * n) % 2 ^ 32 }

-- n reads from the machine s, into all of a part of n places
pub record ReadInto (s : Machine) (n : ℕ) (o : Run) (part : List ℕ) : Type 0 where
  pub registers : o.registers ≡ (ends s (reading n)).registers
  pub tallied : o.tallied ≡ hollows_in (answers s (reading n))
  pub words : part ≡ words_in (answers s (reading n))

-- a write of each of the words ws from the machine s
pub record WrittenFrom (s : Machine) (ws : List ℕ) (o : Run) (m : List ℕ) : Type 0 where
  pub registers : o.registers ≡ (ends s (writing ws)).registers
  pub tallied : o.tallied ≡ empties_in (answers s (writing ws))
  pub memory : m ≡ (ends s (writing ws)).memory
