-- A table in memory, read through the port: the words of the watch tuner's law, 'every word is handed out'.
-- Document 01, 'Memory and addresses' and 'The four host registers'.
--   Memory m         a memory that is not refused
--   loading c a      two two-lane writes that load the pointer with a
--   loaded s a       the machine after them; byte_loaded, after the same writes done by bytes
--   stands s a       the machine with its registers standing at a
--   reading n        n two-lane reads of register 2
--   hand m a         the answer that hands out what memory shows at a
--   handed m a n     n such answers, word after word
--   on_by n a        the bit address n words on
--   table m a n      the n words from a on
--   Lies m a n       all of them are in memory
--   Given, given     what an answer says of the word that it hands out
--   held_word w, filler  the word w, handed out as held; FFFFh, handed out as hollow
use Rattle.std.specs.Prelude.{ℕ, zero, suc, ◌+◌, ◌≤◌, Bool, true, false, cond, not, List, [], ◌∷◌, length, take, drop}
use Rattle.words.specs.Addresses.{word_at, step}
use Rattle.words.specs.Memory.{AreWords, in_memory}
use Rattle.words.specs.declared.BitAddress.{BitAddress}
use Rattle.control.specs.Control.{lbl}
use Rattle.registers.specs.Registers.{low_half, high_half}
use Rattle.port_spec.specs.Cycle.{cycle_of, shows, standing}
use Rattle.port_spec.specs.Sequences.{Machine, Sixteen, load, save, ends, byte_ends}
use Rattle.port_spec.specs.declared.Answer.{Answer}

-- "a lent slice of 16-bit words, at most 32,768"
pub record Memory (m : List ℕ) : Type 0 where
  pub size : length m ≤ 32768
  pub words : AreWords m

-- ---- the accesses

-- the half that fetches goes last: register 0 with LBL 1, register 1 with LBL 0
unfoldable pub loading : ℕ → BitAddress → List Sixteen
loading c a =
    cond (lbl c)
    (save 1 (high_half a) ∷ save 0 (low_half a) ∷ [])
    (save 0 (low_half a) ∷ save 1 (high_half a) ∷ [])

abbrev pub loaded : Machine → BitAddress → Machine
loaded s a = ends s (loading s.registers.control a)

abbrev pub byte_loaded : Machine → BitAddress → Machine
byte_loaded s a = byte_ends s (loading s.registers.control a)

abbrev pub stands : Machine → BitAddress → Machine
stands s a = record { registers = standing s.memory s.registers.control a; memory = s.memory }

unfoldable pub reading : ℕ → List Sixteen
reading zero = []
reading (suc n) = load 2 ∷ reading n

-- ---- the answers

-- its cycle is the fetch ahead, one word on
unfoldable pub hand : List ℕ → BitAddress → Answer
hand m a =
    record {
      number = 0;
      word = shows m a;
      hollow = not (in_memory m (word_at a));
      cycle = cycle_of (in_memory m (word_at (step a)));
    }

unfoldable pub handed : List ℕ → BitAddress → ℕ → List Answer
handed m a zero = []
handed m a (suc n) = hand m a ∷ handed m (step a) n

unfoldable pub on_by : ℕ → BitAddress → BitAddress
on_by zero a = a
on_by (suc n) a = on_by n (step a)

-- ---- the table

abbrev pub table : List ℕ → BitAddress → ℕ → List ℕ
table m a n = take n (drop (word_at a).0 m)

abbrev pub Lies : List ℕ → BitAddress → ℕ → Type 0
Lies m a n = (word_at a).0 + n ≤ length m

-- all that an answer says but what it says of its own cycle, which is the fetch ahead
pub record Given : Type 0 where
  pub number : ℕ
  pub word : ℕ
  pub hollow : Bool

abbrev pub given : Answer → Given
given x = record { number = x.number; word = x.word; hollow = x.hollow }

abbrev pub held_word : ℕ → Given
held_word w = record { number = 0; word = w; hollow = false }

abbrev pub filler : Given
filler = record { number = 0; word = 0xffff; hollow = true }
