-- A sheet in plain words, by its table as it lies in memory: what the laws say of it. Document 02, requests (viii) and (ix).
--   PassedIn s a         the memory's numbers are words, and the address is one of 32 bits, as the types of a call have it
--   KnownRule rule        the rule is 1 or 2
--   UnknownRule rule      it is neither
--   time h q m            the time struck with so many hours, quarters and minutes
--   InRange t, OffRange t a time that a watch strikes, and one that none does
--   Begins s rule t room  no refusal applies before the port is touched
--   count_word m a        the word at the table's address
--   tick m a k            the tick of stroke k, counted from 0
--   Rises m a n           each of n ticks lies after the one before it
--   Falls m a n           some of them does not
--   Complete m a n        the count word and all n ticks lie in memory, and the count is n
--   Verdict s a rule t room v
--                         v is the number of this sheet, by the table
use Rattle.std.specs.Prelude.{ℕ, suc, ◌+◌, ◌^◌, ◌<◌, ◌≤◌, ◌≡◌, true, false, List, ◌⊎◌, ◌≢◌, length, get_or}
use Rattle.words.specs.Addresses.{word_at}
use Rattle.words.specs.Memory.{AreWords}
use Rattle.words.specs.declared.BitAddress.{BitAddress}
use Rattle.control.specs.Control.{incr}
use Rattle.port_spec.specs.Sequences.{Machine}
use Rattle.port_spec.specs.Table.{Lies}
use Rattle.sheet_spec.specs.Sheet.{strokes_of}
use Rattle.sheet_spec.specs.declared.TimeStruck.{TimeStruck}

pub record PassedIn (s : Machine) (a : BitAddress) : Type 0 where
  pub words : AreWords s.memory
  pub address : a.0 < 2 ^ 32

-- ---- the rule and the time struck

-- "The caller names rule 1, the old, or rule 2"
abbrev pub KnownRule : ℕ → Type 0
KnownRule rule = (rule ≡ 1) ⊎ (rule ≡ 2)

abbrev pub UnknownRule : ℕ → Type 0
UnknownRule rule = (rule ≢ 1) × (rule ≢ 2)

abbrev pub time : ℕ → ℕ → ℕ → TimeStruck
time h q m = record { hours = h; quarters = q; minutes = m }

pub record InRange (t : TimeStruck) : Type 0 where
  pub an_hour : 1 ≤ t.hours
  pub hours : t.hours ≤ 12
  pub quarters : t.quarters ≤ 3
  pub minutes : t.minutes ≤ 14

abbrev pub OffRange : TimeStruck → Type 0
OffRange t = ((t.hours ≡ 0) ⊎ (12 < t.hours)) ⊎ ((3 < t.quarters) ⊎ (14 < t.minutes))

pub record Begins (s : Machine) (rule : ℕ) (t : TimeStruck) (room : ℕ) : Type 0 where
  pub size : length s.memory ≤ 32768
  pub known : KnownRule rule
  pub time : InRange t
  pub fits : strokes_of rule t ≤ room
  pub steps : incr s.registers.control ≡ true

-- ---- "The table is a word with the number of strokes, then one tick per stroke, rising strictly"

abbrev pub count_word : List ℕ → BitAddress → ℕ
count_word m a = get_or m (word_at a).0 0

abbrev pub tick : List ℕ → BitAddress → ℕ → ℕ
tick m a k = get_or m ((word_at a).0 + 1 + k) 0

abbrev pub Rises : List ℕ → BitAddress → ℕ → Type 0
Rises m a n = (k : ℕ) → suc k < n → tick m a k < tick m a (suc k)

abbrev pub Falls : List ℕ → BitAddress → ℕ → Type 0
Falls m a n = (k : ℕ) × (suc k < n) × (tick m a (suc k) ≤ tick m a k)

-- the last tick included
pub record Complete (m : List ℕ) (a : BitAddress) (n : ℕ) : Type 0 where
  pub lies : Lies m a (suc n)
  pub count : count_word m a ≡ n

-- ---- each number, when and only then; "Refusals, in order, after 1: 40 time out of range, 41 list shorter than that many
-- strokes, 46 INCR not set, 42 hollow count word, 43 wrong count, 42 a hollow tick, 44 ticks not rising"; "45 unknown rule, after 1,
-- before 40"
pub data Verdict (s : Machine) (a : BitAddress) (rule : ℕ) (t : TimeStruck) (room : ℕ) : ℕ → Type 0 where
  too_long : 32768 < length s.memory → Verdict s a rule t room 1
  no_such_rule : length s.memory ≤ 32768 → UnknownRule rule → Verdict s a rule t room 45
  no_such_time : length s.memory ≤ 32768 → KnownRule rule → OffRange t → Verdict s a rule t room 40
  list_short : length s.memory ≤ 32768 → KnownRule rule → InRange t → room < strokes_of rule t → Verdict s a rule t room 41
  not_stepping :
      length s.memory ≤ 32768 → KnownRule rule → InRange t → strokes_of rule t ≤ room → incr s.registers.control ≡ false →
      Verdict s a rule t room 46
  count_missed : Begins s rule t room → length s.memory ≤ (word_at a).0 → Verdict s a rule t room 42
  count_wrong :
      Begins s rule t room → (word_at a).0 < length s.memory → count_word s.memory a ≢ strokes_of rule t → Verdict s a rule t room 43
  tick_missed :
      Begins s rule t room → (word_at a).0 < length s.memory → count_word s.memory a ≡ strokes_of rule t →
      length s.memory < (word_at a).0 + suc (strokes_of rule t) → Verdict s a rule t room 42
  not_rising :
      Begins s rule t room → Complete s.memory a (strokes_of rule t) → Falls s.memory a (strokes_of rule t) →
      Verdict s a rule t room 44
  passes :
      Begins s rule t room → Complete s.memory a (strokes_of rule t) → Rises s.memory a (strokes_of rule t) →
      Verdict s a rule t room 0
