-- A strike sheet: document 02, requests (viii) and (ix).
--   unknown_rule, out_of_range       whether the rule is refused, and whether the time struck is
--   strokes_of rule t                how many strokes the time t has by the rule
--   refusal_before                   number 1, 45, 40, 41 or 46, or 0 where none applies: judged before the port is touched
--   count_refusal n hollow word      number 42 or 43, or 0: what is said of the count word
--   ticks_refusal hollow ticks       number 42 or 44, or 0: what is said of the ticks
--   or_else n m                      the refusal n, or m where n is none
--   heard, ticks_heard               what the reader is told, and the ticks among it
--   count_number                     the refusal of its count word, or 0
--   read_number                      the first refusal of a sheet that is begun
--   words_read, made                 how many words its reader reads, and all accesses that it makes
--   read_sheet, read_list            such a sheet: what it answers, with the registers that it leaves; the list
--   refused_sheet n r                what a refusal answers, with the registers r
--   number_before                    the refusal before the port is touched, or 0
--   sheet_of, list_after             any sheet: what it answers, with the registers that it leaves; the list
--   Struck                           these, as the contract of the call
-- Those that speak of accesses take the way in which these are done; the call does them whole.
use Rattle.std.specs.Prelude.{ℕ, suc, ◌+◌, ◌-◌, ◌*◌, ◌≡◌, Bool, cond, not, ◌||◌, List, ◌++◌, eqb, ltb, Float, length, take, drop, get_or}
use Rattle.words.specs.Memory.{over_limit}
use Rattle.words.specs.declared.BitAddress.{BitAddress}
use Rattle.control.specs.Control.{incr}
use Rattle.registers.specs.declared.Registers.{Registers}
use Rattle.port_spec.specs.Sequences.{Machine, machine, Sixteen, words_in}
use Rattle.port_spec.specs.Table.{loading, reading}
use Rattle.port_spec.specs.declared.Answer.{Answer}
use Rattle.tempo_spec.specs.Tempo.{with_times}
use Rattle.sheet_spec.specs.Reading.{Way, whole, table_read, any_hollow, rising}
use Rattle.sheet_spec.specs.declared.Sheet.{Sheet}
use Rattle.sheet_spec.specs.declared.TimeStruck.{TimeStruck}

-- ---- the rule and the time struck

-- "The caller names rule 1, the old, or rule 2"
unfoldable pub unknown_rule : ℕ → Bool
unknown_rule rule = not (eqb rule 1 || eqb rule 2)

-- "hours 1 to 12, quarters 0 to 3, minutes 0 to 14"
unfoldable pub out_of_range : TimeStruck → Bool
out_of_range t = (eqb t.hours 0 || ltb 12 t.hours) || (ltb 3 t.quarters || ltb 14 t.minutes)

-- by rule 1 "the count must be hours + quarters + minutes"; by rule 2 it must be "hours + 2 × quarters + minutes"; a rule that is unknown,
-- and refused, counts as rule 1 (ours)
unfoldable pub strokes_of : ℕ → TimeStruck → ℕ
strokes_of rule t =
    cond (eqb rule 2) (t.hours + 2 * t.quarters + t.minutes) (t.hours + t.quarters + t.minutes)

-- ---- the refusals, in order

-- "45 unknown rule, after 1, before 40"; "40 time out of range, 41 list shorter than that many strokes, 46 INCR not set"
unfoldable pub refusal_before : ℕ → ℕ → TimeStruck → ℕ → ℕ → ℕ
refusal_before words rule t room c =
    cond (over_limit words) 1
    (cond (unknown_rule rule) 45
    (cond (out_of_range t) 40
    (cond (ltb room (strokes_of rule t)) 41
    (cond (incr c) 0 46))))

-- "42 hollow count word, 43 wrong count"
unfoldable pub count_refusal : ℕ → Bool → ℕ → ℕ
count_refusal n hollow word = cond hollow 42 (cond (eqb word n) 0 43)

-- "42 a hollow tick, 44 ticks not rising"
unfoldable pub ticks_refusal : Bool → List ℕ → ℕ
ticks_refusal hollow ticks = cond hollow 42 (cond (rising ticks) 0 44)

abbrev pub or_else : ℕ → ℕ → ℕ
or_else n m = cond (eqb n 0) m n

-- ---- a sheet that is begun on the machine s, of the table at a and a time of n strokes
module _ (w : Way) (s : Machine) (a : BitAddress) (n : ℕ) where
  -- as if every tick were read: of a count that is refused only the first answer is looked at
  abbrev pub heard : List Answer
  heard = table_read w s a n

  abbrev pub ticks_heard : List ℕ
  ticks_heard = drop 1 (words_in heard)

  abbrev pub count_number : ℕ
  count_number = count_refusal n (any_hollow (take 1 heard)) (get_or (words_in heard) 0 0)

  unfoldable pub read_number : ℕ
  read_number = or_else count_number (ticks_refusal (any_hollow (drop 1 heard)) ticks_heard)

  -- "reads .. the count word, then, if that is right, every tick"
  abbrev pub words_read : ℕ
  words_read = cond (eqb count_number 0) (suc n) 1

  -- "The reader loads the pointer with two-lane writes .., and reads two lanes at a time"
  unfoldable pub made : List Sixteen
  made = loading s.registers.control a ++ reading words_read

  -- "each sheet shows which was used"; "under 42 to 44 the port has moved as its accesses say"
  unfoldable pub read_sheet : ℕ → Sheet
  read_sheet rule =
      record {
        number = read_number;
        rule = cond (eqb read_number 0) rule 0;
        strokes = cond (eqb read_number 0) n 0;
        registers = (w.ended s made).registers;
      }

  -- "the list's place k takes the even-tempo time", from the first tick to the last; "A refused sheet writes nothing"
  unfoldable pub read_list : List Float → List Float
  read_list l = cond (eqb read_number 0) (with_times (get_or ticks_heard 0 0) (get_or ticks_heard (n - 1) 0) n l) l

-- ---- any sheet, of the time t by the rule

-- "A refusal returns zeros": document 01
abbrev pub refused_sheet : ℕ → Registers → Sheet
refused_sheet n r = record { number = n; rule = 0; strokes = 0; registers = r }

abbrev pub number_before : Machine → ℕ → TimeStruck → ℕ → ℕ
number_before s rule t room = refusal_before (length s.memory) rule t room s.registers.control

module _ (w : Way) (s : Machine) (a : BitAddress) (rule : ℕ) (t : TimeStruck) where
  unfoldable pub sheet_of : ℕ → Sheet
  sheet_of room =
      cond (eqb (number_before s rule t room) 0)
      (read_sheet w s a (strokes_of rule t) rule)
      (refused_sheet (number_before s rule t room) s.registers)

  unfoldable pub list_after : List Float → List Float
  list_after l = cond (eqb (number_before s rule t (length l)) 0) (read_list w s a (strokes_of rule t) l) l

-- what a sheet leaves: its answer and registers, the memory, and the list
pub record Struck (r : Registers) (m : List ℕ) (a : BitAddress) (rule : ℕ) (t : TimeStruck) (l : List Float)
    (o : Sheet) (m' : List ℕ) (l' : List Float) : Type 0 where
  pub outcome : o ≡ sheet_of whole (machine r m) a rule t (length l)
  pub memory : m' ≡ m
  pub list : l' ≡ list_after whole (machine r m) a rule t l
