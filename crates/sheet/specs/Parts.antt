-- The parts of a sheet: what the private functions state.
--   ReadTicks                        what some reads leave: registers with memory, a hollow mark for all of them, and their words
--   ticks_of, ticks_number           n ticks that are read from the machine s on, and their number: 42 or 44, or 0
--   ticks_sheet, ticks_list          a sheet whose count was right: what it answers, and the list
--   TookTicks, ReadTable             what the two halves of a sheet leave
use Rattle.std.specs.Prelude.{ℕ, ◌-◌, ◌≡◌, cond, List, eqb, Float, get_or}
use Rattle.words.specs.declared.BitAddress.{BitAddress}
use Rattle.port_spec.specs.Sequences.{Machine, machine, answers, ends, words_in}
use Rattle.port_spec.specs.Table.{reading}
use Rattle.tempo_spec.specs.Tempo.{with_times}
use Rattle.sheet_spec.specs.Reading.{whole, any_hollow}
use Rattle.sheet_spec.specs.Sheet.{ticks_refusal, read_sheet, read_list}
use Rattle.sheet_spec.specs.declared.Sheet.{Sheet}
use Rattle.sheet.specs.declared.TicksRead.{TicksRead}

-- n reads from the machine s, into all of a part of n places
pub record ReadTicks (s : Machine) (n : ℕ) (o : TicksRead) (m' part : List ℕ) : Type 0 where
  pub ends_at : machine o.registers m' ≡ ends s (reading n)
  pub hollow : o.hollow ≡ any_hollow (answers s (reading n))
  pub words : part ≡ words_in (answers s (reading n))

module _ (s : Machine) (n : ℕ) where
  abbrev pub ticks_of : List ℕ
  ticks_of = words_in (answers s (reading n))

  unfoldable pub ticks_number : ℕ
  ticks_number = ticks_refusal (any_hollow (answers s (reading n))) ticks_of

  unfoldable pub ticks_sheet : ℕ → Sheet
  ticks_sheet rule =
      record {
        number = ticks_number;
        rule = cond (eqb ticks_number 0) rule 0;
        strokes = cond (eqb ticks_number 0) n 0;
        registers = (ends s (reading n)).registers;
      }

  unfoldable pub ticks_list : List Float → List Float
  ticks_list l = cond (eqb ticks_number 0) (with_times (get_or ticks_of 0 0) (get_or ticks_of (n - 1) 0) n l) l

-- the ticks, read from the machine s on
pub record TookTicks (s : Machine) (rule n : ℕ) (l : List Float) (o : Sheet) (m' : List ℕ) (l' : List Float) : Type 0 where
  pub outcome : o ≡ ticks_sheet s n rule
  pub memory : m' ≡ s.memory
  pub list : l' ≡ ticks_list s n l

-- the whole table at a, of n strokes
pub record ReadTable (s : Machine) (a : BitAddress) (rule n : ℕ) (l : List Float)
    (o : Sheet) (m' : List ℕ) (l' : List Float) : Type 0 where
  pub outcome : o ≡ read_sheet whole s a n rule
  pub memory : m' ≡ s.memory
  pub list : l' ≡ read_list whole s a n l
