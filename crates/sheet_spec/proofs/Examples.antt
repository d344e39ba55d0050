-- Sheets worked out from the definitions alone, by computation.
use Prim.Native.Nat.{ℕ}
use mathlib.Core.Path.{◌≡◌, refl}
use mathlib.Core.Bool.{true, false}
use mathlib.Core.List.{List, [], ◌∷◌}
use lib.Ieee.{Float, of_int, add, mul, div}
use Rattle.words.specs.Addresses.{address}
use Rattle.words.specs.Bytes.{bit, takes_low, takes_high, are_lanes, lay}
use Rattle.words.specs.Memory.{fetch_at}
use Rattle.control.specs.Control.{bare, closes, fetches}
use Rattle.registers.specs.declared.Registers.{Registers}
use Rattle.registers.specs.Registers.{register_word, half_written, written}
use Rattle.port_spec.specs.Cycle.{stepped, cycle_of, after_fetch, carried, memory_after}
use Rattle.port_spec.specs.Host.{read_due, write_due, begin_access, refusal, done, access, access_memory}
use Rattle.port_spec.specs.Sequences.{Machine, answer_of, after, answers, ends}
use Rattle.port_spec.specs.Table.{loading, reading}
use Rattle.tempo_spec.specs.Tempo.{double, even_time, even_times}
use Rattle.sheet_spec.specs.InPlainWords.{time}
use Rattle.sheet_spec.specs.Reading.{whole, table_read, any_hollow, rising}
use Rattle.sheet_spec.specs.Sheet.{unknown_rule, out_of_range, strokes_of, refusal_before, count_refusal, ticks_refusal}
use Rattle.sheet_spec.specs.Sheet.{read_number, made, read_sheet, read_list, refused_sheet, sheet_of, list_after}
use Rattle.sheet_spec.specs.declared.TimeStruck.{TimeStruck}

-- INCR set, and a memory
abbrev on : List ℕ → Machine
on m = record { registers = record { pointer = address 0; latch = 0; control = 0x1000; hollow = true }; memory = m }

abbrev three_o_clock : TimeStruck
three_o_clock = time 3 0 0

abbrev quarter_past_one : TimeStruck
quarter_past_one = time 1 1 0

abbrev four_places : List Float
four_places = double 1 ∷ double 1 ∷ double 1 ∷ double 1 ∷ []

-- the registers at a bit address beyond these memories
abbrev beyond : ℕ → Registers
beyond n = record { pointer = address n; latch = 0xffff; control = 0x1000; hollow = true }

-- eight sheets: what each answers and leaves, or its list
pub record Sheets : Type 0 where
  -- 3:00, a table that ends with the memory's last word: its three strokes are at 10, 15 and 20, and the list's fourth place stays
  pub to_the_end : list_after whole (on (3 ∷ 10 ∷ 14 ∷ 20 ∷ [])) (address 0) 1 three_o_clock four_places ≡
      double 10 ∷ double 15 ∷ double 20 ∷ double 1 ∷ []
  -- the same with the last word missing: 42
  pub word_short : sheet_of whole (on (3 ∷ 10 ∷ 14 ∷ [])) (address 0) 1 three_o_clock 4 ≡ refused_sheet 42 (beyond 0x40)
  -- the same with two strokes at one tick: 44
  pub equal_pair : sheet_of whole (on (3 ∷ 10 ∷ 10 ∷ 20 ∷ [])) (address 0) 1 three_o_clock 4 ≡ refused_sheet 44 (beyond 0x40)
  -- both: 42 comes first
  pub equal_and_short : sheet_of whole (on (3 ∷ 10 ∷ 10 ∷ [])) (address 0) 1 three_o_clock 4 ≡ refused_sheet 42 (beyond 0x40)
  -- a wrong count, and no tick at all: 43 comes first, one word on
  pub wrong_and_short : sheet_of whole (on (9 ∷ [])) (address 0) 1 three_o_clock 4 ≡ refused_sheet 43 (beyond 0x10)
  -- no count word: 42, one word on
  pub no_count : sheet_of whole (on []) (address 0) 1 three_o_clock 4 ≡ refused_sheet 42 (beyond 0x10)
  -- 1:15 by rule 2, with three strokes, on the first of these tables: it passes
  pub quarter_twice : sheet_of whole (on (3 ∷ 10 ∷ 14 ∷ 20 ∷ [])) (address 0) 2 quarter_past_one 4 ≡
      record { number = 0; rule = 2; strokes = 3; registers = beyond 0x40 }
  -- the same by rule 1, with two: 43, one word on
  pub quarter_once : sheet_of whole (on (3 ∷ 10 ∷ 14 ∷ 20 ∷ [])) (address 0) 1 quarter_past_one 4 ≡
      refused_sheet 43 (record { pointer = address 0x10; latch = 10; control = 0x1000; hollow = false })

-- Eight sheets come out as `Sheets` says, by computation: one table among them passes by rule 2 and not by rule 1.
pub eight_sheets : Sheets
unfolding
    bit takes_low takes_high are_lanes lay fetch_at bare closes fetches register_word half_written written stepped cycle_of after_fetch
    carried memory_after read_due write_due begin_access refusal done access access_memory answer_of after answers ends loading reading
    even_time even_times of_int add mul div table_read any_hollow rising unknown_rule out_of_range strokes_of refusal_before count_refusal
    ticks_refusal read_number made read_sheet read_list sheet_of list_after
eight_sheets =
    record {
      to_the_end = refl;
      word_short = refl;
      equal_pair = refl;
      equal_and_short = refl;
      wrong_and_short = refl;
      no_count = refl;
      quarter_twice = refl;
      quarter_once = refl;
    }
