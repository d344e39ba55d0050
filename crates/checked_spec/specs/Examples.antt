-- The ten checked examples: document 01, 'Checked examples', each row under its sentence. A step is what is done or looked at, ⇒, and what
-- must come out. A host's access is `Read register lanes` or `Write register lanes word`. The pointer is loaded by writes of its two
-- halves; with LBL 0 the high one fetches. A row that goes on where another ended starts with what that one left.
--   INCW, INCR         the control word with that bit alone: "INCW 11, INCR 12"
--   held, hollow       the hollow mark of a read of HSTDATA
--   no_mark            that of any other access
--   answer n w h c     what the host is answered: "number, word .., hollow mark .., and the cycle"
--   controlled c m     the registers as reset leaves them, but for the control word c; and a memory
--   at_rest s          no bus request waits
--   examples           the ten rows
use Rattle.std.specs.Prelude.{ℕ, ◌^◌, Bool, true, false, List, [], ◌∷◌, pos, neg_ℤ}
use Rattle.bus.specs.Order.{quiet}
use Rattle.bus.specs.declared.Bus.{Bus}
use Rattle.registers.specs.Processor.{fresh}
use Rattle.port_spec.specs.Deeds.{woken}
use Rattle.port_spec.specs.Sequences.{Machine}
use Rattle.port_spec.specs.declared.Access.TheVariants.{Read, Write}
use Rattle.port_spec.specs.declared.Cycle.{Cycle}
use Rattle.port_spec.specs.declared.Cycle.TheVariants.{None, Inside, Empty}
use Rattle.checked_spec.specs.Acts.{World, Seen, Example, ◌⇒◌, left}
use Rattle.checked_spec.specs.Acts.{host, processor, put, take, take_signed, grant, release, pointer, hstdata, low_control_byte}
use Rattle.checked_spec.specs.Acts.{memory, answered, put_in, taken_out, taken_out_signed, granted_to, number, is, words}

abbrev pub INCW : ℕ
INCW = 2 ^ 11

abbrev pub INCR : ℕ
INCR = 2 ^ 12

abbrev pub held : Bool
held = false

abbrev pub hollow : Bool
hollow = true

abbrev pub no_mark : Bool
no_mark = false

abbrev pub answer : ℕ → ℕ → Bool → Cycle → Seen
answer n w h c = answered (record { number = n; word = w; hollow = h; cycle = c })

abbrev pub controlled : ℕ → List ℕ → Machine
controlled c m = record { registers = fresh c; memory = m }

abbrev pub at_rest : Machine → World
at_rest s = record { machine = s; bus = quiet }

-- "K1-K4 start with memory 1111h, 2222h, 3333h and LBL 0"
abbrev pub three_words : List ℕ
three_words = 0x1111 ∷ 0x2222 ∷ 0x3333 ∷ []

-- K1. "INCR 1, pointer loaded with 0: three reads give 1111h, 2222h, 3333h, all held; the third's cycle is empty and the pointer is 30h."
unfoldable pub row_1 : Example
row_1 =
    record {
      start = at_rest (controlled INCR three_words);
      steps =
          host (Write 0 3 0x0000) ⇒ answer 0 0x0000 no_mark None ∷
          host (Write 1 3 0x0000) ⇒ answer 0 0x0000 no_mark Inside ∷
          host (Read 2 3) ⇒ answer 0 0x1111 held Inside ∷
          host (Read 2 3) ⇒ answer 0 0x2222 held Inside ∷
          host (Read 2 3) ⇒ answer 0 0x3333 held Empty ∷
          pointer ⇒ is 0x30 ∷
          [];
    }

-- K2. "A fourth read: FFFFh, hollow; pointer 40h."
unfoldable pub row_2 : Example
row_2 =
    record {
      start = left row_1;
      steps =
          host (Read 2 3) ⇒ answer 0 0xFFFF hollow Empty ∷
          pointer ⇒ is 0x40 ∷
          [];
    }

-- K3. "INCW 1, INCR 0, pointer 0: write AAAAh, then two reads give AAAAh and 2222h; pointer 10h."
unfoldable pub row_3 : Example
row_3 =
    record {
      start = at_rest (controlled INCW three_words);
      steps =
          host (Write 0 3 0x0000) ⇒ answer 0 0x0000 no_mark None ∷
          host (Write 1 3 0x0000) ⇒ answer 0 0x0000 no_mark Inside ∷
          host (Write 2 3 0xAAAA) ⇒ answer 0 0x0000 no_mark Inside ∷
          host (Read 2 3) ⇒ answer 0 0xAAAA held Inside ∷
          host (Read 2 3) ⇒ answer 0 0x2222 held Inside ∷
          pointer ⇒ is 0x10 ∷
          [];
    }

-- K4. "Pointer FFFFFFF0h, INCR 1: a read leaves pointer 0 and fetches word 0."
unfoldable pub row_4 : Example
row_4 =
    record {
      start = at_rest (controlled INCR three_words);
      steps =
          host (Write 0 3 0xFFF0) ⇒ answer 0 0x0000 no_mark None ∷
          host (Write 1 3 0xFFFF) ⇒ answer 0 0x0000 no_mark Empty ∷
          pointer ⇒ is 0xFFFFFFF0 ∷
          host (Read 2 3) ⇒ answer 0 0xFFFF hollow Inside ∷
          pointer ⇒ is 0 ∷
          hstdata ⇒ is 0x1111 ∷
          [];
    }

-- K5. "Low control byte 80h, host writes 0Dh: 0Dh. Host then writes F0h: 08h."
unfoldable pub row_5 : Example
row_5 =
    record {
      start = at_rest (controlled 0x80 []);
      steps =
          host (Write 3 1 0x0D) ⇒ answer 0 0x0000 no_mark None ∷
          low_control_byte ⇒ is 0x0D ∷
          host (Write 3 1 0xF0) ⇒ answer 0 0x0000 no_mark None ∷
          low_control_byte ⇒ is 0x08 ∷
          [];
    }

-- K6. "Low control byte 0Dh, processor writes F0h: F5h."
unfoldable pub row_6 : Example
row_6 =
    record {
      start = at_rest (controlled 0x0D []);
      steps =
          processor 3 0xF0 ⇒ number 0 ∷
          low_control_byte ⇒ is 0xF5 ∷
          [];
    }

-- K7. "Two words, both 0; size 4 at bit 14, value Ah: 8000h, 0002h, four cycles."
unfoldable pub row_7 : Example
row_7 =
    record {
      start = at_rest (woken (0 ∷ 0 ∷ []));
      steps =
          put 4 14 0xA ⇒ put_in (record { number = 0; cycles = 4 }) ∷
          memory ⇒ words (0x8000 ∷ 0x0002 ∷ []) ∷
          [];
    }

-- K8. "That field taken out: 10, signed -6, two cycles."
unfoldable pub row_8 : Example
row_8 =
    record {
      start = left row_7;
      steps =
          take 4 14 ⇒ taken_out (record { number = 0; value = 10; cycles = 2 }) ∷
          take_signed 4 14 ⇒ taken_out_signed (record { number = 0; value = neg_ℤ (pos 6); cycles = 2 }) ∷
          [];
    }

-- K9. "Three words, all 0; size 32 at bit 1, all ones: FFFEh, FFFFh, 0001h, five cycles."
unfoldable pub row_9 : Example
row_9 =
    record {
      start = at_rest (woken (0 ∷ 0 ∷ 0 ∷ []));
      steps =
          put 32 1 0xFFFFFFFF ⇒ put_in (record { number = 0; cycles = 5 }) ∷
          memory ⇒ words (0xFFFE ∷ 0xFFFF ∷ 0x0001 ∷ []) ∷
          [];
    }

abbrev pub all_waiting : Bus
all_waiting = record { hold = true; screen = true; dram = true; host = true; processor = true }

-- K10. "All five waiting, hold released after its grant: 1, 2, 3, 4, then number 8."
unfoldable pub row_10 : Example
row_10 =
    record {
      start = record { machine = woken []; bus = all_waiting };
      steps =
          grant ⇒ granted_to 0 0 ∷
          release ⇒ number 0 ∷
          grant ⇒ granted_to 0 1 ∷
          grant ⇒ granted_to 0 2 ∷
          grant ⇒ granted_to 0 3 ∷
          grant ⇒ granted_to 0 4 ∷
          grant ⇒ granted_to 8 0 ∷
          [];
    }

unfoldable pub examples : List Example
examples = row_1 ∷ row_2 ∷ row_3 ∷ row_4 ∷ row_5 ∷ row_6 ∷ row_7 ∷ row_8 ∷ row_9 ∷ row_10 ∷ []
