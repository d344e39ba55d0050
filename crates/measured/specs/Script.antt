-- A script of work: records of four numbers, each of four bytes, low byte first.
--   number_in s k       the number at byte k of a script
--   record_in s i       record i of a script
--   access_in k r l w   the access that a record's four numbers say: 0 for a read, the register, the lanes, the word
--   begun_at r p        the registers that a block begins with: the pointer p, and both steps on
use Rattle.std.specs.Prelude.{ℕ, ◌+◌, ◌*◌, ◌%◌, cond, List, ◌==◌, slice_index}
use Rattle.words.specs.Addresses.{address}
use Rattle.registers.specs.declared.Registers.{Registers}
use Rattle.port_spec.specs.declared.Access.{Access}
use Rattle.port_spec.specs.declared.Access.TheVariants.{Read, Write}
use Rattle.measured.specs.declared.Record.{Record}

unfoldable pub number_in : List ℕ → ℕ → ℕ
number_in s k = slice_index s k + 256 * slice_index s (k + 1) + 65536 * slice_index s (k + 2) + 16777216 * slice_index s (k + 3)

abbrev pub record_in : List ℕ → ℕ → Record
record_in s i =
    record {
      kind = number_in s (16 * i);
      first = number_in s (16 * i + 4);
      second = number_in s (16 * i + 8);
      third = number_in s (16 * i + 12);
    }

unfoldable pub access_in : ℕ → ℕ → ℕ → ℕ → Access
access_in kind register lanes word = cond (kind == 0) (Read register lanes) (Write register lanes (word % 65536))

-- INCR and INCW are bits 12 and 11
abbrev pub begun_at : Registers → ℕ → Registers
begun_at r p = record { pointer = address p; latch = r.latch; control = 0x1800; hollow = r.hollow }
