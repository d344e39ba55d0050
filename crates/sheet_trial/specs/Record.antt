-- What a record of a script says: crates/sheet_trial/src/main.rt, the table of 'A script'. A record is a list of 108 bytes.
--   number b k      number k of the record b
--   wide b k        the number of 32 bits whose low half is number k, and whose high half is the next
--   registers_in b, table_in b, rule_in b, time_in b   what the call takes
use Rattle.std.specs.Prelude.{ℕ, ◌+◌, ◌*◌, ◌%◌, List, eqb, get_or}
use Rattle.words.specs.Addresses.{address}
use Rattle.words.specs.declared.BitAddress.{BitAddress}
use Rattle.registers.specs.declared.Registers.{Registers}
use Rattle.sheet_spec.specs.declared.TimeStruck.{TimeStruck}

-- "54 numbers of 16 bits, low byte first, n0 to n53"
abbrev pub number : List ℕ → ℕ → ℕ
number b k = get_or b (2 * k) 0 + 256 * get_or b (2 * k + 1) 0

-- "low half, high half"
abbrev pub wide : List ℕ → ℕ → ℕ
wide b k = number b k + 65536 * number b (k + 1)

-- "n0, n1: the pointer"; "n2: HSTDATA"; "n3: HSTCTL"; "n4: the hollow mark, set if odd"
abbrev pub registers_in : List ℕ → Registers
registers_in b =
    record {
      pointer = address (wide b 0);
      latch = number b 2;
      control = number b 3;
      hollow = eqb (number b 4 % 2) 1;
    }

-- "n5, n6: the table's bit address"
abbrev pub table_in : List ℕ → BitAddress
table_in b = address (wide b 5)

-- "n7, n8: the rule"
abbrev pub rule_in : List ℕ → ℕ
rule_in b = wide b 7

-- "n9, n10: hours"; "n11, n12: quarters"; "n13, n14: minutes"
abbrev pub time_in : List ℕ → TimeStruck
time_in b = record { hours = wide b 9; quarters = wide b 11; minutes = wide b 13 }
