-- What a record of a script says: crates/bank_trial/src/main.rt, the table of 'A script'. Here it is the list of its bytes.
--   byte b k            byte k of the record b
--   number_at b k       the number of 32 bits whose first byte is byte k
--   word_from b k       the word of 16 bits whose first byte is byte k
--   is_start b          it is a fresh start
--   is_read b           it is a read
--   is_write b          it is a write; what is none of these three is a decode
--   number_in b         the index of a fresh start, the lanes of a read or a write, the kind of a decode
--   bank_in b n         of a fresh start: bank n
--   banks k0 k1 k2 k3   the registers of these four banks
--   port_in b           of a fresh start: the registers and the index
--   word_in b           of a write: the word
--   address_in b        of a decode: the address
--   control_in b        of a decode: the control word
--   zeroed              the port before the first record
use Rattle.std.specs.Prelude.{ℕ, ◌+◌, ◌*◌, ◌%◌, Bool, List, eqb, get_or}
use Rattle.words.specs.Addresses.{address}
use Rattle.words.specs.declared.BitAddress.{BitAddress}
use Rattle.bank_spec.specs.Registers.{bank}
use Rattle.bank_spec.specs.Access.{port}
use Rattle.bank_spec.specs.declared.Bank.{Bank}
use Rattle.bank_spec.specs.declared.Banks.{Banks}
use Rattle.bank_spec.specs.declared.BankPort.{BankPort}

-- ---- numbers

abbrev pub byte : List ℕ → ℕ → ℕ
byte b k = get_or b k 0

-- "numbers are low byte first"
abbrev pub number_at : List ℕ → ℕ → ℕ
number_at b k = byte b k + 256 * byte b (k + 1) + 65536 * byte b (k + 2) + 16777216 * byte b (k + 3)

abbrev pub word_from : List ℕ → ℕ → ℕ
word_from b k = byte b k + 256 * byte b (k + 1)

-- ---- the record

-- "what is done, modulo 4: 0 a fresh start, 1 a read, 2 a write, 3 a decode"
abbrev pub is_start : List ℕ → Bool
is_start b = eqb (byte b 0 % 4) 0

abbrev pub is_read : List ℕ → Bool
is_read b = eqb (byte b 0 % 4) 1

abbrev pub is_write : List ℕ → Bool
is_write b = eqb (byte b 0 % 4) 2

-- "bytes 4 to 7": "of a fresh start the index; of a read or a write the lanes; of a decode the kind"
abbrev pub number_in : List ℕ → ℕ
number_in b = number_at b 4

-- "bytes 8 to 39": "the registers, 4 bytes each: compare value 0, mask 0, compare value 1, mask 1, .. mask 3"
abbrev pub bank_in : List ℕ → ℕ → Bank
bank_in b n = bank (number_at b (8 + 8 * n)) (number_at b (12 + 8 * n))

abbrev pub banks : Bank → Bank → Bank → Bank → Banks
banks k0 k1 k2 k3 = record { bank0 = k0; bank1 = k1; bank2 = k2; bank3 = k3 }

abbrev pub port_in : List ℕ → BankPort
port_in b = port (banks (bank_in b 0) (bank_in b 1) (bank_in b 2) (bank_in b 3)) (number_in b)

-- "bytes 8, 9 the word"
abbrev pub word_in : List ℕ → ℕ
word_in b = word_from b 8

-- "bytes 8 to 11 the address, bytes 12, 13 the control word"
abbrev pub address_in : List ℕ → BitAddress
address_in b = address (number_at b 8)

abbrev pub control_in : List ℕ → ℕ
control_in b = word_from b 12

-- ---- before the first record

-- "all registers and the index are 0"
abbrev pub zeroed : BankPort
zeroed = port (banks (bank 0 0) (bank 0 0) (bank 0 0) (bank 0 0)) 0
