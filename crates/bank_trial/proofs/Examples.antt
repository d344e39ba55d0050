-- What records say and leave, by computation: the record whose byte k is k, so that each byte tells its place; and the records of a short
-- script, carried out one after the other.
use Prim.Native.Nat.{ℕ, zero, suc, ◌/◌, ◌%◌}
use mathlib.Core.Path.{◌≡◌, refl}
use mathlib.Core.Bool.{Bool, true, false}
use mathlib.Core.List.{List, [], ◌∷◌, ◌++◌}
use Rattle.words.specs.Addresses.{address}
use Rattle.words.specs.Bytes.{bit, are_lanes}
use Rattle.bank_spec.specs.Registers.{bank, bank_at, with_bank, half, with_half, value_of, with_value, half_at, with_half_at}
use Rattle.bank_spec.specs.Access.{port, refusal, read_answer, write_answer}
use Rattle.bank_spec.specs.Decode.{agrees_at, agrees_below, agrees, in_turn, admits, selects, decoded_as, decoded}
use Rattle.bank_spec.specs.declared.BankPort.{BankPort}
use Rattle.bank_trial.specs.Record.{is_start, is_read, is_write, number_in, banks, port_in, word_in, address_in, control_in, zeroed}
use Rattle.bank_trial.specs.Selected.{digit}
use Rattle.bank_trial.specs.CarriedOut.{left, decoded_by, carried}

-- n numbers from k on
abbrev counting : ℕ → ℕ → List ℕ
counting k zero = []
counting k (suc n) = k ∷ counting (suc k) n

abbrev own_places : List ℕ
own_places = counting 0 40

-- whether a record with that first byte is a fresh start, a read, a write; one that is neither is a decode
abbrev asks : ℕ → Bool → Bool → Bool → Type 0
asks a s r w = (is_start (a ∷ []) ≡ s) × (is_read (a ∷ []) ≡ r) × (is_write (a ∷ []) ≡ w)

-- what records say, and the digits for selected banks
pub record Says : Type 0 where
  -- "what is done, modulo 4: 0 a fresh start, 1 a read, 2 a write, 3 a decode"
  pub starting : (asks 0 true false false) × (asks 4 true false false)
  pub reading : (asks 1 false true false) × (asks 5 false true false)
  pub writing : (asks 2 false false true) × (asks 6 false false true)
  pub decoding : (asks 3 false false false) × (asks 255 false false false)
  -- "numbers are low byte first", from byte 4 on, and from byte 8 on
  pub number_held : number_in own_places ≡ 0x07060504
  pub port_held :
      port_in own_places ≡
      port (banks (bank 0x0b0a0908 0x0f0e0d0c) (bank 0x13121110 0x17161514) (bank 0x1b1a1918 0x1f1e1d1c) (bank 0x23222120 0x27262524))
      0x07060504
  pub word_held : word_in own_places ≡ 0x0908
  pub address_held : address_in own_places ≡ address 0x0b0a0908
  pub control_held : control_in own_places ≡ 0x0d0c
  -- a byte that is not there counts as 0, and so do all registers and the index before the first record
  pub nothing_held : port_in [] ≡ zeroed
  -- "one digit whose bit n is bank n"
  pub no_bank : digit (decoded_as 31 false false false false) ≡ 0
  pub each_bank :
      (digit (decoded_as 0 true false false false) ≡ 1) × (digit (decoded_as 0 false true false false) ≡ 2) ×
      (digit (decoded_as 0 false false true false) ≡ 4) × (digit (decoded_as 0 false false false true) ≡ 8)
  pub several_banks : digit (decoded_as 0 true true false true) ≡ 0xb

-- Byte 0 says, modulo 4, what is done; numbers, registers, word, address and control word are read from the record's bytes at their places,
-- low byte first; and the digit's bit n is bank n.
pub they_say : Says
they_say =
    record {
      starting = ((refl, refl, refl), (refl, refl, refl));
      reading = ((refl, refl, refl), (refl, refl, refl));
      writing = ((refl, refl, refl), (refl, refl, refl));
      decoding = ((refl, refl, refl), (refl, refl, refl));
      number_held = refl;
      port_held = refl;
      word_held = refl;
      address_held = refl;
      control_held = refl;
      nothing_held = refl;
      no_bank = refl;
      each_bank = (refl, refl, refl, refl);
      several_banks = refl;
    }

-- ---- a short script

-- a number's four bytes; a word's two, with two behind them that play no part
abbrev number_bytes : ℕ → List ℕ
number_bytes n = n % 256 ∷ n / 256 % 256 ∷ n / 65536 % 256 ∷ n / 16777216 ∷ []

abbrev word_bytes : ℕ → List ℕ
word_bytes w = w % 256 ∷ w / 256 ∷ 0xAA ∷ 0xAA ∷ []

-- what is done is a, the number is n, from byte 8 on stands s; bytes 1 to 3 play no part
abbrev asking : ℕ → ℕ → List ℕ → List ℕ
asking a n s = a ∷ 0xAA ∷ 0xAA ∷ 0xAA ∷ number_bytes n ++ s

-- a decode of that kind at address 130010h, under the control word c
abbrev decoding : ℕ → ℕ → List ℕ
decoding kind c = asking 3 kind (number_bytes 0x130010 ++ word_bytes c)

-- 2^20 bits from 0 on, 2^20 bits behind these, and 2^17 bits among the latter twice, the second time with the mask m; and the index
abbrev with_last_mask : ℕ → ℕ → BankPort
with_last_mask m i = port (banks (bank 0 0xFFF00000) (bank 0x100000 0xFFF00000) (bank 0x120000 0xFFFE0000) (bank 0x120000 m)) i

-- the bytes of these registers, all masks being those of the sizes
abbrev registers : List ℕ
registers =
    number_bytes 0 ++ number_bytes 0xFFF00000 ++ number_bytes 0x100000 ++ number_bytes 0xFFF00000 ++ number_bytes 0x120000 ++
    number_bytes 0xFFFE0000 ++ number_bytes 0x120000 ++ number_bytes 0xFFFE0000

-- the port as it begins, with the index 46, which counts as 14; and when the script has written and read
abbrev begun : BankPort
begun = with_last_mask 0xFFFE0000 46

abbrev settled : BankPort
settled = with_last_mask 0xFFFE8000 0

-- what the records of a short script leave, carried out one after the other
pub record Leaves : Type 0 where
  -- a fresh start, on the port before the first record
  pub begins : carried zeroed (asking 0 46 registers) ≡ left 0 0 0 begun
  -- place 14 is the low half of the last mask: a write to its low byte is refused with 30, and the index stays
  pub byte_write : carried begun (asking 2 1 (word_bytes 0x8000)) ≡ left 30 0 0 begun
  -- a read with lanes 4, which are none, is refused with 3
  pub no_lanes_read : carried begun (asking 1 4 []) ≡ left 3 0 0 begun
  -- a write to both its bytes
  pub write : carried begun (asking 2 3 (word_bytes 0x8000)) ≡ left 0 0 0 (with_last_mask 0xFFFE8000 15)
  -- place 15, the high half, is read, and the index returns to 0
  pub read : carried (with_last_mask 0xFFFE8000 15) (asking 1 3 []) ≡ left 0 0xFFFE 0 settled
  -- an ordinary cycle selects each bank that has the address: all but bank 0
  pub ordinary : carried settled (decoding 0 0) ≡ left 0 0 0xe settled
  -- refresh of alternate pairs: address bit 16 is 1, so that of these the odd ones are selected
  pub refresh : carried settled (decoding 1 0x0040) ≡ left 0 0 0xa settled
  -- a special cycle, which the control word admits for banks 0, 1 and 2
  pub special : carried settled (decoding 2 0x7000) ≡ left 0 0 6 settled
  -- an unknown kind is refused with 31, and no bank is selected
  pub unknown : carried settled (decoding 3 0x7000) ≡ left 31 0 0 settled

-- By computation: a fresh start, accesses that are refused with 30 and 3, a write and a read, after which the index returns to 0, and
-- decodes of each kind and of an unknown one.
pub they_leave : Leaves
unfolding
    carried decoded_by bank_at with_bank half with_half value_of with_value half_at with_half_at are_lanes refusal read_answer write_answer
    agrees_at agrees_below agrees in_turn admits selects decoded bit
they_leave =
    record {
      begins = refl;
      byte_write = refl;
      no_lanes_read = refl;
      write = refl;
      read = refl;
      ordinary = refl;
      refresh = refl;
      special = refl;
      unknown = refl;
    }
