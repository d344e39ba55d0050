-- Worked examples of the bank selects, worked out by hand from source document 001: calls one after another, what each answers, and the
-- registers that they leave.
--   Told                  what is told of an access: number, word, and the index afterwards; told n w i is that by its parts, said o that
--                         of an answer
--   Call                  reads lanes o, writes lanes w o: an access, and what is told of it
--                         decodes control address kind o: a decode, and what it answers
--   Row                   registers and index at the start, calls, and the registers afterwards; row b i cs b' is that by its parts
--   called, left_by       calls with what is told by the definitions, and the registers that they leave; worked r, both of a row
--   banks c0 m0 .. c3 m3  the registers, by their eight values
--   none, all             a decode's answers that show no bank, all four; only0 to only3, those that show one
--   unset, apart, anywhere   registers to start with
--   sample_map            source document 001's sample memory map
--   order, bytes, no_lanes, wrap, special, refresh, several, seen, examples  the other rows, and all of them
use Rattle.std.specs.Prelude.{ℕ, true, false, List, [], ◌∷◌, ◌++◌}
use Rattle.words.specs.Addresses.{address}
use Rattle.bank_spec.specs.Registers.{bank}
use Rattle.bank_spec.specs.Access.{port, read_answer, write_answer}
use Rattle.bank_spec.specs.Decode.{decoded_as, decoded}
use Rattle.bank_spec.specs.declared.Banks.{Banks}
use Rattle.bank_spec.specs.declared.BankPort.{BankPort}
use Rattle.bank_spec.specs.declared.BankAnswer.{BankAnswer}
use Rattle.bank_spec.specs.declared.Decoded.{Decoded}

pub record Told : Type 0 where
  pub number : ℕ
  pub word : ℕ
  pub index : ℕ

abbrev pub told : ℕ → ℕ → ℕ → Told
told n w i = record { number = n; word = w; index = i }

abbrev pub said : BankAnswer → Told
said o = record { number = o.number; word = o.word; index = o.port.index }

pub data Call : Type 0 where
  reads : ℕ → Told → Call
  writes : ℕ → ℕ → Told → Call
  decodes : ℕ → ℕ → ℕ → Decoded → Call

pub record Row : Type 0 where
  pub start : BankPort
  pub calls : List Call
  pub left : Banks

abbrev pub row : Banks → ℕ → List Call → Banks → Row
row b i cs b' = record { start = port b i; calls = cs; left = b' }

abbrev pub called : BankPort → List Call → List Call
called p [] = []
called p (reads lanes o ∷ cs) = reads lanes (said (read_answer p lanes)) ∷ called (read_answer p lanes).port cs
called p (writes lanes w o ∷ cs) = writes lanes w (said (write_answer p lanes w)) ∷ called (write_answer p lanes w).port cs
called p (decodes c a kind o ∷ cs) = decodes c a kind (decoded p.banks c (address a) kind) ∷ called p cs

abbrev pub left_by : BankPort → List Call → Banks
left_by p [] = p.banks
left_by p (reads lanes o ∷ cs) = left_by (read_answer p lanes).port cs
left_by p (writes lanes w o ∷ cs) = left_by (write_answer p lanes w).port cs
left_by p (decodes c a kind o ∷ cs) = left_by p cs

abbrev pub worked : Row → Row
worked r = record { start = r.start; calls = called r.start r.calls; left = left_by r.start r.calls }

abbrev pub banks : ℕ → ℕ → ℕ → ℕ → ℕ → ℕ → ℕ → ℕ → Banks
banks c0 m0 c1 m1 c2 m2 c3 m3 = record { bank0 = bank c0 m0; bank1 = bank c1 m1; bank2 = bank c2 m2; bank3 = bank c3 m3 }

abbrev pub none : Decoded
none = decoded_as 0 false false false false

abbrev pub all : Decoded
all = decoded_as 0 true true true true

abbrev pub only0 : Decoded
only0 = decoded_as 0 true false false false

abbrev pub only1 : Decoded
only1 = decoded_as 0 false true false false

abbrev pub only2 : Decoded
only2 = decoded_as 0 false false true false

abbrev pub only3 : Decoded
only3 = decoded_as 0 false false false true

-- registers that nobody has set: after reset they are "uninitialized"
abbrev pub unset : Banks
unset = banks 0xEEEEEEEE 0xEEEEEEEE 0xEEEEEEEE 0xEEEEEEEE 0xEEEEEEEE 0xEEEEEEEE 0xEEEEEEEE 0xEEEEEEEE

-- ---- the sample memory map, written half by half in the order of BPNT; then ordinary cycles, with ABE set

unfoldable pub sample_map : List Row
sample_map =
    row unset 0
    -- BKAD0L = 2000h, BKAD0H = C000h: the registers of a TLC34075, C0002000h to C00021FFh
    (writes 3 0x2000 (told 0 0 1) ∷
    writes 3 0xC000 (told 0 0 2) ∷
    -- BKAD1L, BKAD1H: DRAM, FF800000h to FFFFFFFFh
    writes 3 0x0000 (told 0 0 3) ∷
    writes 3 0xFF80 (told 0 0 4) ∷
    -- BKAD2L, BKAD2H: VRAM, 01800000h to 01FFFFFFh
    writes 3 0x0000 (told 0 0 5) ∷
    writes 3 0x0180 (told 0 0 6) ∷
    -- BKAD3L, BKAD3H: VRAM, 01000000h to 017FFFFFh; Figure 2 has its first address among those unused too
    writes 3 0x0000 (told 0 0 7) ∷
    writes 3 0x0100 (told 0 0 8) ∷
    -- BKMSK0L, BKMSK0H to BKMSK3L, BKMSK3H
    writes 3 0xFE00 (told 0 0 9) ∷
    writes 3 0xFFFF (told 0 0 10) ∷
    writes 3 0x0000 (told 0 0 11) ∷
    writes 3 0xFF80 (told 0 0 12) ∷
    writes 3 0x0000 (told 0 0 13) ∷
    writes 3 0xFF80 (told 0 0 14) ∷
    writes 3 0x0000 (told 0 0 15) ∷
    writes 3 0xFF80 (told 0 0 0) ∷
    -- just before each range, its first address, its last, and the one behind it; 017FFFFFh and 01800000h do for two ranges
    decodes 0x0020 0xC0001FFF 0 none ∷
    decodes 0x0020 0xC0002000 0 only0 ∷
    decodes 0x0020 0xC00021FF 0 only0 ∷
    decodes 0x0020 0xC0002200 0 none ∷
    decodes 0x0020 0xFF7FFFFF 0 none ∷
    decodes 0x0020 0xFF800000 0 only1 ∷
    decodes 0x0020 0xFFFFFFFF 0 only1 ∷
    decodes 0x0020 0x00000000 0 none ∷
    decodes 0x0020 0x017FFFFF 0 only3 ∷
    decodes 0x0020 0x01800000 0 only2 ∷
    decodes 0x0020 0x01FFFFFF 0 only2 ∷
    decodes 0x0020 0x02000000 0 none ∷
    decodes 0x0020 0x00FFFFFF 0 none ∷
    decodes 0x0020 0x01000000 0 only3 ∷
    [])
    (banks 0xC0002000 0xFFFFFE00 0xFF800000 0xFF800000 0x01800000 0xFF800000 0x01000000 0xFF800000) ∷
    []

-- ---- the port

-- eight values with no half in common
abbrev pub apart : Banks
apart = banks 0x11110000 0x99998888 0x33332222 0xBBBBAAAA 0x55554444 0xDDDDCCCC 0x77776666 0xFFFFEEEE

unfoldable pub order : List Row
order =
    -- all sixteen places in their order: compare values first, then masks, each the low half first
    row apart 0
    (reads 3 (told 0 0x0000 1) ∷
    reads 3 (told 0 0x1111 2) ∷
    reads 3 (told 0 0x2222 3) ∷
    reads 3 (told 0 0x3333 4) ∷
    reads 3 (told 0 0x4444 5) ∷
    reads 3 (told 0 0x5555 6) ∷
    reads 3 (told 0 0x6666 7) ∷
    reads 3 (told 0 0x7777 8) ∷
    reads 3 (told 0 0x8888 9) ∷
    reads 3 (told 0 0x9999 10) ∷
    reads 3 (told 0 0xAAAA 11) ∷
    reads 3 (told 0 0xBBBB 12) ∷
    reads 3 (told 0 0xCCCC 13) ∷
    reads 3 (told 0 0xDDDD 14) ∷
    reads 3 (told 0 0xEEEE 15) ∷
    reads 3 (told 0 0xFFFF 0) ∷
    reads 3 (told 0 0x0000 1) ∷
    [])
    apart ∷
    []

unfoldable pub bytes : List Row
bytes =
    -- byte accesses amid others: neither the index nor a register moves
    row apart 5
    (reads 1 (told 30 0 5) ∷
    reads 2 (told 30 0 5) ∷
    writes 1 0xABCD (told 30 0 5) ∷
    writes 2 0xABCD (told 30 0 5) ∷
    reads 3 (told 0 0x5555 6) ∷
    writes 3 0xABCD (told 0 0 7) ∷
    writes 1 0x1234 (told 30 0 7) ∷
    writes 3 0x1234 (told 0 0 8) ∷
    [])
    (banks 0x11110000 0x99998888 0x33332222 0xBBBBAAAA 0x55554444 0xDDDDCCCC 0x1234ABCD 0xFFFFEEEE) ∷
    []

unfoldable pub no_lanes : List Row
no_lanes =
    -- lanes that are none, amid others: nothing moves either
    row apart 9
    (reads 0 (told 3 0 9) ∷
    reads 4 (told 3 0 9) ∷
    reads 7 (told 3 0 9) ∷
    reads 0xFFFFFFFF (told 3 0 9) ∷
    writes 0 0xABCD (told 3 0 9) ∷
    writes 4 0xABCD (told 3 0 9) ∷
    writes 5 0xABCD (told 3 0 9) ∷
    writes 0xFFFFFFFF 0xABCD (told 3 0 9) ∷
    reads 1 (told 30 0 9) ∷
    reads 3 (told 0 0x9999 10) ∷
    writes 4 0x1234 (told 3 0 10) ∷
    reads 3 (told 0 0xAAAA 11) ∷
    [])
    apart ∷
    []

unfoldable pub wrap : List Row
wrap =
    -- behind the last place comes the first
    row apart 15
    (writes 3 0x5A5A (told 0 0 0) ∷
    writes 3 0xA5A5 (told 0 0 1) ∷
    [])
    (banks 0x1111A5A5 0x99998888 0x33332222 0xBBBBAAAA 0x55554444 0xDDDDCCCC 0x77776666 0x5A5AEEEE) ∷
    -- the greatest index is the last place, and stays as it was passed until an access of sixteen bits
    row apart 0xFFFFFFFF
    (reads 2 (told 30 0 0xFFFFFFFF) ∷
    writes 0 0xABCD (told 3 0 0xFFFFFFFF) ∷
    reads 3 (told 0 0xFFFF 0) ∷
    [])
    apart ∷
    -- 24 is place 8
    row apart 24
    (writes 3 0x0F0F (told 0 0 9) ∷
    [])
    (banks 0x11110000 0x99990F0F 0x33332222 0xBBBBAAAA 0x55554444 0xDDDDCCCC 0x77776666 0xFFFFEEEE) ∷
    []

-- ---- what the control word admits

-- every address agrees with every bank
abbrev pub anywhere : Banks
anywhere = banks 0xFFFFFFFF 0 0x12345678 0 0 0 0x80000001 0

unfoldable pub special : List Row
special =
    -- a set BVEN bit admits a special cycle, bank 0's is bit 12; no other bit does
    row anywhere 0
    (decodes 0x1000 0 2 only0 ∷
    decodes 0x2000 0xFFFFFFFF 2 only1 ∷
    decodes 0x4000 0x00010000 2 only2 ∷
    decodes 0x8000 0x00030000 2 only3 ∷
    decodes 0xF000 0 2 all ∷
    decodes 0x1FC0 0 2 only0 ∷
    decodes 0x0FFF 0 2 none ∷
    -- an ordinary cycle is admitted by any word
    decodes 0x0000 0 0 all ∷
    decodes 0x0FC0 0x55555555 0 all ∷
    -- of no other kind
    decodes 0xF000 0 3 (decoded_as 31 false false false false) ∷
    decodes 0xF000 0 0xFFFFFFFF (decoded_as 31 false false false false) ∷
    [])
    anywhere ∷
    []

unfoldable pub refresh : List Row
refresh =
    -- RM 00: all banks at once, but where a BDRD bit is set, bank 0's is bit 8
    row anywhere 0
    (decodes 0xF000 0 1 all ∷
    decodes 0x003F 0x00030000 1 all ∷
    decodes 0x0E00 0 1 only0 ∷
    decodes 0x0D00 0 1 only1 ∷
    decodes 0x0B00 0 1 only2 ∷
    decodes 0x0700 0 1 only3 ∷
    decodes 0x0F00 0 1 none ∷
    decodes 0xFF00 0 1 none ∷
    -- RM 01: banks 0 and 2 where address bit 16 is 0, else 1 and 3
    decodes 0x0040 0x00000000 1 (decoded_as 0 true false true false) ∷
    decodes 0x0040 0x00010000 1 (decoded_as 0 false true false true) ∷
    decodes 0x0040 0xFFFEFFFF 1 (decoded_as 0 true false true false) ∷
    decodes 0xF240 0x00010000 1 only3 ∷
    -- RM 10: the bank that address bits 17 and 16 name
    decodes 0x0080 0x00000000 1 only0 ∷
    decodes 0x0080 0x00010000 1 only1 ∷
    decodes 0xF080 0x00020000 1 only2 ∷
    decodes 0x0080 0xFFFFFFFF 1 only3 ∷
    decodes 0x0880 0xFFFFFFFF 1 none ∷
    -- RM 11: none
    decodes 0x00C0 0x00000000 1 none ∷
    decodes 0x00C0 0x00010000 1 none ∷
    decodes 0xF0C0 0x00020000 1 none ∷
    decodes 0x00C0 0x00030000 1 none ∷
    [])
    anywhere ∷
    -- the address must agree in these cycles too
    row (banks 0x01000000 0xFF800000 0x01000000 0xFFFF0000 0x01000000 0x01000000 0 0xFFFFFFFF) 0
    (decodes 0xF000 0x01010000 1 (decoded_as 0 true false true false) ∷
    decodes 0xF000 0x01010000 2 (decoded_as 0 true false true false) ∷
    [])
    (banks 0x01000000 0xFF800000 0x01000000 0xFFFF0000 0x01000000 0x01000000 0 0xFFFFFFFF) ∷
    []

unfoldable pub several : List Row
several =
    -- one address, banks of four sizes around it: all that agree are shown, not the lowest alone
    row (banks 0 0x80000000 0x40000000 0xC0000000 0x41000000 0xFF000000 0x41000001 0xFFFFFFFF) 0
    (decodes 0 0x41000001 0 all ∷
    decodes 0 0x41000000 0 (decoded_as 0 true true true false) ∷
    decodes 0 0x40000000 0 (decoded_as 0 true true false false) ∷
    decodes 0 0x3FFFFFFF 0 only0 ∷
    decodes 0 0x80000000 0 none ∷
    [])
    (banks 0 0x80000000 0x40000000 0xC0000000 0x41000000 0xFF000000 0x41000001 0xFFFFFFFF) ∷
    -- bits of a compare value that its mask disregards
    row (banks 0xFFFFFFFF 0x00000001 0xFFFFFFFF 0x80000000 0x00008000 0x00018000 0x00010000 0x00018000) 0
    (decodes 0 0x00000001 0 only0 ∷
    decodes 0 0x80000000 0 only1 ∷
    decodes 0 0x7FFE8000 0 only2 ∷
    decodes 0 0x00010000 0 only3 ∷
    decodes 0 0x00018000 0 none ∷
    [])
    (banks 0xFFFFFFFF 0x00000001 0xFFFFFFFF 0x80000000 0x00008000 0x00018000 0x00010000 0x00018000) ∷
    []

unfoldable pub seen : List Row
seen =
    -- the next decode sees what was written: bank 0's mask, then its compare value
    row anywhere 8
    (decodes 0 0x0000A5A5 0 all ∷
    writes 3 0xFFFF (told 0 0 9) ∷
    decodes 0 0x0000A5A5 0 (decoded_as 0 false true true true) ∷
    [])
    (banks 0xFFFFFFFF 0x0000FFFF 0x12345678 0 0 0 0x80000001 0) ∷
    row (banks 0xFFFFFFFF 0x0000FFFF 0x12345678 0 0 0 0x80000001 0) 0
    (writes 3 0xA5A5 (told 0 0 1) ∷
    decodes 0 0x0000A5A5 0 all ∷
    decodes 0 0x0000A5A4 0 (decoded_as 0 false true true true) ∷
    [])
    (banks 0xFFFFA5A5 0x0000FFFF 0x12345678 0 0 0 0x80000001 0) ∷
    []

unfoldable pub examples : List Row
examples = sample_map ++ order ++ bytes ++ no_lanes ++ wrap ++ special ++ refresh ++ several ++ seen
