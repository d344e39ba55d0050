-- The control register HSTCTL: document 01, 'The four host registers' (source document 004, section 10.2).
--   msgin, intin, msgout, intout   the parts of its low byte
--   incw, incr, lbl                the bits of its high byte that the port obeys
--   bare c                         HSTCTL as it reads
--   host_low, processor_low        the low byte after a write by either side
--   control_laid low lanes c w     HSTCTL after a write, by the writer's rule for the low byte
--   closes, fetches                what LBL decides: the closing byte, and the half of the pointer that fetches
--   first_lane, last_lane          a word's two bytes in the order that LBL commands
use Rattle.std.specs.Prelude.{ℕ, ◌+◌, ◌*◌, ◌/◌, ◌%◌, Bool, cond, ◌&&◌, ◌||◌, eqb}
use Rattle.words.specs.Bytes.{lo, hi, bit, lay, takes_low, takes_high}

-- "MSGIN 0-2, INTIN 3, MSGOUT 4-6, INTOUT 7, NMI 8, NMIM 9, INCW 11, INCR 12, LBL 13, CF 14, HLT 15"; NMI, NMIM, CF and
-- HLT are kept and read back, and nothing here obeys them
abbrev pub msgin : ℕ → ℕ
msgin c = c % 8

abbrev pub intin : ℕ → Bool
intin c = bit c 3

abbrev pub msgout : ℕ → ℕ
msgout c = c / 16 % 8

abbrev pub intout : ℕ → Bool
intout c = bit c 7

abbrev pub incw : ℕ → Bool
incw c = bit c 11

abbrev pub incr : ℕ → Bool
incr c = bit c 12

abbrev pub lbl : ℕ → Bool
lbl c = bit c 13

-- "Bit 10 is always 0, and reads as 0 from a record passed in with it set" (house): all above it, and all below it
unfoldable pub bare : ℕ → ℕ
bare c = c / 2048 * 2048 + c % 1024

-- the low byte with MSGIN of one byte, INTIN, MSGOUT of another byte, INTOUT
unfoldable pub low_parts : ℕ → Bool → ℕ → Bool → ℕ
low_parts mi ii mo io = msgin mi + cond ii 8 0 + msgout mo * 16 + cond io 128 0

-- "MSGIN is replaced; INTIN becomes old OR written; INTOUT becomes old AND written; MSGOUT stays"
unfoldable pub host_low : ℕ → ℕ → ℕ
host_low old new = low_parts new (intin old || intin new) old (intout old && intout new)

-- "a write replaces MSGOUT, makes INTIN old AND written and INTOUT old OR written, and keeps MSGIN"
unfoldable pub processor_low : ℕ → ℕ → ℕ
processor_low old new = low_parts old (intin old && intin new) new (intout old || intout new)

-- HSTCTL after a write: the low byte by the writer's rule; "High lane: all its bits but 10 are replaced"; a bit 10 that was passed in set
-- stays until then (ours)
abbrev pub control_laid : (ℕ → ℕ → ℕ) → ℕ → ℕ → ℕ → ℕ
control_laid low lanes c w = lay lanes c (low (lo c) (lo w)) (hi (bare w))

-- "The closing byte is the high byte when LBL is 0 and the low byte when LBL is 1": it is among the lanes
unfoldable pub closes : ℕ → ℕ → Bool
closes c lanes = cond (lbl c) (takes_low lanes) (takes_high lanes)

-- "the register is 1 with LBL 0, or 0 with LBL 1"
unfoldable pub fetches : ℕ → ℕ → Bool
fetches c register = cond (lbl c) (eqb register 0) (eqb register 1)

-- "A word done byte by byte ends with its closing byte": the byte that goes first, and the one that goes last
abbrev pub first_lane : ℕ → ℕ
first_lane c = cond (lbl c) 2 1

abbrev pub last_lane : ℕ → ℕ
last_lane c = cond (lbl c) 1 2
