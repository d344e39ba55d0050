-- What the laws of the registers say in plain words.
--   FitWidths r   registers of 32 and 16 bits, as every record of them is
--   TenClear r    bit 10 of HSTCTL is 0
use Rattle.std.specs.Prelude.{◌^◌, ◌<◌, ◌≡◌, false}
use Rattle.words.specs.Bytes.{bit}
use Rattle.registers.specs.declared.Registers.{Registers}

pub record FitWidths (r : Registers) : Type 0 where
  pub pointer_width : r.pointer.0 < 2 ^ 32
  pub data_width : r.latch < 65536
  pub control_width : r.control < 65536

-- "Bit 10 is always 0"
abbrev pub TenClear : Registers → Type 0
TenClear r = bit r.control 10 ≡ false
