-- What reset leaves, in document 01's words: "all registers 0 except HLT 1, hollow true .., no bus request waiting".
use Prim.Native.Nat.{ℕ, ◌%◌, ◌^◌}
use mathlib.Core.Path.{◌≡◌, refl}
use mathlib.Core.Bool.{true, false}
use Rattle.words.specs.Addresses.{address}
use Rattle.words.specs.Bytes.{bit}
use Rattle.bus.specs.Order.{waits}
use Rattle.bus.proofs.Sources.{quiet_waits}
use Rattle.registers.specs.Processor.{at_reset}

-- what reset leaves of the registers and the bus
pub record AfterReset : Type 0 where
  pub pointer : at_reset.registers.pointer ≡ address 0
  pub data_register : at_reset.registers.latch ≡ 0
  pub halted : bit at_reset.registers.control 15 ≡ true
  pub all_else_0 : at_reset.registers.control % 2 ^ 15 ≡ 0
  pub hollow : at_reset.registers.hollow ≡ true
  pub quiet : (source : ℕ) → waits at_reset.bus source ≡ false

-- After reset the pointer and HSTDATA are 0, HLT is 1 and all else of HSTCTL 0, the mark is hollow, and no source waits.
pub after_reset : AfterReset
unfolding bit
after_reset = record {
  pointer = refl;
  data_register = refl;
  halted = refl;
  all_else_0 = refl;
  hollow = refl;
  quiet = quiet_waits;
}
