-- What each side's write makes of HSTCTL's low byte, part by part: document 01, "Writing register 3" and "The processor's side".
-- Each bit is a digit 0 or 1 at its weight, so that one sum of numbers is taken apart for both sides.
use Prim.Native.Nat.{ℕ, ◌+◌, ◌*◌, ◌/◌, ◌%◌, ◌<◌}
use native.Mathlib.Omega.{arith}
use mathlib.Core.Path.{◌≡◌}
use mathlib.Core.Bool.{Bool, true, false, cond, ◌&&◌, ◌||◌}
use lib.Dec.{eqb}
use Rattle.words.specs.Bytes.{bit}
use Rattle.control.specs.Control.{msgin, intin, msgout, intout, low_parts, host_low, processor_low}

-- The low byte of v has these parts: MSGIN mi, INTIN ii, MSGOUT mo, INTOUT io.
pub record Parts (v mi : ℕ) (ii : Bool) (mo : ℕ) (io : Bool) : Type 0 where
  pub message_in : msgin v ≡ mi
  pub interrupt_in : intin v ≡ ii
  pub message_out : msgout v ≡ mo
  pub interrupt_out : intout v ≡ io

abbrev digit : Bool → ℕ
digit t = cond t 1 0

digit_lt : (t : Bool) → digit t < 2
digit_lt true = omega arith
digit_lt false = omega arith

weighed : (t : Bool) (k : ℕ) → cond t k 0 ≡ k * digit t
weighed true k = omega arith
weighed false k = omega arith

read_back : (t : Bool) (n : ℕ) → n ≡ digit t → eqb n 1 ≡ t
read_back true n e = rw e
read_back false n e = rw e

module _ (mi mo : ℕ) (ii io : Bool) where
  abbrev sum : ℕ
  sum = msgin mi + 8 * digit ii + msgout mo * 16 + 128 * digit io

  parts : Parts (low_parts mi ii mo io) (msgin mi) ii (msgout mo) io
  unfolding low_parts bit
  parts =
      rw (weighed ii 8, weighed io 128)
      (record {
        message_in = omega (arith, digit_lt ii, digit_lt io);
        interrupt_in = read_back ii (sum / 8 % 2) (omega (arith, digit_lt ii, digit_lt io));
        message_out = omega (arith, digit_lt ii, digit_lt io);
        interrupt_out = read_back io (sum / 128 % 2) (omega (arith, digit_lt ii, digit_lt io));
      })

  byte : low_parts mi ii mo io < 256
  unfolding low_parts
  byte = rw (weighed ii 8, weighed io 128) (omega (arith, digit_lt ii, digit_lt io))

-- The host replaces MSGIN, can raise INTIN and not clear it, leaves MSGOUT, can clear INTOUT and not raise it.
pub host_parts : (old new : ℕ) → Parts (host_low old new) (msgin new) (intin old || intin new) (msgout old) (intout old && intout new)
unfolding host_low
host_parts old new = parts new old (intin old || intin new) (intout old && intout new)

-- What the host's write leaves of HSTCTL's low byte is a byte.
pub host_byte : (old new : ℕ) → host_low old new < 256
unfolding host_low
host_byte old new = byte new old (intin old || intin new) (intout old && intout new)

-- The processor leaves MSGIN, can clear INTIN and not raise it, replaces MSGOUT, can raise INTOUT and not clear it.
pub processor_parts : (old new : ℕ) →
    Parts (processor_low old new) (msgin old) (intin old && intin new) (msgout new) (intout old || intout new)
unfolding processor_low
processor_parts old new = parts old new (intin old && intin new) (intout old || intout new)

-- What the processor's write leaves of HSTCTL's low byte is a byte.
pub processor_byte : (old new : ℕ) → processor_low old new < 256
unfolding processor_low
processor_byte old new = byte old new (intin old && intin new) (intout old || intout new)
