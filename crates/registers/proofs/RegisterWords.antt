-- The four registers one by one: what each reads as, and what a write by the host leaves of it before any cycle. Document 01's table
-- of registers, "Writing register 0 or 1 replaces the selected bytes", "Writing register 2 replaces the selected bytes" and "Writing
-- register 3".
use Prim.Native.Nat.{ℕ, ◌<◌}
use native.Mathlib.Omega.{arith}
use mathlib.Core.Path.{◌≡◌, refl}
use Rattle.words.specs.Bytes.{replaced}
use Rattle.words.proofs.Lanes.{replaced_word}
use Rattle.control.specs.Control.{bare, host_low, control_laid}
use Rattle.registers.specs.Registers.{low_half, high_half, halves, with_pointer, with_latch, with_control, register_word}
use Rattle.registers.specs.Registers.{half_written, written}
use Rattle.registers.specs.declared.Registers.{Registers}

-- "0 HSTADRL, low half of the pointer; 1 HSTADRH, high half; 2 HSTDATA; 3 HSTCTL", and bit 10 "reads as 0"
pub record ReadAs (r : Registers) : Type 0 where
  pub low : register_word r 0 ≡ low_half r.pointer
  pub high : register_word r 1 ≡ high_half r.pointer
  pub data_register : register_word r 2 ≡ r.latch
  pub control : register_word r 3 ≡ bare r.control

-- Registers 0 to 3 read as the pointer's low half, its high half, HSTDATA, and HSTCTL with bit 10 as 0.
pub read_as : (r : Registers) → ReadAs r
unfolding register_word
read_as r = record { low = refl; high = refl; data_register = refl; control = refl }

-- ---- the pointer's halves

-- The low half of a pointer made of two halves is the first.
pub low_of_halves : (l h : ℕ) → l < 65536 → low_half (halves l h) ≡ l
low_of_halves l h p = omega arith

-- The high half of a pointer made of two halves is the second.
pub high_of_halves : (l h : ℕ) → l < 65536 → h < 65536 → high_half (halves l h) ≡ h
high_of_halves l h p q = omega arith

-- A write of one half of the pointer replaces the selected bytes of that half, and leaves the other half.
pub record HalvesWritten (r : Registers) (lanes w : ℕ) : Type 0 where
  pub low : low_half (written r 0 lanes w).pointer ≡ replaced lanes (low_half r.pointer) w
  pub low_leaves_high : high_half (written r 0 lanes w).pointer ≡ high_half r.pointer
  pub high : high_half (written r 1 lanes w).pointer ≡ replaced lanes (high_half r.pointer) w
  pub high_leaves_low : low_half (written r 1 lanes w).pointer ≡ low_half r.pointer

-- Every write of register 0 or 1 replaces the selected bytes of its half of the pointer, and leaves the other half.
pub halves_written : (r : Registers) (lanes w : ℕ) → HalvesWritten r lanes w
unfolding written half_written
halves_written r lanes w =
    let l = low_half r.pointer in
    let h = high_half r.pointer in
    record {
      low = low_of_halves _ h (replaced_word lanes l w);
      low_leaves_high = high_of_halves _ h (replaced_word lanes l w) (omega arith);
      high = high_of_halves l _ (omega arith) (replaced_word lanes h w);
      high_leaves_low = low_of_halves l _ (omega arith);
    }

-- ---- the whole record

-- A write changes its own register alone; that of HSTDATA leaves the hollow mark, which is the cycle's to clear.
pub record OneWritten (r : Registers) (lanes w : ℕ) : Type 0 where
  pub low : written r 0 lanes w ≡ with_pointer r (written r 0 lanes w).pointer
  pub high : written r 1 lanes w ≡ with_pointer r (written r 1 lanes w).pointer
  pub data_register : written r 2 lanes w ≡ with_latch r (replaced lanes r.latch w) r.hollow
  pub control : written r 3 lanes w ≡ with_control r (control_laid host_low lanes r.control w)

-- Every write of one of the four registers changes that register alone; the one of HSTDATA leaves the hollow mark.
pub one_written : (r : Registers) (lanes w : ℕ) → OneWritten r lanes w
unfolding written
one_written r lanes w = record { low = refl; high = refl; data_register = refl; control = refl }
