-- What a write by either side leaves of registers of 32 and 16 bits has as many; and a clear bit 10 of HSTCTL stays clear: document 01,
-- "Bit 10 is always 0". By cases on the register.
use Prim.Native.Nat.{ℕ, ◌^◌, ◌<◌}
use native.Mathlib.Omega.{arith}
use mathlib.Core.Bool.{Bool, true, false, cond}
use lib.Dec.{eqb, ltb}
use Rattle.words.specs.Bytes.{replaced}
use Rattle.words.specs.declared.BitAddress.{BitAddress}
use Rattle.words.proofs.Lanes.{replaced_word}
use Rattle.control.specs.Control.{host_low, processor_low}
use Rattle.control.proofs.LowByte.{host_byte, processor_byte}
use Rattle.control.proofs.Written.{ten_stays_clear, control_fits}
use Rattle.registers.specs.Registers.{low_half, high_half, halves, with_pointer, with_latch, with_control, half_written, written}
use Rattle.registers.specs.Processor.{processor_written, processor_writes}
use Rattle.registers.specs.InPlainWords.{FitWidths, TenClear}
use Rattle.registers.specs.declared.Registers.{Registers}
use Rattle.registers.specs.declared.ProcessorWrite.{ProcessorWrite}

halves_fit : (l h : ℕ) → l < 65536 → h < 65536 → (halves l h).0 < 2 ^ 32
halves_fit l h p q = omega arith

half_fits : (a : BitAddress) (k lanes w : ℕ) → (half_written a k lanes w).0 < 2 ^ 32
unfolding half_written
half_fits a k lanes w = go (eqb k 0)
  where
    go : (t : Bool) →
        (cond t (halves (replaced lanes (low_half a) w) (high_half a)) (halves (low_half a) (replaced lanes (high_half a) w))).0 < 2 ^ 32
    go true = halves_fit _ (high_half a) (replaced_word lanes (low_half a) w) (omega arith)
    go false = halves_fit (low_half a) _ (omega arith) (replaced_word lanes (high_half a) w)

-- ---- one part replaced by one that fits
module _ (r : Registers) (f : FitWidths r) where
  pointer_fits : (a : BitAddress) → a.0 < 2 ^ 32 → FitWidths (with_pointer r a)
  pointer_fits a h = record { pointer_width = h; data_width = f.data_width; control_width = f.control_width }

  latch_fits : (w : ℕ) (h : Bool) → w < 65536 → FitWidths (with_latch r w h)
  latch_fits w h p = record { pointer_width = f.pointer_width; data_width = p; control_width = f.control_width }

  with_control_fits : (c : ℕ) → c < 65536 → FitWidths (with_control r c)
  with_control_fits c h = record { pointer_width = f.pointer_width; data_width = f.data_width; control_width = h }

-- what is so of either is so of the chosen one
chosen : (P : Registers → Type 0) (t : Bool) {x y : Registers} → P x → P y → P (cond t x y)
chosen P true p q = p
chosen P false p q = q

-- ---- the host
module _ (r : Registers) (k lanes w : ℕ) where
  -- A write by the host to registers of 32 and 16 bits leaves registers of as many.
  pub written_fits : FitWidths r → FitWidths (written r k lanes w)
  unfolding written
  written_fits f =
      chosen FitWidths (ltb k 2) (pointer_fits r f _ (half_fits r.pointer k lanes w))
      (chosen FitWidths (eqb k 2) (latch_fits r f _ _ (replaced_word lanes r.latch w))
      (with_control_fits r f _ (control_fits host_low host_byte lanes r.control w)))

  -- A write by the host leaves a clear bit 10 clear.
  pub written_ten_clear : TenClear r → TenClear (written r k lanes w)
  unfolding written
  written_ten_clear h =
      chosen TenClear (ltb k 2) h (chosen TenClear (eqb k 2) h (ten_stays_clear host_low host_byte lanes r.control w h))

-- ---- the processor
module _ (r : Registers) (k w : ℕ) where
  -- what is so of a write that is done and of one that is refused is so of what it leaves
  either : (P : Registers → Type 0) → P r → P (processor_written r k w) → P (processor_writes r k w).registers
  unfolding processor_writes
  either P p q = go (ltb 4 k)
    where
      go : (t : Bool) → P (cond {A = ProcessorWrite} t (record { number = 2; registers = r })
          (record { number = 0; registers = processor_written r k w })).registers
      go true = p
      go false = q

  -- A write of a word by the processor to registers of 32 and 16 bits leaves registers of as many.
  pub processor_fits : w < 65536 → FitWidths r → FitWidths (processor_writes r k w).registers
  unfolding processor_written
  processor_fits p f =
      either FitWidths f
      (chosen FitWidths (ltb k 2) (written_fits r k 3 w f)
      (chosen FitWidths (eqb k 2) (latch_fits r f w _ p)
      (chosen FitWidths (eqb k 3) (with_control_fits r f _ (control_fits processor_low processor_byte 1 r.control w))
      (with_control_fits r f _ (control_fits processor_low processor_byte 2 r.control w)))))

  -- A write by the processor leaves a clear bit 10 clear.
  pub processor_ten_clear : TenClear r → TenClear (processor_writes r k w).registers
  unfolding processor_written
  processor_ten_clear h =
      either TenClear h
      (chosen TenClear (ltb k 2) (written_ten_clear r k 3 w h)
      (chosen TenClear (eqb k 2) h
      (chosen TenClear (eqb k 3) (ten_stays_clear processor_low processor_byte 1 r.control w h)
      (ten_stays_clear processor_low processor_byte 2 r.control w h))))
