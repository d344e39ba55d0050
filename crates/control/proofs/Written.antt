-- A write of HSTCTL by either side touches the selected bytes alone: the low one by the writer's rule, of the high one "all its
-- bits but 10 are replaced". The bytes are laid as any word's are.
use Prim.Native.Nat.{ℕ, ◌+◌, ◌<◌}
use native.Mathlib.Omega.{arith}
use mathlib.Core.Path.{◌≡◌, sym, ap, ◌∙◌}
use mathlib.Core.Bool.{Bool, true, false, cond, ◌&&◌, ◌||◌}
use mathlib.Core.Logic.{⊎_elim}
use Rattle.words.specs.Bytes.{lo, hi, bit, takes_low, takes_high}
use Rattle.words.proofs.Bits.{bit_of_low, bit_of_high}
use Rattle.std.proofs.lemmas.Bool.{cases_Bool}
use Rattle.words.proofs.Lanes.{laid_word, laid_low, laid_high}
use Rattle.control.specs.Control.{msgin, intin, msgout, intout, bare, host_low, processor_low, control_laid}
use Rattle.control.proofs.LowByte.{Parts, host_parts, host_byte, processor_parts, processor_byte}
use Rattle.control.proofs.BitTen.{ten_hidden}

high_below : (v : ℕ) → hi v < 256
high_below v = omega arith

-- low is the writer's rule for the low byte
module _ (low : ℕ → ℕ → ℕ) (byte : (x y : ℕ) → low x y < 256) (lanes c w : ℕ) where
  -- After a write of HSTCTL the low byte follows the writer's rule if it is selected, and else is as it stood.
  pub low_lane : lo (control_laid low lanes c w) ≡ cond (takes_low lanes) (low (lo c) (lo w)) (lo c)
  low_lane = laid_low lanes c _ _ (byte _ _) (high_below _)

  -- After a write of HSTCTL the high byte is the written one without bit 10 if it is selected, and else as it stood.
  pub high_lane : hi (control_laid low lanes c w) ≡ cond (takes_high lanes) (hi (bare w)) (hi c)
  high_lane = laid_high lanes c _ _ (byte _ _) (high_below _)

  -- After a write of HSTCTL's high byte each of its bits is the word's, but for bit 10, which is left 0.
  pub high_bit_written : takes_high lanes ≡ true → (i : ℕ) → i < 8 → bit (control_laid low lanes c w) (8 + i) ≡ bit (bare w) (8 + i)
  high_bit_written e i h =
      sym (bit_of_high (control_laid low lanes c w) i h) ∙
      ap (λ (b : ℕ). bit b i) (high_lane ∙ ap (λ (t : Bool). cond t (hi (bare w)) (hi c)) e) ∙
      bit_of_high (bare w) i h

  -- A write of HSTCTL's high byte leaves bit 10 clear.
  pub ten_left_clear : takes_high lanes ≡ true → bit (control_laid low lanes c w) 10 ≡ false
  ten_left_clear e = high_bit_written e 2 (omega arith) ∙ ten_hidden w

  -- Where bit 10 of HSTCTL is clear, every write leaves it so.
  pub ten_stays_clear : bit c 10 ≡ false → bit (control_laid low lanes c w) 10 ≡ false
  ten_stays_clear h = ⊎_elim ten_left_clear kept (cases_Bool (takes_high lanes))
    where
      kept : takes_high lanes ≡ false → bit (control_laid low lanes c w) 10 ≡ false
      kept e =
          sym (bit_of_high (control_laid low lanes c w) 2 (omega arith)) ∙
          ap (λ (b : ℕ). bit b 2) (high_lane ∙ ap (λ (t : Bool). cond t (hi (bare w)) (hi c)) e) ∙
          bit_of_high c 2 (omega arith) ∙ h

  -- What a write of HSTCTL leaves has 16 bits.
  pub control_fits : control_laid low lanes c w < 65536
  control_fits = laid_word lanes c _ _ (byte _ _) (high_below _)

-- ---- the parts of the low byte, in the register and not in a byte taken out of it
message_in_low : (v : ℕ) → msgin (lo v) ≡ msgin v
message_in_low v = omega arith

message_out_low : (v : ℕ) → msgout (lo v) ≡ msgout v
message_out_low v = omega arith

interrupt_in_low : (v : ℕ) → intin (lo v) ≡ intin v
interrupt_in_low v = bit_of_low v 3 (omega arith)

interrupt_out_low : (v : ℕ) → intout (lo v) ≡ intout v
interrupt_out_low v = bit_of_low v 7 (omega arith)

parts_of_low : {v mi mo : ℕ} {ii io : Bool} → Parts (lo v) mi ii mo io → Parts v mi ii mo io
parts_of_low {v} p = record {
  message_in = sym (message_in_low v) ∙ p.message_in;
  interrupt_in = sym (interrupt_in_low v) ∙ p.interrupt_in;
  message_out = sym (message_out_low v) ∙ p.message_out;
  interrupt_out = sym (interrupt_out_low v) ∙ p.interrupt_out;
}

module _ (lanes c w : ℕ) (e : takes_low lanes ≡ true) where
  -- Where the host writes the low byte, "MSGIN is replaced; INTIN becomes old OR written; INTOUT becomes old AND written; MSGOUT stays."
  pub host_write_parts : Parts (control_laid host_low lanes c w) (msgin w) (intin c || intin w) (msgout c) (intout c && intout w)
  host_write_parts =
      let p = host_parts (lo c) (lo w) in
      parts_of_low
      (rw (
        low_lane host_low host_byte lanes c w,
        e,
        ← message_in_low w,
        ← interrupt_in_low c,
        ← interrupt_in_low w,
        ← message_out_low c,
        ← interrupt_out_low c,
        ← interrupt_out_low w,
      ) p)

  -- Where the processor writes the low byte, "a write replaces MSGOUT, makes INTIN old AND written and INTOUT old OR written, and keeps
  -- MSGIN."
  pub processor_write_parts : Parts (control_laid processor_low lanes c w) (msgin c) (intin c && intin w) (msgout w) (intout c || intout w)
  processor_write_parts =
      let p = processor_parts (lo c) (lo w) in
      parts_of_low
      (rw (
        low_lane processor_low processor_byte lanes c w,
        e,
        ← message_in_low c,
        ← interrupt_in_low c,
        ← interrupt_in_low w,
        ← message_out_low w,
        ← interrupt_out_low c,
        ← interrupt_out_low w,
      ) p)
