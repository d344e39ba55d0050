-- The processor's side, sentence by sentence: document 01, 'The processor's side'. Demand 1 for its calls: number 2 when, and only
-- when, the register is none of the five; a refusal answers zeros and leaves the registers.
-- By cases on the test for number 2; the rest computes.
use Prim.Native.Nat.{ℕ, ◌*◌, ◌<◌, ◌≤◌}
use native.Mathlib.Omega.{arith}
use mathlib.Core.Path.{◌≡◌, refl, ap}
use mathlib.Core.Bool.{Bool, true, false, cond}
use mathlib.Core.Logic.{◌⊎◌, inl, inr, ◌↔◌, ◌≢◌}
use lib.Dec.{eqb, ltb}
use borrow.Author.Tests.{ltb-true, ltb-false, le-ltb}
use Rattle.words.specs.Bytes.{lo, hi, takes_low, takes_high, lay}
use Rattle.words.proofs.Lanes.{replaced_whole}
use Rattle.control.specs.Control.{bare, processor_low, control_laid}
use Rattle.registers.specs.Registers.{low_half, high_half, halves, with_pointer, with_latch, with_control, register_word}
use Rattle.registers.specs.Registers.{half_written, written}
use Rattle.registers.specs.Processor.{processor_word, processor_written, processor_reads, processor_writes}
use Rattle.registers.specs.declared.Registers.{Registers}
use Rattle.registers.specs.declared.ProcessorRead.{ProcessorRead}
use Rattle.registers.specs.declared.ProcessorWrite.{ProcessorWrite}

-- ---- demand 1
-- n is the number of a call that names register k: 0 exactly if k is 4 or less, 2 exactly if it is over 4, and no other
pub record Numbered (k n : ℕ) : Type 0 where
  pub listed : (n ≡ 0) ⊎ (n ≡ 2)
  pub done : n ≡ 0 ↔ k ≤ 4
  pub unlisted : n ≡ 2 ↔ 4 < k

served : (k : ℕ) → k ≤ 4 → Numbered k 0
served k h = record { listed = inl refl; done = omega arith; unlisted = omega arith }

away : (k : ℕ) → 4 < k → Numbered k 2
away k h = record { listed = inr refl; done = omega arith; unlisted = omega arith }

-- what a read of register k by the processor answers: the number for k (`Numbered`), and with another than 0 word 0
pub record ReadSays (k : ℕ) (x : ProcessorRead) : Type 0 where
  pub number : Numbered k x.number
  pub refused : x.number ≢ 0 → x.word ≡ 0

-- what a write of register k by the processor answers: the number for k (`Numbered`), and with another than 0 the registers as they stood
pub record WriteSays (r : Registers) (k : ℕ) (x : ProcessorWrite) : Type 0 where
  pub number : Numbered k x.number
  pub refused : x.number ≢ 0 → x.registers ≡ r

-- A read by the processor answers 0 exactly if the register is 4 or less, 2 exactly if it is over 4, and no other number; with 2 its word
-- is 0.
pub read_says : (r : Registers) (k : ℕ) → ReadSays k (processor_reads r k)
unfolding processor_reads
read_says r k = go (ltb 4 k) refl
  where
    go : (t : Bool) → ltb 4 k ≡ t → ReadSays k (cond t (record { number = 2; word = 0 }) (record { number = 0; word = processor_word r k }))
    go true e = record { number = away k (ltb-true 4 k e); refused = λ _. refl }
    go false e = record { number = served k (ltb-false 4 k e); refused = λ n. absurd (n refl) }

-- A write by the processor answers 0 exactly if the register is 4 or less, 2 exactly if it is over 4, and no other number; with 2 it leaves
-- the registers.
pub write_says : (r : Registers) (k w : ℕ) → WriteSays r k (processor_writes r k w)
unfolding processor_writes
write_says r k w = go (ltb 4 k) refl
  where
    go : (t : Bool) → ltb 4 k ≡ t →
        WriteSays r k (cond t (record { number = 2; registers = r }) (record { number = 0; registers = processor_written r k w }))
    go true e = record { number = away k (ltb-true 4 k e); refused = λ _. refl }
    go false e = record { number = served k (ltb-false 4 k e); refused = λ n. absurd (n refl) }

-- ---- what it reads
module _ (r : Registers) where
  -- HSTADRL, HSTADRH and HSTDATA are the pointer's halves and HSTDATA; HSTCTLL is HSTCTL's low byte, HSTCTLH its high byte over a
  -- zero low byte, and both hide bit 10.
  pub record Reads : Type 0 where
    pub low : (processor_reads r 0).word ≡ low_half r.pointer
    pub high : (processor_reads r 1).word ≡ high_half r.pointer
    pub data_register : (processor_reads r 2).word ≡ r.latch
    pub low_control : (processor_reads r 3).word ≡ lo (bare r.control)
    pub high_control : (processor_reads r 4).word ≡ 256 * hi (bare r.control)

  -- The processor reads the pointer's halves and HSTDATA as they stand, of HSTCTL the low byte as HSTCTLL and the high byte, over a zero
  -- low byte, as HSTCTLH, both with bit 10 as 0.
  pub reads : Reads
  unfolding processor_reads processor_word register_word lay takes_low takes_high
  reads = record { low = refl; high = refl; data_register = refl; low_control = omega arith; high_control = omega arith }

  -- ---- what it writes: one register, and nothing besides
  module _ (w : ℕ) where
    -- what a write of w by the processor leaves, of its register and of all others
    pub record Writes : Type 0 where
      pub low : w < 65536 → (processor_writes r 0 w).registers ≡ with_pointer r (halves w (high_half r.pointer))
      pub high : w < 65536 → (processor_writes r 1 w).registers ≡ with_pointer r (halves (low_half r.pointer) w)
      pub data_register : (processor_writes r 2 w).registers ≡ with_latch r w false
      pub low_control : (processor_writes r 3 w).registers ≡ with_control r (control_laid processor_low 1 r.control w)
      pub high_control : (processor_writes r 4 w).registers ≡ with_control r (control_laid processor_low 2 r.control w)

    -- A write by the processor changes its own register alone: a half of the pointer becomes the word, and so does HSTDATA, whose mark
    -- clears; HSTCTLL is the low byte of HSTCTL, by the processor's rule, HSTCTLH its high byte, all but bit 10.
    pub writes : Writes
    unfolding processor_writes processor_written half_written written lay takes_low takes_high
    writes = record {
      low = λ h. ap (λ (v : ℕ). with_pointer r (halves v (high_half r.pointer))) (replaced_whole (low_half r.pointer) w h);
      high = λ h. ap (λ (v : ℕ). with_pointer r (halves (low_half r.pointer) v)) (replaced_whole (high_half r.pointer) w h);
      data_register = refl;
      low_control = refl;
      high_control = refl;
    }

-- "It never starts a cycle or moves the pointer": the processor's side is lent no memory, and a write by it of any register but the
-- pointer's own halves leaves the pointer.
pub pointer_stays : (r : Registers) (k w : ℕ) → 1 < k → (processor_writes r k w).registers.pointer ≡ r.pointer
unfolding processor_writes processor_written
pointer_stays r k w h = rw (le-ltb k 2 (omega arith)) (go (ltb 4 k) (eqb k 2) (eqb k 3) _ _ _ refl refl refl)
  where
    go : (s t u : Bool) (x y z : Registers) → x.pointer ≡ r.pointer → y.pointer ≡ r.pointer → z.pointer ≡ r.pointer →
        (cond {A = ProcessorWrite} s (record { number = 2; registers = r })
        (record { number = 0; registers = cond t x (cond u y z) })).registers.pointer ≡ r.pointer
    go true t u x y z e f g = refl
    go false true u x y z e f g = e
    go false false true x y z e f g = f
    go false false false x y z e f g = g
