-- What an access leaves of registers of 32 and 16 bits, and of a memory of 16-bit words, has as many bits; a clear bit 10 of HSTCTL stays
-- clear; and the word that is answered has 16. By what is written, and then by the cycle.
use Prim.Native.Nat.{ℕ, ◌<◌}
use native.Mathlib.Omega.{arith}
use mathlib.Core.Path.{◌≡◌, refl, ap, ◌∙◌}
use mathlib.Core.Bool.{Bool, true, false, cond}
use mathlib.Core.List.{List}
use lib.Dec.{eqb}
use Rattle.words.specs.Addresses.{word_at, stepped_from}
use Rattle.words.specs.Bytes.{lo, hi, bit}
use Rattle.words.specs.Memory.{AreWords}
use Rattle.words.proofs.Addresses.{stepped_fits}
use Rattle.words.proofs.Lanes.{laid_word}
use Rattle.words.proofs.MemoryWords.{fetched_word, stored_words}
use Rattle.registers.specs.Registers.{register_word}
use Rattle.registers.specs.InPlainWords.{FitWidths, TenClear}
use Rattle.registers.specs.declared.Registers.{Registers}
use Rattle.registers.proofs.Widths.{written_fits, written_ten_clear}
use Rattle.port_spec.specs.Cycle.{stepped, after_fetch, after_store, carried, memory_after}
use Rattle.port_spec.specs.Host.{begin_access, done, access, access_memory, number_for}
use Rattle.port_spec.specs.declared.Access.{Access}
use Rattle.port_spec.specs.declared.Access.TheVariants.{Read, Write}
use Rattle.port_spec.specs.declared.Due.{Due}
use Rattle.port_spec.specs.declared.Due.TheVariants.{Nothing, Fetch, Store}
use Rattle.port_spec.specs.declared.Outcome.{Outcome}
use Rattle.port_spec.proofs.Taken.{either_done}

-- ---- before the cycle
begun_fits : (r : Registers) (a : Access) → FitWidths r → FitWidths (begin_access r a).registers
unfolding begin_access
begun_fits r (Read k lanes) f = f
begun_fits r (Write k lanes w) f = written_fits r k lanes w f

begun_ten_clear : (r : Registers) (a : Access) → TenClear r → TenClear (begin_access r a).registers
unfolding begin_access
begun_ten_clear r (Read k lanes) h = h
begun_ten_clear r (Write k lanes w) h = written_ten_clear r k lanes w h

low_below : (v : ℕ) → lo v < 256
low_below v = omega arith

high_below : (v : ℕ) → hi v < 256
high_below v = omega arith

begun_word : (r : Registers) (a : Access) → (begin_access r a).word < 65536
unfolding begin_access
begun_word r (Read k lanes) = laid_word lanes 0 _ _ (low_below (register_word r k)) (high_below (register_word r k))
begun_word r (Write k lanes w) = omega arith

-- ---- the cycle
carried_fits : (r : Registers) (due : Due) (m : List ℕ) → FitWidths r → AreWords m → FitWidths (carried r due m).registers
unfolding carried after_fetch after_store stepped
carried_fits r Nothing m f h = f
carried_fits r (Fetch s) m f h =
    record {
      pointer_width = stepped_fits s r.pointer f.pointer_width;
      data_width = fetched_word m (word_at (stepped_from s r.pointer)) h _ (omega arith);
      control_width = f.control_width;
    }
carried_fits r (Store s) m f h =
    record {
      pointer_width = stepped_fits s r.pointer f.pointer_width;
      data_width = f.data_width;
      control_width = f.control_width;
    }

carried_control : (r : Registers) (due : Due) (m : List ℕ) → (carried r due m).registers.control ≡ r.control
unfolding carried after_fetch after_store stepped
carried_control r Nothing m = refl
carried_control r (Fetch s) m = refl
carried_control r (Store s) m = refl

memory_fits : (r : Registers) (due : Due) (m : List ℕ) → FitWidths r → AreWords m → AreWords (memory_after r due m)
unfolding memory_after
memory_fits r Nothing m f h = h
memory_fits r (Fetch s) m f h = h
memory_fits r (Store s) m f h = stored_words m (word_at r.pointer) h r.latch f.data_width

-- ---- the whole access
module _ (r : Registers) (m : List ℕ) (a : Access) where
  -- An access to registers of 32 and 16 bits, with a memory of 16-bit words, leaves registers of as many bits.
  pub access_fits : FitWidths r → AreWords m → FitWidths (access r m a).registers
  unfolding done
  access_fits f h =
      either_done r m a (λ (o : Outcome). FitWidths o.registers)
      (carried_fits (begin_access r a).registers (begin_access r a).due m (begun_fits r a f) h) (λ n. f)

  -- An access to registers of 32 and 16 bits, with a memory of 16-bit words, leaves a memory of 16-bit words.
  pub access_memory_fits : FitWidths r → AreWords m → AreWords (access_memory r m a)
  unfolding access_memory
  access_memory_fits f h = go (eqb (number_for m a) 0)
    where
      go : (t : Bool) → AreWords (cond t (memory_after (begin_access r a).registers (begin_access r a).due m) m)
      go true = memory_fits (begin_access r a).registers (begin_access r a).due m (begun_fits r a f) h
      go false = h

  -- An access leaves a clear bit 10 of HSTCTL clear.
  pub access_ten_clear : TenClear r → TenClear (access r m a).registers
  unfolding done
  access_ten_clear h =
      either_done r m a (λ (o : Outcome). TenClear o.registers)
      (ap (λ (c : ℕ). bit c 10) (carried_control (begin_access r a).registers (begin_access r a).due m) ∙ begun_ten_clear r a h) (λ n. h)

  -- The word that an access answers has 16 bits, whatever the registers.
  pub access_word : (access r m a).answer.word < 65536
  unfolding done
  access_word = either_done r m a (λ (o : Outcome). o.answer.word < 65536) (begun_word r a) (λ n. omega arith)
