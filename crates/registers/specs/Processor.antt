-- The processor's side: document 01, 'The processor's side' (source document 004, 10.3.3.4).
--   processor_word r k      what register k of its five reads as
--   processor_written r k w the registers after it wrote w to register k
--   processor_reads, processor_writes   the whole access, refused ones too
--   fresh, at_reset         what reset leaves
use Rattle.std.specs.Prelude.{ℕ, true, false, cond, eqb, ltb}
use Rattle.words.specs.Addresses.{address}
use Rattle.words.specs.Bytes.{shown}
use Rattle.bus.specs.Order.{quiet}
use Rattle.control.specs.Control.{bare, processor_low, control_laid}
use Rattle.registers.specs.Registers.{with_latch, with_control, register_word, written}
use Rattle.registers.specs.declared.Registers.{Registers}
use Rattle.registers.specs.declared.ProcessorRead.{ProcessorRead}
use Rattle.registers.specs.declared.ProcessorWrite.{ProcessorWrite}
use Rattle.registers.specs.declared.Woken.{Woken}

-- "HSTADRL 0, HSTADRH 1, HSTDATA 2, HSTCTLL 3, HSTCTLH 4, always sixteen bits": the first three are the host's own;
-- "HSTCTLL reads as the low byte", "HSTCTLH reads with a zero low byte"
unfoldable pub processor_word : Registers → ℕ → ℕ
processor_word r register =
    cond (ltb register 3) (register_word r register)
    (cond (eqb register 3) (shown 1 (bare r.control)) (shown 2 (bare r.control)))

-- "A write to HSTDATA clears the hollow mark"; HSTCTLL is the low lane of HSTCTL, by the processor's rule; HSTCTLH: "a write
-- replaces the high byte but bit 10"
unfoldable pub processor_written : Registers → ℕ → ℕ → Registers
processor_written r register w =
    cond (ltb register 2) (written r register 3 w)
    (cond (eqb register 2) (with_latch r w false)
    (cond (eqb register 3) (with_control r (control_laid processor_low 1 r.control w))
    (with_control r (control_laid processor_low 2 r.control w))))

-- "2 register not listed for that side"; that a read answers a word and no mark, and a write the registers, is (ours)
unfoldable pub processor_reads : Registers → ℕ → ProcessorRead
processor_reads r register =
    cond (ltb 4 register) (record { number = 2; word = 0 }) (record { number = 0; word = processor_word r register })

unfoldable pub processor_writes : Registers → ℕ → ℕ → ProcessorWrite
processor_writes r register w =
    cond (ltb 4 register) (record { number = 2; registers = r }) (record { number = 0; registers = processor_written r register w })

-- ---- reset

-- "Reset: all registers 0 except HLT 1, hollow true (house: nothing fetched yet ..)"; c is the control word
abbrev pub fresh : ℕ → Registers
fresh c = record { pointer = address 0; latch = 0; control = c; hollow = true }

-- HLT is bit 15; "no bus request waiting. Memory stays"
abbrev pub at_reset : Woken
at_reset = record { registers = fresh 0x8000; bus = quiet }
