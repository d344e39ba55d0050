-- The register record, and its four registers as the host reads and writes them: document 01, 'The four host registers'.
--   low_half, high_half, halves   the pointer as HSTADRL and HSTADRH
--   with_pointer, with_latch, with_control   the record with one part replaced
--   register_word r k             what register k reads as
--   half_written a k lanes w      the pointer after a write of register 0 or 1
--   written r k lanes w           the record after the host wrote w to register k, before any cycle
use Rattle.std.specs.Prelude.{ℕ, ◌+◌, ◌*◌, ◌/◌, ◌%◌, Bool, cond, eqb, ltb}
use Rattle.words.specs.Addresses.{address}
use Rattle.words.specs.Bytes.{replaced}
use Rattle.words.specs.declared.BitAddress.{BitAddress}
use Rattle.control.specs.Control.{bare, host_low, control_laid}
use Rattle.registers.specs.declared.Registers.{Registers}

-- "0 HSTADRL, low half of the pointer; 1 HSTADRH, high half"
abbrev pub low_half : BitAddress → ℕ
low_half a = a.0 % 65536

abbrev pub high_half : BitAddress → ℕ
high_half a = a.0 / 65536 % 65536

abbrev pub halves : ℕ → ℕ → BitAddress
halves l h = address (l + 65536 * h)

abbrev pub with_pointer : Registers → BitAddress → Registers
with_pointer r a = record { pointer = a; latch = r.latch; control = r.control; hollow = r.hollow }

abbrev pub with_latch : Registers → ℕ → Bool → Registers
with_latch r w h = record { pointer = r.pointer; latch = w; control = r.control; hollow = h }

abbrev pub with_control : Registers → ℕ → Registers
with_control r c = record { pointer = r.pointer; latch = r.latch; control = c; hollow = r.hollow }

-- "0 HSTADRL, 1 HSTADRH, 2 HSTDATA, 3 HSTCTL"
unfoldable pub register_word : Registers → ℕ → ℕ
register_word r register =
    cond (eqb register 0) (low_half r.pointer)
    (cond (eqb register 1) (high_half r.pointer)
    (cond (eqb register 2) r.latch
    (bare r.control)))

-- "Writing register 0 or 1 replaces the selected bytes": of the low half for register 0, of the high half for register 1
unfoldable pub half_written : BitAddress → ℕ → ℕ → ℕ → BitAddress
half_written a register lanes w =
    cond (eqb register 0)
    (halves (replaced lanes (low_half a) w) (high_half a))
    (halves (low_half a) (replaced lanes (high_half a) w))

-- "Writing register 2 replaces the selected bytes", and leaves the hollow mark to the cycle; "Writing register 3": the host's
-- rule for its low byte
unfoldable pub written : Registers → ℕ → ℕ → ℕ → Registers
written r register lanes w =
    cond (ltb register 2) (with_pointer r (half_written r.pointer register lanes w))
    (cond (eqb register 2) (with_latch r (replaced lanes r.latch w) r.hollow)
    (with_control r (control_laid host_low lanes r.control w)))
