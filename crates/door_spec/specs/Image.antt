-- The register image: document 01, 'Blocks and the two doors'.
--   registers_of i   the registers that an image stands for
--   image_of r       the image of registers
use Rattle.std.specs.Prelude.{ℕ, ◌+◌, ◌*◌, ◌/◌, ◌%◌, cond, List, [], ◌∷◌, eqb}
use Rattle.words.specs.Addresses.{address}
use Rattle.words.specs.Bytes.{lo, hi}
use Rattle.registers.specs.declared.Registers.{Registers}
use Rattle.door_spec.specs.Bytes.{byte}

-- "a nine-byte register image: pointer (4, low first), HSTDATA (2), HSTCTL (2), hollow 0 or 1"
unfoldable pub registers_of : List ℕ → Registers
registers_of i =
    record {
      pointer = address (byte i 0 + 256 * byte i 1 + 65536 * byte i 2 + 16777216 * byte i 3);
      latch = byte i 4 + 256 * byte i 5;
      control = byte i 6 + 256 * byte i 7;
      hollow = eqb (byte i 8) 1;
    }

unfoldable pub image_of : Registers → List ℕ
image_of r =
    r.pointer.0 % 256 ∷ r.pointer.0 / 256 % 256 ∷ r.pointer.0 / 65536 % 256 ∷ r.pointer.0 / 16777216 % 256 ∷
    lo r.latch ∷ hi r.latch ∷
    lo r.control ∷ hi r.control ∷
    cond r.hollow 1 0 ∷ []
