-- The image and the register record are each other's inverse, on good images and on registers that fit; and where each part lies.
use Prim.Native.Nat.{ℕ, zero, suc, ◌+◌, ◌*◌, ◌/◌, ◌%◌, ◌^◌, ◌<◌, ◌≤◌}
use native.Mathlib.Omega.{arith}
use mathlib.Core.Path.{◌≡◌, refl, sym, ap, ◌∙◌}
use mathlib.Core.Bool.{Bool, true, false, cond}
use mathlib.Core.List.{List, [], ◌∷◌}
use lib.Dec.{eqb}
use Rattle.words.specs.Addresses.{address}
use Rattle.words.specs.Bytes.{bit, AreBytes}
use Rattle.words.proofs.Bits.{bit_of_high}
use Rattle.words.proofs.Lanes.{low_of, high_of, whole_word}
use Rattle.registers.specs.Registers.{low_half, high_half}
use Rattle.registers.specs.InPlainWords.{FitWidths}
use Rattle.registers.specs.declared.Registers.{Registers}
use Rattle.door_spec.specs.Bytes.{byte}
use Rattle.door_spec.specs.Image.{registers_of, image_of}
use Rattle.door_spec.specs.InPlainWords.{GoodImage, FitsImage}

-- ---- where each part lies

-- HSTADRL is bytes 0 and 1, HSTADRH bytes 2 and 3, HSTDATA bytes 4 and 5, HSTCTL bytes 6 and 7, each low byte first; bit 10 of HSTCTL is
-- bit 2 of byte 7, and the hollow mark is set exactly if byte 8 is 1.
pub record Places (i : List ℕ) : Type 0 where
  pub low : low_half (registers_of i).pointer ≡ byte i 0 + 256 * byte i 1
  pub high : high_half (registers_of i).pointer ≡ byte i 2 + 256 * byte i 3
  pub data_register : (registers_of i).latch ≡ byte i 4 + 256 * byte i 5
  pub control : (registers_of i).control ≡ byte i 6 + 256 * byte i 7
  pub bit_10 : bit (registers_of i).control 10 ≡ bit (byte i 7) 2
  pub hollow : (registers_of i).hollow ≡ eqb (byte i 8) 1

low_part : (a b c d : ℕ) → a < 256 → b < 256 → (a + 256 * b + 65536 * c + 16777216 * d) % 65536 ≡ a + 256 * b
low_part a b c d p q = omega arith

high_part : (a b c d : ℕ) → a < 256 → b < 256 → c < 256 → d < 256 → (a + 256 * b + 65536 * c + 16777216 * d) / 65536 % 65536 ≡ c + 256 * d
high_part a b c d p q s t = omega arith

-- Where each register lies in the image: HSTADRL, HSTADRH, HSTDATA and HSTCTL two bytes each, in this order, low byte first, and then the
-- hollow mark.
pub places : (i : List ℕ) → AreBytes i → Places i
unfolding registers_of
places i s =
    record {
      low = low_part (byte i 0) (byte i 1) (byte i 2) (byte i 3) (s 0) (s 1);
      high = high_part (byte i 0) (byte i 1) (byte i 2) (byte i 3) (s 0) (s 1) (s 2) (s 3);
      data_register = refl;
      control = refl;
      bit_10 =
          sym (bit_of_high (byte i 6 + 256 * byte i 7) 2 (omega arith)) ∙
          ap (λ (b : ℕ). bit b 2) (high_of (byte i 6) (byte i 7) (s 6) (s 7));
      hollow = refl;
    }

-- an image in which no two registers are alike: 78 56 34 12 CD AB 01 98 01
pub an_image : List ℕ
an_image = 0x78 ∷ 0x56 ∷ 0x34 ∷ 0x12 ∷ 0xcd ∷ 0xab ∷ 0x01 ∷ 0x98 ∷ 0x01 ∷ []

-- 78 56 34 12 CD AB 01 98 01 stands for pointer 12345678h, HSTDATA ABCDh, HSTCTL 9801h, hollow.
pub its_registers : registers_of an_image ≡ record { pointer = address 0x12345678; latch = 0xabcd; control = 0x9801; hollow = true }
unfolding registers_of an_image
its_registers = refl

-- ---- either gives back the other

joined : (p x y z a b c d : ℕ) → p ≡ a + 256 * x → x ≡ b + 256 * y → y ≡ c + 256 * z → z ≡ d → a + 256 * b + 65536 * c + 16777216 * d ≡ p
joined p x y z a b c d e f g h = omega arith

four_bytes : (p : ℕ) → p < 2 ^ 32 → p % 256 + 256 * (p / 256 % 256) + 65536 * (p / 65536 % 256) + 16777216 * (p / 16777216 % 256) ≡ p
four_bytes p h =
    joined p (p / 256) (p / 65536) (p / 16777216) (p % 256) (p / 256 % 256) (p / 65536 % 256) (p / 16777216 % 256)
    (omega arith) (omega arith) (omega arith) (omega arith)

mark_back : (b : Bool) → eqb (cond b 1 0) 1 ≡ b
mark_back true = refl
mark_back false = refl

-- The registers of the image of registers that fit their widths are those registers.
pub registers_of_image : (r : Registers) → FitWidths r → registers_of (image_of r) ≡ r
unfolding registers_of image_of
registers_of_image r f =
    let l = whole_word r.latch f.data_width in
    let c = whole_word r.control f.control_width in
    rw (four_bytes r.pointer.0 f.pointer_width, l, c, mark_back r.hollow)

module _ (a b c d : ℕ) (p : a < 256) (q : b < 256) (s : c < 256) (t : d < 256) where
  byte_0 : (a + 256 * b + 65536 * c + 16777216 * d) % 256 ≡ a
  byte_0 = omega arith

  byte_1 : (a + 256 * b + 65536 * c + 16777216 * d) / 256 % 256 ≡ b
  byte_1 = omega arith

  byte_2 : (a + 256 * b + 65536 * c + 16777216 * d) / 65536 % 256 ≡ c
  byte_2 = omega arith

  byte_3 : (a + 256 * b + 65536 * c + 16777216 * d) / 16777216 % 256 ≡ d
  byte_3 = omega arith

mark_byte : (n : ℕ) → n ≤ 1 → cond (eqb n 1) 1 0 ≡ n
mark_byte zero h = refl
mark_byte (suc zero) h = refl
mark_byte (suc (suc n)) h = absurd (omega arith)

nine : (a b c d e f j k l : ℕ) → AreBytes (a ∷ b ∷ c ∷ d ∷ e ∷ f ∷ j ∷ k ∷ l ∷ []) → l ≤ 1 →
    image_of (registers_of (a ∷ b ∷ c ∷ d ∷ e ∷ f ∷ j ∷ k ∷ l ∷ [])) ≡ a ∷ b ∷ c ∷ d ∷ e ∷ f ∷ j ∷ k ∷ l ∷ []
unfolding image_of registers_of
nine a b c d e f j k l s h =
    let p = s 0 in
    let q = s 1 in
    let u = s 2 in
    let v = s 3 in
    rw (byte_0 a b c d p q u v, byte_1 a b c d p q u v, byte_2 a b c d p q u v, byte_3 a b c d p q u v)
    (rw (low_of e f (s 4), high_of e f (s 4) (s 5), low_of j k (s 6), high_of j k (s 6) (s 7), mark_byte l h))

-- The image of the registers of a good image is that image.
pub image_of_registers : (i : List ℕ) → GoodImage i → AreBytes i → image_of (registers_of i) ≡ i
image_of_registers [] g s = absurd (omega (arith, g.nine_bytes))
image_of_registers (a ∷ []) g s = absurd (omega (arith, g.nine_bytes))
image_of_registers (a ∷ b ∷ []) g s = absurd (omega (arith, g.nine_bytes))
image_of_registers (a ∷ b ∷ c ∷ []) g s = absurd (omega (arith, g.nine_bytes))
image_of_registers (a ∷ b ∷ c ∷ d ∷ []) g s = absurd (omega (arith, g.nine_bytes))
image_of_registers (a ∷ b ∷ c ∷ d ∷ e ∷ []) g s = absurd (omega (arith, g.nine_bytes))
image_of_registers (a ∷ b ∷ c ∷ d ∷ e ∷ f ∷ []) g s = absurd (omega (arith, g.nine_bytes))
image_of_registers (a ∷ b ∷ c ∷ d ∷ e ∷ f ∷ j ∷ []) g s = absurd (omega (arith, g.nine_bytes))
image_of_registers (a ∷ b ∷ c ∷ d ∷ e ∷ f ∷ j ∷ k ∷ []) g s = absurd (omega (arith, g.nine_bytes))
image_of_registers (a ∷ b ∷ c ∷ d ∷ e ∷ f ∷ j ∷ k ∷ l ∷ n ∷ rest) g s = absurd (omega (arith, g.nine_bytes))
image_of_registers (a ∷ b ∷ c ∷ d ∷ e ∷ f ∷ j ∷ k ∷ l ∷ []) g s = nine a b c d e f j k l s g.hollow_byte

-- ---- what an image holds fits, and what fits makes a good image

word_fits : (l h : ℕ) → l < 256 → h < 256 → l + 256 * h < 65536
word_fits l h p q = omega arith

pointer_fits : (a b c d : ℕ) → a < 256 → b < 256 → c < 256 → d < 256 → a + 256 * b + 65536 * c + 16777216 * d < 2 ^ 32
pointer_fits a b c d p q s t = omega arith

-- The registers of a good image have their widths, and bit 10 clear.
pub image_fits : (i : List ℕ) → GoodImage i → AreBytes i → FitsImage (registers_of i)
unfolding registers_of
image_fits i g s =
    record {
      widths =
          record {
            pointer_width = pointer_fits (byte i 0) (byte i 1) (byte i 2) (byte i 3) (s 0) (s 1) (s 2) (s 3);
            data_width = word_fits (byte i 4) (byte i 5) (s 4) (s 5);
            control_width = word_fits (byte i 6) (byte i 7) (s 6) (s 7);
          };
      ten_clear = g.bit_10_clear;
    }

rest : (v : ℕ) → v % 256 < 256
rest v = omega arith

mark_fits : (b : Bool) → cond b 1 0 < 256
mark_fits true = omega arith
mark_fits false = omega arith

-- The image of any registers is made of bytes.
pub image_bytes : (r : Registers) → AreBytes (image_of r)
unfolding image_of
image_bytes r zero = rest r.pointer.0
image_bytes r (suc zero) = rest (r.pointer.0 / 256)
image_bytes r (suc (suc zero)) = rest (r.pointer.0 / 65536)
image_bytes r (suc (suc (suc zero))) = rest (r.pointer.0 / 16777216)
image_bytes r (suc (suc (suc (suc zero)))) = rest r.latch
image_bytes r (suc (suc (suc (suc (suc zero))))) = rest (r.latch / 256)
image_bytes r (suc (suc (suc (suc (suc (suc zero)))))) = rest r.control
image_bytes r (suc (suc (suc (suc (suc (suc (suc zero))))))) = rest (r.control / 256)
image_bytes r (suc (suc (suc (suc (suc (suc (suc (suc zero)))))))) = mark_fits r.hollow
image_bytes r (suc (suc (suc (suc (suc (suc (suc (suc (suc k))))))))) = omega arith

mark_small : (b : Bool) → cond b 1 0 ≤ 1
mark_small true = omega arith
mark_small false = omega arith

-- The image of registers that have their widths, and bit 10 clear, is a good one.
pub good_image : (r : Registers) → FitsImage r → GoodImage (image_of r)
unfolding image_of
good_image r f =
    record {
      nine_bytes = refl;
      hollow_byte = mark_small r.hollow;
      bit_10_clear = ap (λ (q : Registers). bit q.control 10) (registers_of_image r f.widths) ∙ f.ten_clear;
    }
