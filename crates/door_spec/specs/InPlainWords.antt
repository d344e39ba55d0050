-- What the laws of the door say in plain words.
--   GoodImage i                   nine bytes, hollow byte 0 or 1, bit 10 clear
--   Fitting image memory          a call that number 11 does not refuse
--   Misfit image memory           one of the four faults that number 11 tells
--   FitsImage r                   registers of 32 and 16 bits, with bit 10 clear
--   word_in, number_in, hollow_in, cycle_in, rest_in   what lies in the bits of a packed answer
use Rattle.std.specs.Prelude.{ℕ, ◌/◌, ◌%◌, ◌^◌, ◌<◌, ◌≤◌, true, false, List, ◌⊎◌, ◌≢◌, ◌≡◌, length}
use Rattle.words.specs.Bytes.{bit}
use Rattle.registers.specs.InPlainWords.{FitWidths, TenClear}
use Rattle.registers.specs.declared.Registers.{Registers}
use Rattle.door_spec.specs.Bytes.{byte}
use Rattle.door_spec.specs.Image.{registers_of}

pub record GoodImage (image : List ℕ) : Type 0 where
  pub nine_bytes : length image ≡ 9
  pub hollow_byte : byte image 8 ≤ 1
  pub bit_10_clear : bit (registers_of image).control 10 ≡ false

pub record Fitting (image memory : List ℕ) : Type 0 where
  pub good_image : GoodImage image
  pub even_memory : length memory % 2 ≡ 0

-- "image not nine bytes, hollow byte over 1, bit 10 set, or odd memory length"
abbrev pub Misfit : List ℕ → List ℕ → Type 0
Misfit image memory =
    (length image ≢ 9) ⊎
    ((1 < byte image 8) ⊎
    ((bit (registers_of image).control 10 ≡ true) ⊎
    (length memory % 2 ≡ 1)))

pub record FitsImage (r : Registers) : Type 0 where
  pub widths : FitWidths r
  pub ten_clear : TenClear r

-- bits 0-15, 16-23, 24, 25-26 and all above, as shifts and masks take them out
abbrev pub word_in : ℕ → ℕ
word_in p = p % 65536

abbrev pub number_in : ℕ → ℕ
number_in p = p / 2 ^ 16 % 256

abbrev pub hollow_in : ℕ → ℕ
hollow_in p = p / 2 ^ 24 % 2

abbrev pub cycle_in : ℕ → ℕ
cycle_in p = p / 2 ^ 25 % 4

abbrev pub rest_in : ℕ → ℕ
rest_in p = p / 2 ^ 27
