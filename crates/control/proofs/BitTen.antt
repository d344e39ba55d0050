-- "Bit 10 is always 0, and reads as 0 from a record passed in with it set": every other bit reads as it stands.
-- A bit below it is one of the remainder by 2^10, a bit above it one of the quotient by 2^11, and those are kept.
use Prim.Native.Nat.{ℕ, ◌+◌, ◌*◌, ◌/◌, ◌%◌, ◌^◌, ◌<◌}
use native.Mathlib.Omega.{arith}
use mathlib.Core.Path.{◌≡◌, sym, ap, ◌∙◌}
use mathlib.Core.Bool.{false}
use borrow.Author.Tests.{ne_eqb}
use Rattle.words.specs.Bytes.{hi, bit}
use Rattle.words.proofs.Bits.{bit_of_quotient, bit_of_remainder}
use Rattle.control.specs.Control.{bare}

bytes_above : (c : ℕ) → bare c / 256 ≡ c / 256 / 8 * 8 + c / 256 % 4
unfolding bare
bytes_above c = omega arith

eights : (k b : ℕ) → (k * 256 + b) / 8 * 8 ≡ k * 256 + b / 8 * 8
eights k b = omega arith

fours : (k b : ℕ) → (k * 256 + b) % 4 ≡ b % 4
fours k b = omega arith

low_eight : (k b : ℕ) → b < 256 → ((k * 256 + b) / 8 * 8 + (k * 256 + b) % 4) % 256 ≡ b / 8 * 8 + b % 4
low_eight k b h = rw (eights k b, fours k b) (omega arith)

module _ (c : ℕ) where
  -- As HSTCTL reads, bit 10 is 0.
  pub ten_hidden : bit (bare c) 10 ≡ false
  unfolding bit bare
  ten_hidden = ne_eqb (bare c / 2 ^ 10 % 2) 1 (omega arith)

  remainder_kept : bare c % 2 ^ 10 ≡ c % 2 ^ 10
  unfolding bare
  remainder_kept = omega arith

  quotient_kept : bare c / 2 ^ 11 ≡ c / 2 ^ 11
  unfolding bare
  quotient_kept = omega arith

  -- As HSTCTL reads, every bit below bit 10 is as it stands.
  pub below_ten_shown : (i : ℕ) → i < 10 → bit (bare c) i ≡ bit c i
  below_ten_shown i h = sym (bit_of_remainder (bare c) 10 i h) ∙ rw remainder_kept (bit_of_remainder c 10 i h)

  -- As HSTCTL reads, every bit above bit 10 is as it stands.
  pub above_ten_shown : (i : ℕ) → bit (bare c) (11 + i) ≡ bit c (11 + i)
  above_ten_shown i = sym (bit_of_quotient (bare c) 11 i) ∙ rw quotient_kept (bit_of_quotient c 11 i)

  -- The high byte that is shown is the high byte without its bit 2: the low byte plays no part.
  pub high_shown : hi (bare c) ≡ hi c / 8 * 8 + hi c % 4
  high_shown =
      let e : c / 256 ≡ c / 256 / 256 * 256 + hi c = omega arith in
      ap (λ (x : ℕ). x % 256) (bytes_above c) ∙
      ap (λ (q : ℕ). (q / 8 * 8 + q % 4) % 256) e ∙
      low_eight (c / 256 / 256) (hi c) (omega arith)
