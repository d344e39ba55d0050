-- "An unselected byte is ignored in a write": two writes whose words agree on the selected bytes leave the registers alike.
-- Every register takes the written word by its selected bytes; a high byte of HSTCTL takes it without bit 10.
use Prim.Native.Nat.{ℕ}
use mathlib.Core.Path.{◌≡◌, refl, sym, ap, ◌∙◌}
use mathlib.Core.Bool.{Bool, true, false, cond}
use Rattle.words.specs.Bytes.{lo, hi, takes_low, takes_high, lay, replaced}
use Rattle.words.specs.declared.BitAddress.{BitAddress}
use Rattle.control.specs.Control.{bare, host_low, control_laid}
use Rattle.control.proofs.BitTen.{high_shown}
use Rattle.registers.specs.Registers.{low_half, high_half, half_written, written}
use Rattle.registers.specs.declared.Registers.{Registers}

-- v and w agree on the bytes that the lanes select
pub record AgreeOn (lanes v w : ℕ) : Type 0 where
  pub low : takes_low lanes ≡ true → lo v ≡ lo w
  pub high : takes_high lanes ≡ true → hi v ≡ hi w

chosen : (t : Bool) (x y old : ℕ) → (t ≡ true → x ≡ y) → cond t x old ≡ cond t y old
chosen true x y old e = e refl
chosen false x y old e = refl

laid_alike : (lanes old l l' h h' : ℕ) → (takes_low lanes ≡ true → l ≡ l') → (takes_high lanes ≡ true → h ≡ h') →
    lay lanes old l h ≡ lay lanes old l' h'
unfolding lay
laid_alike lanes old l l' h h' p q = rw (chosen (takes_low lanes) l l' (lo old) p, chosen (takes_high lanes) h h' (hi old) q)

high_alike : (v w : ℕ) → hi v ≡ hi w → hi (bare v) ≡ hi (bare w)
high_alike v w h = high_shown v ∙ rw h (sym (high_shown w))

module _ (lanes v w : ℕ) (e : AgreeOn lanes v w) where
  replaced_alike : (old : ℕ) → replaced lanes old v ≡ replaced lanes old w
  replaced_alike old = laid_alike lanes old (lo v) (lo w) (hi v) (hi w) e.low e.high

  control_alike : (c : ℕ) → control_laid host_low lanes c v ≡ control_laid host_low lanes c w
  control_alike c =
      laid_alike lanes c (host_low (lo c) (lo v)) (host_low (lo c) (lo w)) (hi (bare v)) (hi (bare w))
      (λ t. ap (host_low (lo c)) (e.low t)) (λ t. high_alike v w (e.high t))

  half_alike : (a : BitAddress) (k : ℕ) → half_written a k lanes v ≡ half_written a k lanes w
  unfolding half_written
  half_alike a k = rw (replaced_alike (low_half a), replaced_alike (high_half a))

  -- An unselected byte of the written word changes nothing of the registers, whichever is written.
  pub written_alike : (r : Registers) (k : ℕ) → written r k lanes v ≡ written r k lanes w
  unfolding written
  written_alike r k = rw (half_alike r.pointer k, replaced_alike r.latch, control_alike r.control)
