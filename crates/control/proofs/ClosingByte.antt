-- What LBL decides: which byte closes a word, and which half of the pointer fetches. By cases on LBL.
use Prim.Native.Nat.{ℕ}
use mathlib.Core.Path.{◌≡◌, refl}
use mathlib.Core.Bool.{Bool, true, false, cond}
use mathlib.Core.Logic.{◌↔◌}
use borrow.Author.Tests.{eq-eqb, eqb-true}
use Rattle.words.specs.Bytes.{takes_low, takes_high}
use Rattle.control.specs.Control.{lbl, closes, fetches, first_lane, last_lane}

-- With LBL 0 lanes close a word exactly if they select the high byte.
pub high_closes : (c lanes : ℕ) → lbl c ≡ false → closes c lanes ≡ takes_high lanes
unfolding closes
high_closes c lanes e = rw e

-- With LBL 1 lanes close a word exactly if they select the low byte.
pub low_closes : (c lanes : ℕ) → lbl c ≡ true → closes c lanes ≡ takes_low lanes
unfolding closes
low_closes c lanes e = rw e

-- With LBL 0 register 1 fetches, and no other.
pub high_half_fetches : (c k : ℕ) → lbl c ≡ false → fetches c k ≡ true ↔ k ≡ 1
unfolding fetches
high_half_fetches c k e = rw e (eqb-true k 1, eq-eqb k 1)

-- With LBL 1 register 0 fetches, and no other.
pub low_half_fetches : (c k : ℕ) → lbl c ≡ true → fetches c k ≡ true ↔ k ≡ 0
unfolding fetches
low_half_fetches c k e = rw e (eqb-true k 0, eq-eqb k 0)

-- Of a word done byte by byte the first byte does not close it.
pub first_is_open : (c : ℕ) → closes c (first_lane c) ≡ false
unfolding closes takes_low takes_high
first_is_open c = go (lbl c)
  where
    go : (b : Bool) → cond b (takes_low (cond b 2 1)) (takes_high (cond b 2 1)) ≡ false
    go true = refl
    go false = refl

-- Of a word done byte by byte the last byte closes it.
pub last_closes : (c : ℕ) → closes c (last_lane c) ≡ true
unfolding closes takes_low takes_high
last_closes c = go (lbl c)
  where
    go : (b : Bool) → cond b (takes_low (cond b 1 2)) (takes_high (cond b 1 2)) ≡ true
    go true = refl
    go false = refl

-- Both bytes at once close a word, whatever LBL is.
pub both_close : (c : ℕ) → closes c 3 ≡ true
unfolding closes takes_low takes_high
both_close c = go (lbl c)
  where
    go : (b : Bool) → cond b true true ≡ true
    go true = refl
    go false = refl
