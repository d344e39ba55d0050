-- What the definitions of lanes say: document 01, "Lanes: 1 is the low byte, 2 the high, 3 both. An unselected byte is
-- ignored in a write and 0 in an answer". Each law goes by cases on which bytes are selected.
use Rattle.std.proofs.Common.{◌≡◌, ℕ, ◌+◌, ◌*◌, ◌<◌, ◌≤◌, Bool, true, false, cond, ◌||◌, eqb, ◌≢◌, ◌⊎◌, ◌↔◌, sym, refl, ap, ◌∙◌, inl, inr, ⊎_elim, true≢false, arith, eqb-true}
use mathlib.Core.Bool.{false≢true}
use borrow.Author.Tests.{eqb-false}
use Rattle.words.specs.Bytes.{lo, hi, takes_low, takes_high, are_lanes, lay, shown, replaced}

-- ---- which lanes select a byte
one_of : (n j k : ℕ) → (eqb n j || eqb n k) ≡ true ↔ (n ≡ j) ⊎ (n ≡ k)
one_of n j k = go (eqb n j) (eqb n k) refl refl
  where
    go : (s t : Bool) → eqb n j ≡ s → eqb n k ≡ t → (s || t) ≡ true ↔ (n ≡ j) ⊎ (n ≡ k)
    go true t e f = (λ _. inl (eqb-true n j e), λ _. refl)
    go false true e f = (λ _. inr (eqb-true n k f), λ _. refl)
    go false false e f = (λ x. absurd (false≢true x), λ x. absurd (⊎_elim (eqb-false n j e) (eqb-false n k f) x))

-- Exactly lanes 1 and 3 select the low byte.
pub low_lanes : (lanes : ℕ) → takes_low lanes ≡ true ↔ (lanes ≡ 1) ⊎ (lanes ≡ 3)
unfolding takes_low
low_lanes lanes = one_of lanes 1 3

-- Exactly lanes 2 and 3 select the high byte.
pub high_lanes : (lanes : ℕ) → takes_high lanes ≡ true ↔ (lanes ≡ 2) ⊎ (lanes ≡ 3)
unfolding takes_high
high_lanes lanes = one_of lanes 2 3

-- A number names lanes exactly if it is 1, 2 or 3.
pub lanes_named : (n : ℕ) → are_lanes n ≡ true ↔ (1 ≤ n) × (n ≤ 3)
unfolding are_lanes
lanes_named n = go (eqb n 1) (eqb n 2) (eqb n 3) refl refl refl
  where
    go : (a b c : Bool) → eqb n 1 ≡ a → eqb n 2 ≡ b → eqb n 3 ≡ c → (a || (b || c)) ≡ true ↔ (1 ≤ n) × (n ≤ 3)
    go true b c p q r = (λ _. omega (arith, eqb-true n 1 p), λ _. refl)
    go false true c p q r = (λ _. omega (arith, eqb-true n 2 q), λ _. refl)
    go false false true p q r = (λ _. omega (arith, eqb-true n 3 r), λ _. refl)
    go false false false p q r = (
      λ x. absurd (false≢true x),
      λ h. absurd (omega (arith, h.0, h.1, eqb-false n 1 p, eqb-false n 2 q, eqb-false n 3 r)),
    )

-- A number that names no lanes is none of 1, 2 and 3.
pub lanes_unnamed : (n : ℕ) → are_lanes n ≡ false → (n ≢ 1) × (n ≢ 2) × (n ≢ 3)
unfolding are_lanes
lanes_unnamed n e =
    (λ q. true≢false (sym (ap are_lanes q) ∙ e), λ q. true≢false (sym (ap are_lanes q) ∙ e), λ q. true≢false (sym (ap are_lanes q) ∙ e))

-- ---- a word is its two bytes
-- The low byte of a word made of two bytes is the first.
pub low_of : (l h : ℕ) → l < 256 → lo (l + 256 * h) ≡ l
low_of l h p = omega arith

-- The high byte of a word made of two bytes is the second.
pub high_of : (l h : ℕ) → l < 256 → h < 256 → hi (l + 256 * h) ≡ h
high_of l h p q = omega arith

-- A word is made of its two bytes.
pub whole_word : (w : ℕ) → w < 65536 → lo w + 256 * hi w ≡ w
whole_word w p = omega arith

-- ---- bytes laid over a word: a selected byte is the new one, any other the old one
byte_below : (t : Bool) (x y : ℕ) → x < 256 → y < 256 → cond t x y < 256
byte_below true x y p q = p
byte_below false x y p q = q

module _ (lanes old l h : ℕ) (p : l < 256) (q : h < 256) where
  low_below : cond (takes_low lanes) l (lo old) < 256
  low_below = byte_below (takes_low lanes) l (lo old) p (omega arith)

  high_below : cond (takes_high lanes) h (hi old) < 256
  high_below = byte_below (takes_high lanes) h (hi old) q (omega arith)

  -- Bytes laid over a word make a word.
  pub laid_word : lay lanes old l h < 65536
  unfolding lay
  laid_word = omega (arith, low_below, high_below)

  -- The low byte of what is laid is the new one where it is selected, else the old one.
  pub laid_low : lo (lay lanes old l h) ≡ cond (takes_low lanes) l (lo old)
  unfolding lay
  laid_low = low_of _ _ low_below

  -- The high byte of what is laid is the new one where it is selected, else the old one.
  pub laid_high : hi (lay lanes old l h) ≡ cond (takes_high lanes) h (hi old)
  unfolding lay
  laid_high = high_of _ _ low_below high_below

-- ---- a write
-- A write leaves the written low byte where it is selected, and else the old one.
pub replaced_low : (lanes old new : ℕ) → lo (replaced lanes old new) ≡ cond (takes_low lanes) (lo new) (lo old)
replaced_low lanes old new = laid_low lanes old (lo new) (hi new) (omega arith) (omega arith)

-- A write leaves the written high byte where it is selected, and else the old one.
pub replaced_high : (lanes old new : ℕ) → hi (replaced lanes old new) ≡ cond (takes_high lanes) (hi new) (hi old)
replaced_high lanes old new = laid_high lanes old (lo new) (hi new) (omega arith) (omega arith)

-- What a write leaves of a word has 16 bits.
pub replaced_word : (lanes old new : ℕ) → replaced lanes old new < 65536
replaced_word lanes old new = laid_word lanes old (lo new) (hi new) (omega arith) (omega arith)

-- A write of both bytes leaves the written word.
pub replaced_whole : (old w : ℕ) → w < 65536 → replaced 3 old w ≡ w
unfolding lay takes_low takes_high
replaced_whole old w p = whole_word w p

-- ---- an answer
-- An answer has the low byte where it is selected, and else 0.
pub shown_low : (lanes w : ℕ) → lo (shown lanes w) ≡ cond (takes_low lanes) (lo w) 0
shown_low lanes w = laid_low lanes 0 (lo w) (hi w) (omega arith) (omega arith)

-- An answer has the high byte where it is selected, and else 0.
pub shown_high : (lanes w : ℕ) → hi (shown lanes w) ≡ cond (takes_high lanes) (hi w) 0
shown_high lanes w = laid_high lanes 0 (lo w) (hi w) (omega arith) (omega arith)

-- An answer on both lanes is the whole word.
pub shown_whole : (w : ℕ) → w < 65536 → shown 3 w ≡ w
unfolding lay takes_low takes_high
shown_whole w p = whole_word w p
