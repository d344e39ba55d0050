-- A word done byte by byte, in either order, ends as the word done whole: the heart of demand 3.
-- The order is a Bool, the way LBL has it: true for the high byte first and the low byte last.
use Rattle.std.proofs.Common.{◌≡◌, ℕ, ◌+◌, ◌<◌, Bool, true, false, cond, arith}
use Rattle.words.specs.Bytes.{lo, hi, takes_low, takes_high, lay, shown, replaced}
use Rattle.words.proofs.Lanes.{low_of, high_of}

-- Bytes laid over a word one after the other, in either order, leave what both laid at once leave. The new low byte may depend on the old
-- one, as in the control register: f says how.
pub lay_both : (b : Bool) (f : ℕ → ℕ) (old h : ℕ) → ((x : ℕ) → f x < 256) → h < 256 →
    lay (cond b 1 2) (lay (cond b 2 1) old (f (lo old)) h) (f (lo (lay (cond b 2 1) old (f (lo old)) h))) h
    ≡ lay 3 old (f (lo old)) h
unfolding lay takes_low takes_high
lay_both true f old h k q = rw (low_of (lo old) h (omega arith), high_of (lo old) h (omega arith) q)
lay_both false f old h k q = rw (low_of (f (lo old)) (hi old) (k (lo old)))

-- A word written byte by byte, in either order, is the word written whole.
pub replaced_both : (b : Bool) (old w : ℕ) → replaced (cond b 1 2) (replaced (cond b 2 1) old w) w ≡ replaced 3 old w
replaced_both b old w = lay_both b (λ x. lo w) old (hi w) (λ x. omega arith) (omega arith)

-- The answers to a word read byte by byte, in either order, add up to that of the word read whole.
pub shown_both : (b : Bool) (w : ℕ) → shown (cond b 2 1) w + shown (cond b 1 2) w ≡ shown 3 w
unfolding lay takes_low takes_high
shown_both true w = omega arith
shown_both false w = omega arith
