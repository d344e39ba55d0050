-- What `sum_over` says: each word of a run adds its own once.
use Prim.Native.Nat.{ℕ, zero, suc, ◌+◌, ◌≤◌, ◌<◌}
use native.Mathlib.Nat.{add-zero, add-suc, add_assoc, zero-add}
use native.Mathlib.Numerals.{add-one}
use native.Mathlib.Omega.{arith}
use mathlib.Core.Path.{◌≡◌, refl, ap, ◌∙◌}
use Rattle.words.specs.Addresses.{word_at}
use Rattle.words.specs.declared.BitAddress.{BitAddress}
use Rattle.words.specs.declared.WordNumber.{WordNumber}
use Rattle.field_spec.specs.Count.{touched, sum_over}
use Rattle.field_spec.specs.InPlainWords.{Counted}

module _ (f : WordNumber → ℕ) (w : WordNumber) where
  -- The sum over a run of words and the run after it is that over both.
  pub sum_of_two : (j k : ℕ) → sum_over f w (j + k) ≡ sum_over f w j + sum_over f (record { 0 = w.0 + j }) k
  unfolding sum_over
  sum_of_two j zero = rw (add-zero j, add-zero (sum_over f w j))
  sum_of_two j (suc k) = rw (add-suc j k, sum_of_two j k, add_assoc w.0 j k, add_assoc (sum_over f w j))

  -- The sum over a word is that word's.
  pub sum_of_one : sum_over f w 1 ≡ f w
  unfolding sum_over
  sum_of_one = rw (add-zero w.0, zero-add (f w))

  -- Two sums over the same words add up to the sum of both.
  pub sum_of_sums : (g : WordNumber → ℕ) (k : ℕ) → sum_over (λ v. f v + g v) w k ≡ sum_over f w k + sum_over g w k
  unfolding sum_over
  sum_of_sums g zero = refl
  sum_of_sums g (suc k) = rw (sum_of_sums g k) (omega arith)

-- Two sums are the same if every word of the run adds the same to both.
sum_alike : (f g : WordNumber → ℕ) (w : WordNumber) (k : ℕ) → ((v : WordNumber) → w.0 ≤ v.0 → v.0 < w.0 + k → f v ≡ g v)
    → sum_over f w k ≡ sum_over g w k
unfolding sum_over
sum_alike f g w zero h = refl
sum_alike f g w (suc k) h =
    rw (sum_alike f g w k (λ v l m. h v l (omega (arith, m))), h (record { 0 = w.0 + k }) (omega arith) (omega arith))

-- The sum over a field's words depends on no other word: two sums are the same if every counted word adds the same to both.
pub sum_counted : (f g : WordNumber → ℕ) (a : BitAddress) (n : ℕ) → ((w : WordNumber) → Counted a n w → f w ≡ g w)
    → sum_over f (word_at a) (touched a n) ≡ sum_over g (word_at a) (touched a n)
sum_counted f g a n h = sum_alike f g (word_at a) (touched a n) (λ w l m. h w (record { from = l; to = m }))

-- A sum of no larger numbers is no larger.
pub at_most : (f g : WordNumber → ℕ) (w : WordNumber) → ((v : WordNumber) → f v ≤ g v) → (k : ℕ) → sum_over f w k ≤ sum_over g w k
unfolding sum_over
at_most f g w h zero = omega arith
at_most f g w h (suc k) = omega (arith, at_most f g w h k, h (record { 0 = w.0 + k }))

-- Ones add up to how many words there are.
pub sum_ones : (w : WordNumber) (k : ℕ) → sum_over (λ v. 1) w k ≡ k
unfolding sum_over
sum_ones w zero = refl
sum_ones w (suc k) = ap (λ (x : ℕ). x + 1) (sum_ones w k) ∙ add-one k
