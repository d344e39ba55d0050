-- The first places of a list, as code lends them: from place 0 up to n.
use Rattle.std.proofs.Common.{◌≡◌, ℕ, ◌-◌, ◌≤◌, min, List, ◌++◌, length, take, drop, ap, ◌∙◌, arith, length-take}
use native.Mathlib.Nat.{sub-zero}
use borrow.Rule.Slice.PartMut.{put_mid, Post-is, put_same}
use Rattle.words.specs.Lent.{lent, given_back}

-- The first n places of a list, lent, are n, if it has so many.
pub first_length : (n : ℕ) (l : List ℕ) → n ≤ length l → length (take (n - 0) l) ≡ n
first_length n l h = simp length-take (omega arith)

-- up to the smaller of two numbers
module _ {A : Type 0} (k n : ℕ) (l : List A) (e : n ≡ min k (length l)) where
  -- What is lent of a list up to the smaller of k and its length is `lent k` of it.
  pub lent_is : take (n - 0) l ≡ lent k l
  lent_is = ap (λ (j : ℕ). take j l) (sub-zero n ∙ e)

  -- When the places of a list up to the smaller of k and its length come back as ys, it is `given_back k` of the list and ys.
  pub back_is : (ys : List A) → put_mid 0 (n - 0) l ys ≡ given_back k l ys
  back_is ys = ap (λ (r : List A). ys ++ r) (Post-is 0 n l (omega arith) ∙ ap (λ (j : ℕ). drop j l) e)

-- A list whose first places come back as they were is as it was.
pub unchanged : {A : Type 0} (n : ℕ) (l ys : List A) → ys ≡ take (n - 0) l → put_mid 0 (n - 0) l ys ≡ l
unchanged n l ys e = ap (put_mid 0 (n - 0) l) e ∙ put_same 0 (n - 0) l
