-- Parts of a list that are lent and come back: how long they are, what the list then is, and what lies where in it.
use Prim.Native.Nat.{ℕ, ◌+◌, ◌-◌, ◌≤◌, ◌<◌}
use native.Mathlib.Nat.{sub-zero}
use native.Mathlib.Omega.{arith}
use mathlib.Core.Path.{◌≡◌, sym, ap, ◌∙◌}
use mathlib.Core.List.{List, [], ◌++◌, append-nil}
use lib.ListN.{length, get_or, take, drop, length-append, length-take, length-drop, drop_of_length-le, get_or-append}
use lib.Seq.{length-take-le, take_at, drop_at, take_all, get_or-append-add, get_or-drop, get_or-take}
use borrow.Rule.Slice.PartMut.{put_mid, post_of, Post-is}
use Rattle.block_spec.specs.Block.{list_part, with_list_part}

-- The n places from a on, lent, are n, if the list has so many.
pub part_length : (a n : ℕ) (l : List ℕ) → a + n ≤ length l → length (take (a + n - a) (drop a l)) ≡ n
part_length a n l h = simp (length-take, length-drop) (omega arith)

-- The n places from a on, lent, are the list's part.
pub part_is : (a n : ℕ) (l : List ℕ) → take (a + n - a) (drop a l) ≡ list_part l a n
part_is a n l =
    let e : a + n - a ≡ n = omega arith in
    ap (λ (k : ℕ). take k (drop a l)) e

-- A list whose n places from a on were lent and come back as ys is what was before them, ys, and what was behind them.
pub put_back : (a n : ℕ) (l ys : List ℕ) → put_mid a (a + n - a) l ys ≡ with_list_part l a n ys
put_back a n l ys = ap (λ (r : List ℕ). take a l ++ (ys ++ r)) (Post-is a (a + n) l (omega arith))

-- The first n places of a list, lent, are its first n words.
pub first_is : (n : ℕ) (l : List ℕ) → take (n - 0) l ≡ take n l
first_is n l = ap (λ (k : ℕ). take k l) (sub-zero n)

-- The places of a list from n on, lent, are its words from there on.
pub rest_is : (n : ℕ) (l : List ℕ) → take (length l - n) (drop n l) ≡ drop n l
rest_is n l = take_all (length l - n) (drop n l) (simp length-drop (omega arith))

-- a list lent in two parts, when xs came back for its first n places
abbrev pub between : ℕ → List ℕ → List ℕ → List ℕ
between n l xs = xs ++ post_of 0 (n - 0) l

-- Then the others are lent.
module _ (n : ℕ) (l xs : List ℕ) (h : n ≤ length l) (e : length xs ≡ n) where
  between_length : length (between n l xs) ≡ length l
  between_length = simp (length-append, length-drop) (omega arith)

  -- The places from n on begin inside the list, once its first n came back as xs.
  pub rest_starts : n ≤ length (between n l xs)
  rest_starts = rw between_length h

  -- The places from n on, lent once the first n came back as xs, are as many as the list has behind those.
  pub rest_length : length (take (length (between n l xs) - n) (drop n (between n l xs))) ≡ length l - n
  rest_length = simp (length-take, length-drop) (omega (arith, between_length))

  -- A list whose first n places came back as xs, and the others come back as ys, is both parts.
  pub both_back : (ys : List ℕ) → put_mid n (length (between n l xs) - n) (between n l xs) ys ≡ xs ++ ys
  both_back ys =
      let left : length (drop n (between n l xs)) ≤ length (between n l xs) - n = simp length-drop (omega arith) in
      let none : post_of n (length (between n l xs) - n) (between n l xs) ≡ [] = drop_of_length-le (drop n (between n l xs)) left in
      rw (take_at xs (post_of 0 (n - 0) l) n e, none, append-nil)

-- ---- what lies where, once a part of a list has become ys
module _ (a n : ℕ) (l ys : List ℕ) (h : a + n ≤ length l) (e : length ys ≡ n) where
  abbrev laid : List ℕ
  laid = with_list_part l a n ys

  front : length (take a l) ≡ a
  front = length-take-le a l (omega arith)

  -- A list whose n places from a on become n words ys is as long as it was.
  pub laid_length : length laid ≡ length l
  laid_length = simp (length-append, length-drop) (omega (arith, front))

  -- In a list whose n places from a on become ys, place a + k has word k of ys.
  pub laid_inside : (k : ℕ) → k < n → get_or laid (a + k) 0 ≡ get_or ys k 0
  laid_inside k q =
      ap (λ (x : ℕ). get_or laid (x + k) 0) (sym front) ∙
      get_or-append-add (take a l) (ys ++ drop (a + n) l) k 0 ∙
      get_or-append ys (drop (a + n) l) 0 k (omega arith)

  -- In a list whose n places from a on become ys, the part from a on is ys.
  pub laid_part : list_part laid a n ≡ ys
  laid_part = rw (drop_at (take a l) (ys ++ drop (a + n) l) a front) (take_at ys (drop (a + n) l) n e)

  -- In a list whose n places from a on become ys, the places before a stay.
  pub laid_before : (k : ℕ) → k < a → get_or laid k 0 ≡ get_or l k 0
  laid_before k q = get_or-append (take a l) (ys ++ drop (a + n) l) 0 k (omega (arith, front)) ∙ get_or-take a l k 0 q

  -- In a list whose n places from a on become ys, the places from a + n on stay.
  pub laid_behind : (k : ℕ) → a + n ≤ k → get_or laid k 0 ≡ get_or l k 0
  laid_behind k q =
      let j = k - (a + n) in
      let far : k ≡ length (take a l) + (length ys + j) = omega (arith, front) in
      let back : a + n + j ≡ k = omega arith in
      ap (λ (x : ℕ). get_or laid x 0) far ∙
      get_or-append-add (take a l) (ys ++ drop (a + n) l) (length ys + j) 0 ∙
      get_or-append-add ys (drop (a + n) l) j 0 ∙
      get_or-drop (a + n) l j 0 ∙
      ap (λ (x : ℕ). get_or l x 0) back
