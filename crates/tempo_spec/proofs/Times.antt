-- The list of the times: its length, its places, and how a loop that fills a list place by place comes to it.
use Prim.Native.Nat.{ℕ, zero, suc, ◌+◌, ◌-◌, ◌≤◌, ◌<◌}
use native.Mathlib.Numerals.{add-one}
use native.Mathlib.Omega.{arith}
use mathlib.Core.Path.{◌≡◌, refl, sym, ap, ◌∙◌, subst}
use mathlib.Core.Logic.{⊎_elim}
use mathlib.Core.List.{List, [], ◌∷◌, ◌++◌}
use lib.ListN.{length, drop, set, get_or, length-append, length-drop}
use lib.Seq.{drop-cons, set_at, append_snoc, get_or_at, get_or-take, get_or-drop, take_at, drop_at}
use lib.Ieee.{Float, nan}
use Rattle.std.proofs.lemmas.Bool.{cases_lt}
use Rattle.tempo_spec.specs.Tempo.{even_time, even_times, with_times}

module _ (first last strokes : ℕ) where
  -- There are as many times as strokes asked for.
  pub times_length : (n : ℕ) → length (even_times first last strokes n) ≡ n
  unfolding even_times
  times_length zero = refl
  times_length (suc n) =
      length-append (even_times first last strokes n) (_ ∷ []) ∙ ap (λ (i : ℕ). i + 1) (times_length n) ∙ add-one n

  in_front : (n k : ℕ) (rest : List Float) (d : Float) → k < n
      → get_or (even_times first last strokes n ++ rest) k d ≡ get_or (even_times first last strokes n) k d
  in_front n k rest d h =
      let times = even_times first last strokes n in
      sym (get_or-take n (times ++ rest) k d h) ∙ ap (λ (l : List Float). get_or l k d) (take_at times rest n (times_length n))

  -- Place k of the times has the time of stroke k.
  pub time_at : (n k : ℕ) (d : Float) → k < n → get_or (even_times first last strokes n) k d ≡ even_time first last strokes k
  unfolding even_times
  time_at zero k d h = absurd (omega arith)
  time_at (suc n) k d h =
      let times = even_times first last strokes n in
      let newest = even_time first last strokes n in
      ⊎_elim
      (λ earlier. in_front n k (newest ∷ []) d earlier ∙ time_at n k d earlier)
      (λ not_Earlier.
      let here : n ≡ k = omega arith in
      subst (λ (i : ℕ). get_or (times ++ (newest ∷ [])) i d ≡ even_time first last strokes i) here
      (get_or_at times newest [] d n (times_length n)))
      (cases_lt k n)

  -- ---- a list with times laid into its first places

  -- In a list whose first n places have their times, place k of these has the time of stroke k.
  pub filled_place : (n k : ℕ) (l : List Float) (d : Float) → k < n
      → get_or (even_times first last strokes n ++ drop n l) k d ≡ even_time first last strokes k
  filled_place n k l d h = in_front n k (drop n l) d h ∙ time_at n k d h

  -- In a list whose first n places have their times, the later places stay.
  pub later_stays : (n k : ℕ) (l : List Float) (d : Float) → n ≤ k → get_or (even_times first last strokes n ++ drop n l) k d ≡ get_or l k d
  later_stays n k l d h =
      let times = even_times first last strokes n in
      let on : n + (k - n) ≡ k = omega arith in
      subst (λ (i : ℕ). get_or (times ++ drop n l) i d ≡ get_or l i d) on (
      sym (get_or-drop n (times ++ drop n l) (k - n) d)
      ∙ ap (λ (rest : List Float). get_or rest (k - n) d) (drop_at times (drop n l) n (times_length n)) ∙ get_or-drop n l (k - n) d)

  -- If place m of a list whose first m places have their times takes its own, the first m + 1 have theirs.
  pub times_more : (m : ℕ) (l : List Float) → m < length l
      → set (even_times first last strokes m ++ drop m l) m (even_time first last strokes m)
      ≡ even_times first last strokes (m + 1) ++ drop (m + 1) l
  unfolding even_times
  times_more m l h =
      let times = even_times first last strokes m in
      let newest = even_time first last strokes m in
      ap (λ (rest : List Float). set (times ++ rest) m newest) (drop-cons l m nan h)
      ∙ set_at times (get_or l m nan) (drop (suc m) l) newest m (times_length m)
      ∙ sym (append_snoc times newest (drop (suc m) l))
      ∙ ap (λ (n : ℕ). even_times first last strokes n ++ drop n l) (sym (add-one m))

  -- ---- the list that takes the times of all strokes

  -- Place k of the list that takes the times of all strokes has the time of stroke k.
  pub struck_place : (k : ℕ) (l : List Float) (d : Float) → k < strokes
      → get_or (with_times first last strokes l) k d ≡ even_time first last strokes k
  struck_place k l d h = filled_place strokes k l d h

  -- The later places of the list that takes the times of all strokes stay.
  pub rest_stays : (k : ℕ) (l : List Float) (d : Float) → strokes ≤ k → get_or (with_times first last strokes l) k d ≡ get_or l k d
  rest_stays k l d h = later_stays strokes k l d h

  -- The list that takes the times of all strokes has as many places as before, if there was one for each stroke.
  pub struck_length : (l : List Float) → strokes ≤ length l → length (with_times first last strokes l) ≡ length l
  struck_length l h =
      length-append (even_times first last strokes strokes) (drop strokes l)
      ∙ rw (times_length strokes, length-drop strokes l) (omega arith)
