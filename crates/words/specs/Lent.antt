-- The first places of a list, lent to a call and given back by it.
--   lent n l              the first n places of l, or all where it has fewer
--   given_back n l part   l when these come back as part
use Rattle.std.specs.Prelude.{ℕ, min, List, ◌++◌, length, take, drop}

module _ {A : Type 0} where
  abbrev pub lent : ℕ → List A → List A
  lent n l = take (min n (length l)) l

  abbrev pub given_back : ℕ → List A → List A → List A
  given_back n l part = part ++ drop (min n (length l)) l
