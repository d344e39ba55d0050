-- The entries that are left from place i on, of n: entry i is the first of them, as long as there are any.
use Prim.Native.Nat.{ℕ, suc, ◌+◌, ◌-◌, ◌≤◌, ◌<◌}
use native.Mathlib.Nat.{sub-zero}
use native.Mathlib.Numerals.{add-one}
use native.Mathlib.Omega.{arith}
use mathlib.Core.Path.{◌≡◌, sym, ap, ◌∙◌}
use mathlib.Core.List.{List, [], ◌∷◌}
use Rattle.transcript_spec.specs.Lists.{Lists, entry_at, entries_from}
use Rattle.transcript_spec.specs.declared.Entry.{Entry}

module _ (l : Lists) where
  -- of the first n entries that four lists hold, those from place i on
  abbrev pub left : ℕ → ℕ → List Entry
  left n i = entries_from l i (n - i)

  -- From place 0 on all of n entries are left.
  pub all_left : (n : ℕ) → left n 0 ≡ entries_from l 0 n
  all_left n = ap (entries_from l 0) (sub-zero n)

  -- As long as entries are left from place i on, entry i is the first of them, and those from the next place on are behind it.
  pub next_left : (n i : ℕ) → i < n → left n i ≡ entry_at l i ∷ left n (i + 1)
  unfolding entries_from
  next_left n i h =
      let some : n - i ≡ suc (n - (i + 1)) = omega arith in
      ap (entries_from l i) some ∙ ap (λ (j : ℕ). entry_at l i ∷ entries_from l j (n - (i + 1))) (sym (add-one i))

  -- From place n on, none of n entries is left.
  pub none_left : (n i : ℕ) → n ≤ i → left n i ≡ []
  unfolding entries_from
  none_left n i h = let none : n - i ≡ 0 = omega arith in ap (entries_from l i) none
