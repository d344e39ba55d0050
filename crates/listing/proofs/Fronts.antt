-- What `front_line` answers, number by number, exactly if: a row of `FrontAs` decides the numbers, and one row or another always holds,
-- since a text has a line feed or not, and what stands before it is a good line or not.
use Prim.Native.Nat.{ℕ, ◌+◌}
use native.Mathlib.Omega.{arith}
use mathlib.Core.Path.{◌≡◌, refl, sym, ap, ◌∙◌, subst}
use mathlib.Core.Bool.{true}
use mathlib.Core.List.{List, ◌∷◌, ◌++◌}
use mathlib.Core.Logic.{⊎_elim, ◌↔◌, ◌≢◌}
use lib.ListN.{length}
use borrow.Author.Tests.{lt-ltb, le-ltb}
use Rattle.std.proofs.lemmas.Bool.{cases_Bool, cases_lt}
use Rattle.port_spec.specs.declared.Access.{Access}
use Rattle.port_spec.specs.declared.Access.TheVariants.{Read, Write}
use Rattle.listing.specs.InNumbers.{FrontNumbers, front_numbers, FrontAs}
use Rattle.listing.specs.InNumbers as plain
use Rattle.listing.specs.Line.{Line, good, bad, line_of, before_feed, has_feed, with_length, front_line}
use Rattle.listing.specs.Spelled.{line_text, Sayable}
use Rattle.listing.specs.declared.Front.{Front}
use Rattle.listing.specs.declared.Front.TheVariants.{Good}
use Rattle.listing.proofs.Feeds.{none_before, split_feed}
use Rattle.listing.proofs.FrontLine.{whole_line}
use Rattle.listing.proofs.GoodLines.{says_it, only_it, no_feed_in}

-- A line that is the text of no such access is bad.
other_shape : (u : List ℕ) → ((a : Access) → Sayable a → u ≢ line_text a) → line_of u ≡ bad
other_shape u none = go (line_of u) refl
  where
    go : (x : Line) → line_of u ≡ x → x ≡ bad
    go (good a) e = let o = only_it u a e in absurd (none a o.1 o.0)
    go bad e = refl

not_good : (a : Access) → bad ≡ good a → ⊥
not_good a e = let no : ◌≡◌ {A = ℕ} 0 1 = cc in absurd (omega arith)

module _ (t : List ℕ) where
  good_line : (a : Access) (v : List ℕ) → Sayable a → t ≡ line_text a ++ 10 ∷ v →
      front_numbers (front_line t) ≡ front_numbers (Good a (length (line_text a) + 1))
  good_line a v h is =
      ap (λ (u : List ℕ). front_numbers (front_line u)) is
      ∙ ap front_numbers (whole_line (line_text a) v (no_feed_in a) ∙ ap (with_length (length (line_text a) + 1)) (says_it a h))

  says : (n : FrontNumbers) → FrontAs t n → front_numbers (front_line t) ≡ n
  unfolding front_line
  says _ (plain.FrontAs.read_line r l v h is) = good_line (Read r l) v h is
  says _ (plain.FrontAs.write_line r l w v h is) = good_line (Write r l w) v h is
  says _ (plain.FrontAs.bad_line u v h is none) =
      ap (λ (w : List ℕ). front_numbers (front_line w)) is
      ∙ ap front_numbers (whole_line u v h ∙ ap (with_length (length u + 1)) (other_shape u none))
  says _ (plain.FrontAs.long_line h k) = rw (h, lt-ltb 31 (length t) k) refl
  says _ (plain.FrontAs.open_line h k) = rw (h, le-ltb 31 (length t) k) refl

  with_feed : has_feed t ≡ true → (n : FrontNumbers) × FrontAs t n
  with_feed e = go (line_of (before_feed t)) refl
    where
      good_as : (a : Access) (v : List ℕ) → Sayable a → t ≡ line_text a ++ 10 ∷ v → (n : FrontNumbers) × FrontAs t n
      good_as (Read r l) v h is = (_, plain.FrontAs.read_line r l v h is)
      good_as (Write r l w) v h is = (_, plain.FrontAs.write_line r l w v h is)

      go : (x : Line) → line_of (before_feed t) ≡ x → (n : FrontNumbers) × FrontAs t n
      go (good a) f =
          let p = split_feed t e in
          let o = only_it (before_feed t) a f in
          good_as a p.rest o.1 (p.is ∙ ap (λ (u : List ℕ). u ++ 10 ∷ p.rest) o.0)
      go bad f =
          let p = split_feed t e in
          let none : (a : Access) → Sayable a → before_feed t ≢ line_text a = λ a h is. not_good a (sym f ∙ ap line_of is ∙ says_it a h) in
          (_, plain.FrontAs.bad_line (before_feed t) p.rest (none_before t) p.is none)

  some : (n : FrontNumbers) × FrontAs t n
  some =
      ⊎_elim with_feed
      (λ e. ⊎_elim (λ k. (_, plain.FrontAs.long_line e k)) (λ k. (_, plain.FrontAs.open_line e k)) (cases_lt 31 (length t)))
      (cases_Bool (has_feed t))

  -- The numbers of what `front_line` answers are these exactly if the text begins so: with a good line, with a bad one, or with one that
  -- may go on (`FrontAs`).
  pub front_exactly : {x : Front} → x ≡ front_line t → (n : FrontNumbers) → front_numbers x ≡ n ↔ FrontAs t n
  front_exactly p n = (
    λ e. subst (FrontAs t) (sym (says some.0 some.1) ∙ ap front_numbers (sym p) ∙ e) some.1,
    λ w. ap front_numbers p ∙ says n w,
  )
