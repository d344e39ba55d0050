-- What is taken of a text goes from line to line: a good line at the front, and then what is taken of the text behind it. A text has no
-- more lines than bytes, so its length is enough as a bound, and any larger number takes the same.
use Prim.Native.Nat.{ℕ, zero, suc, ◌≤◌, ◌<◌}
use native.Mathlib.Omega.{arith}
use mathlib.Core.Path.{◌≡◌, refl, ap, ◌∙◌}
use mathlib.Core.Bool.{false, true≢false}
use mathlib.Core.List.{List, [], ◌∷◌}
use lib.ListN.{length, drop, length-drop}
use Rattle.port_spec.specs.declared.Access.{Access}
use Rattle.listing.specs.Line.{has_feed, front_line}
use Rattle.listing.specs.Following.{is_good}
use Rattle.listing.specs.declared.Front.{Front}
use Rattle.listing.specs.declared.Front.TheVariants.{Good, Bad, Open}
use Rattle.transcript_lines.specs.Lines.{entry_of}
use Rattle.transcript_lines.specs.Taking.{Taking, nothing, more, by_front, takes, taking}
use Rattle.transcript_lines.proofs.FirstLine.{begins}

-- Two takings are the same if they are on every shorter text.
same_front : (f g : List ℕ → Taking) (t : List ℕ) → ((u : List ℕ) → length u < length t → f u ≡ g u) →
    by_front f t (front_line t) ≡ by_front g t (front_line t)
same_front f g t same = go (front_line t) refl
  where
    go : (x : Front) → front_line t ≡ x → by_front f t x ≡ by_front g t x
    go (Good a n) e =
        let b = begins t e in
        ap (more (entry_of a)) (same (drop n t) (simp length-drop (omega (arith, b.some, b.all))))
    go Bad e = refl
    go Open e = refl

-- Two bounds that are enough take the same.
enough : (n m : ℕ) (t : List ℕ) → length t ≤ n → length t ≤ m → takes n t ≡ takes m t
unfolding takes front_line has_feed
enough zero zero t h k = refl
enough zero (suc m) [] h k = refl
enough zero (suc m) (b ∷ t) h k = absurd (omega (arith, h))
enough (suc n) zero [] h k = refl
enough (suc n) zero (b ∷ t) h k = absurd (omega (arith, k))
enough (suc n) (suc m) t h k =
    same_front (takes n) (takes m) t (λ u l. enough n m u (omega (arith, l, h)) (omega (arith, l, k)))

-- What is taken of a text is its first line, if it is good, and then what is taken of the others.
pub first_taken : (t : List ℕ) → taking t ≡ by_front taking t (front_line t)
unfolding takes front_line has_feed
first_taken [] = refl
first_taken (b ∷ t) =
    same_front (takes (length t)) taking (b ∷ t) (λ u l. enough (length t) (length u) u (omega (arith, l)) (omega arith))

-- A good line at the front is taken, and then what is taken behind it.
pub good_taken : (t : List ℕ) {a : Access} {n : ℕ} → front_line t ≡ Good a n → taking t ≡ more (entry_of a) (taking (drop n t))
good_taken t e = first_taken t ∙ ap (by_front taking t) e

-- Where the front is no good line, nothing is taken.
pub nothing_taken : (t : List ℕ) → is_good (front_line t) ≡ false → taking t ≡ nothing t
nothing_taken t h = first_taken t ∙ go (front_line t) h
  where
    go : (x : Front) → is_good x ≡ false → by_front taking t x ≡ nothing t
    go (Good a n) e = absurd (true≢false e)
    go Bad e = refl
    go Open e = refl
