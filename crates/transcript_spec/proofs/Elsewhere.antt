-- A string is read on alike wherever the reading stands: with entries before it, and at other places of a longer string, the reader finds
-- the same records in it. And a string in two parts is read one after the other.
use Prim.Native.Nat.{ℕ, ◌+◌}
use native.Mathlib.Nat.{add-zero, add_assoc}
use native.Mathlib.Omega.{arith}
use mathlib.Core.Path.{◌≡◌, refl, sym, ap, ◌∙◌}
use mathlib.Core.Bool.{Bool, true, false, cond}
use mathlib.Core.List.{List, [], ◌∷◌, ◌++◌, append_assoc, append-nil}
use lib.Dec.{eqb}
use lib.ListN.{length, length-append}
use borrow.Author.Tests.{ne_eqb}
use Rattle.transcript_spec.specs.Reading.{Reading, fresh, at, byte_taken, fed, feed, feeds}
use Rattle.transcript_spec.specs.declared.Entry.{Entry}
use Rattle.transcript_spec.specs.declared.Part.{Part}
use Rattle.transcript_spec.specs.declared.Step.{Step}
use Rattle.transcript_spec.specs.declared.Step.TheVariants.{Goes, Whole, Bad}

-- A string in two parts is read one after the other.
pub feeds_joined : (r : Reading) (s t : List ℕ) → feeds r (s ++ t) ≡ feeds (feeds r s) t
unfolding feeds
feeds_joined r [] t = refl
feeds_joined r (b ∷ s) t = feeds_joined (feed r b) s t

-- the reading a, with entries before its own, and at the places from next on; its first record may have begun before those, at from
abbrev pub elsewhere : List Entry → ℕ → ℕ → Reading → Reading
elsewhere got from next a =
    at (got ++ a.got) (cond (eqb (length a.got) 0) from (next + a.from)) (next + a.next) a.part a.refusal

module _ (got : List Entry) (from next : ℕ) where
  -- a record that is finished was not the last one: the next begins in this string
  begins_here : (es : List Entry) (e : Entry) (x y : ℕ) → cond (eqb (length (es ++ (e ∷ []))) 0) x y ≡ y
  begins_here es e x y =
      let n = length-append es (e ∷ []) in
      ap (λ (t : Bool). cond t x y) (ne_eqb (length (es ++ (e ∷ []))) 0 (λ z. omega arith))

  step_elsewhere : (a : Reading) (x : Step) →
      fed (got ++ a.got) (elsewhere got from next a).from (next + a.next + 1) x ≡
      elsewhere got from next (fed a.got a.from (a.next + 1) x)
  step_elsewhere a (Goes p) = ap (λ (n : ℕ). at (got ++ a.got) (elsewhere got from next a).from n p 0) (add_assoc next a.next 1)
  step_elsewhere a (Bad n) = ap (λ (i : ℕ). at (got ++ a.got) (elsewhere got from next a).from i fresh n) (add_assoc next a.next 1)
  step_elsewhere a (Whole e) =
      ap (λ (es : List Entry). at es (next + a.next + 1) (next + a.next + 1) fresh 0) (append_assoc got a.got (e ∷ []))
      ∙ ap (λ (i : ℕ). at (got ++ (a.got ++ (e ∷ []))) i i fresh 0) (add_assoc next a.next 1)
      ∙ ap (λ (i : ℕ). at (got ++ (a.got ++ (e ∷ []))) i (next + (a.next + 1)) fresh 0)
      (sym (begins_here a.got e from (next + (a.next + 1))))

  byte_elsewhere : (a : Reading) (b : ℕ) → feed (elsewhere got from next a) b ≡ elsewhere got from next (feed a b)
  unfolding feed
  byte_elsewhere a b = either (eqb a.refusal 0)
    where
      either : (t : Bool) →
          cond t (fed (got ++ a.got) (elsewhere got from next a).from (next + a.next + 1) (byte_taken a.part b))
          (elsewhere got from next a) ≡
          elsewhere got from next (cond t (fed a.got a.from (a.next + 1) (byte_taken a.part b)) a)
      either true = step_elsewhere a (byte_taken a.part b)
      either false = refl

  feeds_elsewhere : (a : Reading) (s : List ℕ) → feeds (elsewhere got from next a) s ≡ elsewhere got from next (feeds a s)
  unfolding feeds
  feeds_elsewhere a [] = refl
  feeds_elsewhere a (b ∷ s) = ap (λ (r : Reading). feeds r s) (byte_elsewhere a b) ∙ feeds_elsewhere (feed a b) s

  -- What is read of a string does not depend on where it stands, or on what was read before it.
  pub reads_elsewhere : (p : Part) (s : List ℕ) → feeds (at got from next p 0) s ≡ elsewhere got from next (feeds (at [] 0 0 p 0) s)
  reads_elsewhere p s =
      ap (λ (r : Reading). feeds r s)
      (sym
      (ap (λ (es : List Entry). at es from (next + 0) p 0) (append-nil got) ∙
      ap (λ (n : ℕ). at got from n p 0) (add-zero next)))
      ∙ feeds_elsewhere (at [] 0 0 p 0) s
