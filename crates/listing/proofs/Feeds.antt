-- Line feeds in a text: where the first one stands, and what lies before it.
use Prim.Native.Nat.{ℕ}
use mathlib.Core.Path.{◌≡◌, refl, sym, ap, ◌∙◌}
use mathlib.Core.Bool.{Bool, true, false, cond, ◌||◌}
use mathlib.Core.List.{List, [], ◌∷◌, ◌++◌}
use mathlib.Core.Logic.{◌⊎◌, inl, inr, ◌≢◌}
use lib.Dec.{eqb}
use borrow.Author.Tests.{eqb-true, ne_eqb}
use Rattle.std.specs.List.{list_any}
use Rattle.std.proofs.lemmas.Bool.{cases_Bool, or_parts}
use Rattle.listing.specs.Line.{before_feed, has_feed}
use Rattle.listing.specs.Pieces.{NoFeed}

-- ---- one byte of a text

-- A text whose first byte is a line feed has one.
pub feed_first : (b : ℕ) (rest : List ℕ) → eqb b 10 ≡ true → has_feed (b ∷ rest) ≡ true
unfolding has_feed
feed_first b rest e = rw e refl

-- A text whose first byte is no line feed has one exactly if the rest has.
pub feed_later : (b : ℕ) (rest : List ℕ) → eqb b 10 ≡ false → has_feed (b ∷ rest) ≡ has_feed rest
unfolding has_feed
feed_later b rest e = rw e refl

-- A text has a line feed if one of its bytes is one.
pub feed_contained : (s : List ℕ) → has_feed s ≡ list_any (λ (b : ℕ). eqb b 10) s
unfolding has_feed
feed_contained [] = refl
feed_contained (b ∷ rest) = ap (λ (t : Bool). eqb b 10 || t) (feed_contained rest)

-- ---- the bytes before the first line feed

-- Among the bytes before the first line feed there is none.
pub none_before : (t : List ℕ) → NoFeed (before_feed t)
unfolding has_feed before_feed
none_before [] = refl
none_before (b ∷ rest) = go (cases_Bool (eqb b 10)) (none_before rest)
  where
    go : (eqb b 10 ≡ true) ⊎ (eqb b 10 ≡ false) → NoFeed (before_feed rest) →
        has_feed (cond (eqb b 10) [] (b ∷ before_feed rest)) ≡ false
    go (inl e) h = rw e refl
    go (inr e) h = rw (e, e) h

-- A text without a line feed has none when a byte is added that is none.
pub none_joined : (u : List ℕ) (b : ℕ) → NoFeed u → b ≢ 10 → NoFeed (u ++ (b ∷ []))
unfolding has_feed
none_joined [] b h f = rw (ne_eqb b 10 f) refl
none_joined (x ∷ u) b h f =
    let p = or_parts (eqb x 10) (has_feed u) h in
    rw p.0 (none_joined u b p.1 f)

-- A text with a line feed is the bytes before the first, the line feed, and the rest.
pub record Split (t : List ℕ) : Type 0 where
  pub rest : List ℕ
  pub is : t ≡ before_feed t ++ 10 ∷ rest

-- Every text with a line feed is split at its first one.
pub split_feed : (t : List ℕ) → has_feed t ≡ true → Split t
unfolding has_feed before_feed
split_feed [] h = record { rest = []; is = cc }
split_feed (b ∷ rest) h = go (cases_Bool (eqb b 10)) (λ e. split_feed rest (sym (ap (λ (x : Bool). x || has_feed rest) e) ∙ h))
  where
    go : (eqb b 10 ≡ true) ⊎ (eqb b 10 ≡ false) → (eqb b 10 ≡ false → Split rest) → Split (b ∷ rest)
    go (inl e) f = record { rest = rest; is = rw e (ap (λ (x : ℕ). x ∷ rest) (eqb-true b 10 e)) }
    go (inr e) f = record { rest = (f e).rest; is = rw e (ap (λ (l : List ℕ). b ∷ l) (f e).is) }

-- What stands before the first line feed of a text is what was laid there.
pub laid_before : (u v : List ℕ) → NoFeed u → before_feed (u ++ 10 ∷ v) ≡ u
unfolding has_feed before_feed
laid_before [] v h = refl
laid_before (b ∷ u) v h =
    let p = or_parts (eqb b 10) (has_feed u) h in
    rw p.0 (ap (λ (l : List ℕ). b ∷ l) (laid_before u v p.1))

-- A text into which a line feed was laid has one.
pub has_laid : (u v : List ℕ) → has_feed (u ++ 10 ∷ v) ≡ true
unfolding has_feed
has_laid [] v = refl
has_laid (b ∷ u) v = go (cases_Bool (eqb b 10)) (has_laid u v)
  where
    go : (eqb b 10 ≡ true) ⊎ (eqb b 10 ≡ false) → has_feed (u ++ 10 ∷ v) ≡ true → eqb b 10 || has_feed (u ++ 10 ∷ v) ≡ true
    go (inl e) h = rw e refl
    go (inr e) h = rw e h
