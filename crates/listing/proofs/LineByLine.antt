-- A listing goes from line to line: what a good line, a bad line and a line begun at the front of the input leave.
use Prim.Native.Nat.{ℕ, suc, ◌+◌, ◌≤◌, ◌<◌}
use native.Mathlib.Omega.{arith}
use mathlib.Core.Path.{◌≡◌, refl, sym, ap, ◌∙◌, subst}
use mathlib.Core.Bool.{Bool, true, false, cond, ◌&&◌}
use mathlib.Core.List.{List, [], ◌∷◌, ◌++◌, append_assoc, append-nil}
use mathlib.Core.Logic.{◌⊎◌, inl, inr}
use lib.Dec.{eqb, ltb}
use lib.ListN.{length, get_or, take, drop, length-append}
use lib.Seq.{split_at, length-take-le}
use borrow.Author.Tests.{eqb-true, eqb-false, ne_eqb, eq-eqb, ltb-true, ltb-false}
use Rattle.std.proofs.lemmas.Bool.{and_parts, cases_Bool, cases_lt, or_parts}
use Rattle.port_spec.specs.Sequences.{Machine, after, answer_of}
use Rattle.port_spec.specs.declared.Access.{Access}
use Rattle.listing.specs.Line.{Line, good, bad, headed, tailed, read_in, write_in, line_of, before_feed, has_feed, with_length}
use Rattle.listing.specs.Line.{front_line}
use Rattle.listing.specs.Answer.{answer_text}
use Rattle.listing.specs.Listing.{Listing, stopped, line_ends, next, listing}
use Rattle.listing.specs.Pieces.{NoFeed}
use Rattle.listing.specs.declared.Front.{Front}
use Rattle.listing.specs.declared.Front.TheVariants.{Good, Bad, Open}
use Rattle.listing.proofs.Feeds.{none_before, split_feed}

-- a listing in the middle of a line
abbrev pub within : Machine → List ℕ → ℕ → List ℕ → Listing
within s text used u = record { machine = s; text = text; used = used; begun = u; ended = false }

-- a listing between two lines
abbrev pub between : Machine → List ℕ → ℕ → Listing
between s text used = within s text used []

first_choice : {A : Type 0} (t : Bool) (a b : A) → t ≡ true → cond t a b ≡ a
first_choice true a b e = refl
first_choice false a b e = absurd (eqb-false 0 1 refl (eqb-true 0 1 e))

-- After a bad line nothing more is done.
pub nothing_more : (x : Listing) (v : List ℕ) → x.ended ≡ true → listing x v ≡ x
unfolding listing next
nothing_more x [] e = refl
nothing_more x (b ∷ v) e = ap (λ (y : Listing). listing y v) (first_choice x.ended x _ e) ∙ nothing_more x v e

no_feed_parts : (u v : List ℕ) → NoFeed (u ++ v) → NoFeed u × NoFeed v
unfolding has_feed
no_feed_parts [] v h = (refl, h)
no_feed_parts (b ∷ u) v h =
    let p = or_parts (eqb b 10) (has_feed (u ++ v)) h in
    let q = no_feed_parts u v p.1 in
    (rw p.0 q.0, q.1)

module _ (s : Machine) (text : List ℕ) (used : ℕ) where
  -- A byte that is no line feed goes to the line begun, which has room for it,
  one_more : (u : List ℕ) (b : ℕ) → eqb b 10 ≡ false → length u < 31 → next (within s text used u) b ≡ within s text used (u ++ (b ∷ []))
  unfolding next
  one_more u b e h = rw (e, ne_eqb (length u) 31 (λ g. absurd (omega (arith, h, g)))) refl

  -- or is one too many.
  too_many : (u : List ℕ) (b : ℕ) → eqb b 10 ≡ false → length u ≡ 31 → next (within s text used u) b ≡ stopped (between s text used)
  unfolding next
  too_many u b e h = rw (e, eq-eqb (length u) 31 h) refl

  -- Several bytes without a line feed go on with the line, as long as that has at most 31.
  pub goes_on : (v u w : List ℕ) → NoFeed v → length u + length v ≤ 31 →
      listing (within s text used u) (v ++ w) ≡ listing (within s text used (u ++ v)) w
  unfolding listing has_feed
  goes_on [] u w h k = ap (λ (l : List ℕ). listing (within s text used l) w) (sym (append-nil u))
  goes_on (b ∷ v) u w h k =
      let p = or_parts (eqb b 10) (has_feed v) h in
      ap (λ (x : Listing). listing x (v ++ w)) (one_more u b p.0 (omega (arith, k))) ∙
      goes_on v (u ++ (b ∷ [])) w p.1 (simp length-append (omega (arith, k))) ∙
      ap (λ (l : List ℕ). listing (within s text used l) w) (append_assoc u (b ∷ []) v)

  not_feed : (b : ℕ) (v : List ℕ) → NoFeed (b ∷ v) → eqb b 10 ≡ false
  unfolding has_feed
  not_feed b v q = (or_parts (eqb b 10) (has_feed v) q).0

  stop_here : (u : List ℕ) (b : ℕ) (z : List ℕ) → eqb b 10 ≡ false → length u ≡ 31 →
      listing (within s text used u) (b ∷ z) ≡ stopped (between s text used)
  unfolding listing
  stop_here u b z e full =
      ap (λ (x : Listing). listing x z) (too_many u b e full) ∙ nothing_more (stopped (between s text used)) z refl

  -- A line of more than 31 bytes before its line feed is bad, whatever follows.
  pub too_long : (t w : List ℕ) → NoFeed t → 31 < length t → listing (between s text used) (t ++ w) ≡ stopped (between s text used)
  too_long t w h k =
      let u : List ℕ = take 31 t in
      let b : ℕ = get_or t 31 0 in
      let v : List ℕ = drop 32 t in
      let is : t ≡ u ++ b ∷ v = split_at t 31 0 k in
      let p = no_feed_parts u (b ∷ v) (sym (ap has_feed is) ∙ h) in
      let full : length u ≡ 31 = length-take-le 31 t (omega (arith, k)) in
      ap (λ (l : List ℕ). listing (between s text used) (l ++ w)) is ∙
      ap (listing (between s text used)) (append_assoc u (b ∷ v) w) ∙
      goes_on u [] (b ∷ (v ++ w)) p.0 (omega (arith, full)) ∙
      stop_here u b (v ++ w) (not_feed b v p.1) full

  -- ---- a whole line

  line_feed : (u v : List ℕ) → listing (within s text used u) (10 ∷ v) ≡ listing (line_ends (within s text used u) (line_of u)) v
  unfolding listing next
  line_feed u v = refl

  -- A good line, with its line feed, is answered and used, and the listing goes on with what follows.
  pub whole_good : (a : Access) (u v : List ℕ) → NoFeed u → length u ≤ 31 → line_of u ≡ good a →
      listing (between s text used) (u ++ 10 ∷ v) ≡
      listing (between (after s a) (text ++ answer_text a (answer_of s a)) (used + (length u + 1))) v
  whole_good a u v h k e =
      goes_on u [] (10 ∷ v) h (omega (arith, k)) ∙
      line_feed u v ∙
      ap (λ (l : Line). listing (line_ends (within s text used u) l) v) e

  -- A bad line, with its line feed, stops the listing, whatever follows.
  pub whole_bad : (u v : List ℕ) → NoFeed u → line_of u ≡ bad → listing (between s text used) (u ++ 10 ∷ v) ≡ stopped (between s text used)
  whole_bad u v h e = go (cases_lt 31 (length u))
    where
      go : (31 < length u) ⊎ (length u ≤ 31) → listing (between s text used) (u ++ 10 ∷ v) ≡ stopped (between s text used)
      go (inl k) = too_long u (10 ∷ v) h k
      go (inr k) =
          goes_on u [] (10 ∷ v) h (omega (arith, k)) ∙
          line_feed u v ∙
          ap (λ (l : Line). listing (line_ends (within s text used u) l) v) e ∙
          nothing_more (stopped (between s text used)) v refl

  -- A text of at most 31 bytes without a line feed is a line begun.
  pub never_ends : (t : List ℕ) → NoFeed t → length t ≤ 31 → listing (between s text used) t ≡ within s text used t
  unfolding listing
  never_ends t h k = ap (listing (between s text used)) (sym (append-nil t)) ∙ goes_on t [] [] h (omega (arith, k))

  -- A text of more than 31 bytes without a line feed stops the listing.
  pub never_good : (t : List ℕ) → NoFeed t → 31 < length t → listing (between s text used) t ≡ stopped (between s text used)
  never_good t h k = ap (listing (between s text used)) (sym (append-nil t)) ∙ too_long t [] h k

-- ---- the three fronts

-- A good line at the front: its bytes, the line feed, and what follows.
pub record GoodFront (t : List ℕ) (a : Access) (n : ℕ) : Type 0 where
  pub line : List ℕ
  pub rest : List ℕ
  pub is : t ≡ line ++ 10 ∷ rest
  pub none : NoFeed line
  pub says : line_of line ≡ good a
  pub size : n ≡ length line + 1

-- what the line that the text t begins with means: a good one is its bytes, the line feed and what follows; a bad one stops any listing;
-- one that may go on has no line feed and at most 31 bytes
abbrev pub Fronts : List ℕ → Front → Type 0
Fronts t (Good a n) = GoodFront t a n
Fronts t Bad = (s : Machine) (text : List ℕ) (used : ℕ) → listing (between s text used) t ≡ stopped (between s text used)
Fronts t Open = NoFeed t × (length t ≤ 31)

-- What the line that a text begins with means for the listing: a good one is its bytes, the line feed and what follows; a bad one stops it;
-- one that may go on has no line feed and at most 31 bytes.
pub fronts : (t : List ℕ) → Fronts t (front_line t)
unfolding front_line
fronts t = go (cases_Bool (has_feed t)) (cases_Bool (ltb 31 (length t))) (line_of (before_feed t)) refl
  where
    go : (has_feed t ≡ true) ⊎ (has_feed t ≡ false) → (ltb 31 (length t) ≡ true) ⊎ (ltb 31 (length t) ≡ false) →
        (l : Line) → line_of (before_feed t) ≡ l →
        Fronts t (cond (has_feed t) (with_length (length (before_feed t) + 1) (line_of (before_feed t)))
        (cond (ltb 31 (length t)) Bad Open))
    go (inl e) k (good a) f =
        let p = split_feed t e in
        rw (e, f) (record { line = before_feed t; rest = p.rest; is = p.is; none = none_before t; says = f; size = refl })
    go (inl e) k bad f =
        let p = split_feed t e in
        rw (e, f)
        (λ s text used. ap (listing (between s text used)) p.is ∙ whole_bad s text used (before_feed t) p.rest (none_before t) f)
    go (inr e) (inl k) l f = rw (e, k) (λ s text used. never_good s text used t e (ltb-true 31 (length t) k))
    go (inr e) (inr k) l f = rw (e, k) (e, ltb-false 31 (length t) k)

-- ---- how long a good line is

is_good : Line → Bool
is_good (good a) = true
is_good bad = false

good_length : (u : List ℕ) → is_good (line_of u) ≡ true → (5 ≤ length u) × (length u ≤ 10)
unfolding line_of is_good
good_length u = go (cases_Bool (eqb (length u) 5 && headed 82 u)) (cases_Bool (eqb (length u) 10 && (headed 87 u && tailed u)))
  where
    go : (eqb (length u) 5 && headed 82 u ≡ true) ⊎ (eqb (length u) 5 && headed 82 u ≡ false) →
        (eqb (length u) 10 && (headed 87 u && tailed u) ≡ true) ⊎ (eqb (length u) 10 && (headed 87 u && tailed u) ≡ false) →
        is_good (cond (eqb (length u) 5 && headed 82 u) (good (read_in u))
        (cond (eqb (length u) 10 && (headed 87 u && tailed u)) (good (write_in u)) bad)) ≡ true →
        (5 ≤ length u) × (length u ≤ 10)
    go (inl e) k h =
        let five = eqb-true (length u) 5 (and_parts (eqb (length u) 5) (headed 82 u) e).0 in
        (omega (arith, five), omega (arith, five))
    go (inr e) (inl k) h =
        let ten = eqb-true (length u) 10 (and_parts (eqb (length u) 10) (headed 87 u && tailed u) k).0 in
        (omega (arith, ten), omega (arith, ten))
    go (inr e) (inr k) h =
        let no : false ≡ true = rw (e, k) at h in
        absurd (eqb-false 0 1 refl (eqb-true 0 1 no))

-- A good line has at least 5 bytes before its line feed, and at most 10.
pub good_size : (u : List ℕ) (a : Access) → line_of u ≡ good a → (5 ≤ length u) × (length u ≤ 10)
unfolding is_good
good_size u a e = good_length u (ap is_good e)

-- A text with a good line at its front has that line's bytes, 6 or more.
pub good_within : (t : List ℕ) {a : Access} {n : ℕ} → front_line t ≡ Good a n → (6 ≤ n) × (n ≤ length t)
good_within t {a} {n} e =
    let g = subst (Fronts t) e (fronts t) in
    let short = good_size g.line a g.says in
    let all : length t ≡ length g.line + suc (length g.rest) = ap length g.is ∙ length-append g.line (10 ∷ g.rest) in
    (omega (arith, short.0, g.size), omega (arith, all, g.size))
