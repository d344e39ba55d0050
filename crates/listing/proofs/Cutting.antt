-- An input cut anywhere lists to the same text as the whole: what the first part leaves of a line goes before the second, and
-- its answers stand before those of the second. So it does in any number of pieces.
use Prim.Native.Nat.{ℕ, ◌+◌, ◌≤◌}
use native.Mathlib.Nat.{add_assoc, add-zero}
use native.Mathlib.Omega.{arith}
use mathlib.Core.Path.{◌≡◌, refl, sym, ap, ◌∙◌, subst}
use mathlib.Core.Bool.{Bool, true, false, cond}
use mathlib.Core.List.{List, [], ◌∷◌, ◌++◌, append_assoc, append-nil}
use mathlib.Core.Logic.{◌⊎◌, inl, inr}
use lib.Dec.{eqb}
use lib.ListN.{length, drop, length-append}
use lib.Seq.{drop_at}
use borrow.Author.Tests.{eqb-true, eqb-false}
use Rattle.std.proofs.lemmas.Bool.{cases_Bool}
use Rattle.port_spec.specs.Sequences.{Machine, after, answer_of}
use Rattle.listing.specs.Line.{Line, good, bad, line_of, has_feed}
use Rattle.listing.specs.Answer.{answer_text, bad_line}
use Rattle.listing.specs.Listing.{Listing, start, stopped, line_ends, line_goes_on, next, listing}
use Rattle.listing.specs.Pieces.{behind, NoFeed}
use Rattle.listing.proofs.Feeds.{none_joined}
use Rattle.listing.proofs.LineByLine.{within, nothing_more, never_ends}

-- A text lists as its first part, and then its second.
pub parts : (x : Listing) (u v : List ℕ) → listing x (u ++ v) ≡ listing (listing x u) v
unfolding listing
parts x [] v = refl
parts x (b ∷ u) v = parts (next x b) u v

-- ---- what was printed before stands before what is printed then

behind_line : (t : List ℕ) (n : ℕ) (x : Listing) (l : Line) → line_ends (behind t n x) l ≡ behind t n (line_ends x l)
behind_line t n x (good a) =
    let s : Machine = after x.machine a in
    let said : List ℕ = answer_text a (answer_of x.machine a) in
    let long : ℕ = length x.begun + 1 in
    ap (λ (y : List ℕ). record { machine = s; text = y; used = n + x.used + long; begun = []; ended = false })
    (append_assoc t x.text said) ∙
    ap (λ (k : ℕ). record { machine = s; text = t ++ (x.text ++ said); used = k; begun = []; ended = false })
    (add_assoc n x.used long)
behind_line t n x bad =
    ap (λ (y : List ℕ). record { machine = x.machine; text = y; used = n + x.used; begun = []; ended = true })
    (append_assoc t x.text bad_line)

behind_if : (t : List ℕ) (n : ℕ) (e : Bool) (x y : Listing) {x' y' : Listing} → x' ≡ behind t n x → y' ≡ behind t n y →
    cond e x' y' ≡ behind t n (cond e x y)
behind_if t n true x y p q = p
behind_if t n false x y p q = q

behind_next : (t : List ℕ) (n : ℕ) (x : Listing) (b : ℕ) → next (behind t n x) b ≡ behind t n (next x b)
unfolding next
behind_next t n x b =
    let ends : Listing = line_ends x (line_of x.begun) in
    let full : Bool = eqb (length x.begun) 31 in
    let goes : Listing = cond full (stopped x) (line_goes_on x b) in
    let last = behind_if t n full (stopped x) (line_goes_on x b) (behind_line t n x bad) refl in
    behind_if t n x.ended x (cond (eqb b 10) ends goes) refl
    (behind_if t n (eqb b 10) ends goes (behind_line t n x (line_of x.begun)) last)

-- A text lists alike behind what was printed and used before, which stays in front.
pub behind_all : (t : List ℕ) (n : ℕ) (x : Listing) (v : List ℕ) → listing (behind t n x) v ≡ behind t n (listing x v)
unfolding listing
behind_all t n x [] = refl
behind_all t n x (b ∷ v) = ap (λ (y : Listing). listing y v) (behind_next t n x b) ∙ behind_all t n (next x b) v

-- ---- how far a listing has come in a text

-- the text t is lines that were answered, so many bytes of them, and behind them the line begun
pub record Place (t : List ℕ) (used : ℕ) (begun : List ℕ) : Type 0 where
  pub lines : List ℕ
  pub size : length lines ≡ used
  pub is : t ≡ lines ++ begun

-- how far the listing x of a text t has come: the bytes used and those begun are all of it, unless a bad line ended it; what is begun has
-- no line feed and at most 31 bytes, and is nothing after a bad line
pub record Come (x : Listing) (t : List ℕ) : Type 0 where
  pub place : x.ended ≡ false → Place t x.used x.begun
  pub most : x.used ≤ length t
  pub none : NoFeed x.begun
  pub short : length x.begun ≤ 31
  pub cleared : x.ended ≡ true → x.begun ≡ []

begins : (s : Machine) → Come (start s) []
unfolding has_feed
begins s =
    record {
      place = λ e. record { lines = []; size = refl; is = refl };
      most = omega arith;
      none = refl;
      short = omega arith;
      cleared = λ e. refl;
    }

not_both : {A : Type 0} → false ≡ true → A
not_both e = absurd (eqb-false 0 1 refl (eqb-true 0 1 e))

-- a byte more
abbrev more : List ℕ → ℕ → List ℕ
more t b = t ++ (b ∷ [])

longer : (t : List ℕ) (b : ℕ) → length (more t b) ≡ length t + 1
longer t b = length-append t (b ∷ [])

placed : {t : List ℕ} {used : ℕ} {begun : List ℕ} (b : ℕ) → Place t used begun → Place (more t b) used (more begun b)
placed {begun = begun} b p =
    record { lines = p.lines; size = p.size; is = ap (λ (l : List ℕ). more l b) p.is ∙ append_assoc p.lines begun (b ∷ []) }

line_ended : (x : Listing) (t : List ℕ) (b : ℕ) (l : Line) → x.ended ≡ false → Come x t → Come (line_ends x l) (more t b)
unfolding has_feed
line_ended x t b (good a) e c =
    let p = placed b (c.place e) in
    let whole = length-append p.lines (more x.begun b) in
    let all = ap length p.is in
    record {
      place =
          λ f.
          record {
            lines = more t b;
            size = all ∙ whole ∙ ap (λ (k : ℕ). k + length (more x.begun b)) p.size ∙
                ap (λ (k : ℕ). x.used + k) (longer x.begun b);
            is = sym (append-nil (more t b));
          };
      most = omega (arith, all, whole, p.size, longer x.begun b);
      none = refl;
      short = omega arith;
      cleared = λ f. refl;
    }
line_ended x t b bad e c =
    record {
      place = λ f. not_both (sym f);
      most = omega (arith, c.most, longer t b);
      none = refl;
      short = omega arith;
      cleared = λ f. refl;
    }

line_longer : (x : Listing) (t : List ℕ) (b : ℕ) → x.ended ≡ false → eqb b 10 ≡ false → eqb (length x.begun) 31 ≡ false →
    Come x t → Come (line_goes_on x b) (more t b)
line_longer x t b e f g c =
    let less = eqb-false (length x.begun) 31 g in
    record {
      place = λ h. placed b (c.place e);
      most = omega (arith, c.most, longer t b);
      none = none_joined x.begun b c.none (eqb-false b 10 f);
      short = omega (arith, longer x.begun b, less, c.short);
      cleared = λ h. not_both h;
    }

-- what a byte leaves of a listing that goes on
abbrev next_inside : Listing → ℕ → Listing
next_inside x b = cond (eqb b 10) (line_ends x (line_of x.begun)) (cond (eqb (length x.begun) 31) (stopped x) (line_goes_on x b))

one_inside : (x : Listing) (t : List ℕ) (b : ℕ) → x.ended ≡ false → Come x t → Come (next_inside x b) (more t b)
one_inside x t b e c = go (cases_Bool (eqb b 10)) (cases_Bool (eqb (length x.begun) 31))
  where
    go : (eqb b 10 ≡ true) ⊎ (eqb b 10 ≡ false) → (eqb (length x.begun) 31 ≡ true) ⊎ (eqb (length x.begun) 31 ≡ false) →
        Come (next_inside x b) (more t b)
    go (inl f) g = rw f (line_ended x t b (line_of x.begun) e c)
    go (inr f) (inl g) = rw (f, g) (line_ended x t b bad e c)
    go (inr f) (inr g) = rw (f, g) (line_longer x t b e f g c)

one_byte : (x : Listing) (t : List ℕ) (b : ℕ) → Come x t → Come (next x b) (more t b)
unfolding next
one_byte x t b c = go (cases_Bool x.ended)
  where
    go : (x.ended ≡ true) ⊎ (x.ended ≡ false) → Come (cond x.ended x (next_inside x b)) (more t b)
    go (inl e) =
        subst
        (λ (y : Listing). Come y (more t b))
        (sym (ap (λ (f : Bool). cond f x (next_inside x b)) e))
        (record {
          place = λ h. not_both (sym h ∙ e);
          most = omega (arith, c.most, longer t b);
          none = c.none;
          short = c.short;
          cleared = c.cleared;
        })
    go (inr e) =
        subst (λ (y : Listing). Come y (more t b)) (sym (ap (λ (f : Bool). cond f x (next_inside x b)) e)) (one_inside x t b e c)

comes : (x : Listing) (u t : List ℕ) → Come x u → Come (listing x t) (u ++ t)
unfolding listing
comes x u [] c = subst (Come x) (sym (append-nil u)) c
comes x u (b ∷ t) c = subst (Come (listing (next x b) t)) (append_assoc u (b ∷ []) t) (comes (next x b) (more u b) t (one_byte x u b c))

-- How far the listing of a text has come: the bytes used and those begun are all of it, unless a bad line ended it.
pub come : (s : Machine) (t : List ℕ) → Come (listing (start s) t) t
come s t = comes (start s) [] t (begins s)

-- Unless a bad line ended the listing of a text, what it has begun of a line is what lies behind the bytes used.
pub begun_is : (s : Machine) (t : List ℕ) → (listing (start s) t).ended ≡ false →
    drop (listing (start s) t).used t ≡ (listing (start s) t).begun
begun_is s t e =
    let x = listing (start s) t in
    let p = (come s t).place e in
    ap (drop x.used) p.is ∙ drop_at p.lines x.begun x.used p.size

-- ---- the cut

-- Unless a bad line ended its first part, a text lists as that part, with the second behind what the first left of a line.
pub cut : (s : Machine) (u v : List ℕ) → let x = listing (start s) u in x.ended ≡ false →
    listing (start s) (u ++ v) ≡ behind x.text x.used (listing (start x.machine) (x.begun ++ v))
cut s u v e =
    let x = listing (start s) u in
    let c = come s u in
    let here : x ≡ behind x.text x.used (within x.machine [] 0 x.begun) =
    ap (λ (f : Bool). record { machine = x.machine; text = x.text; used = x.used; begun = x.begun; ended = f }) e ∙
    ap (λ (t : List ℕ). record { machine = x.machine; text = t; used = x.used; begun = x.begun; ended = false })
    (sym (append-nil x.text)) ∙
    ap (λ (n : ℕ). record { machine = x.machine; text = x.text ++ []; used = n; begun = x.begun; ended = false })
    (sym (add-zero x.used))
    in
    parts (start s) u v ∙
    ap (λ (y : Listing). listing y v) here ∙
    behind_all x.text x.used (within x.machine [] 0 x.begun) v ∙
    ap (λ (y : Listing). behind x.text x.used (listing y v)) (sym (never_ends x.machine [] 0 x.begun c.none c.short)) ∙
    ap (behind x.text x.used) (sym (parts (start x.machine) x.begun v))

-- Behind a bad line nothing more is listed.
pub cut_after_bad : (s : Machine) (u v : List ℕ) → (listing (start s) u).ended ≡ true → listing (start s) (u ++ v) ≡ listing (start s) u
cut_after_bad s u v e = parts (start s) u v ∙ nothing_more (listing (start s) u) v e
