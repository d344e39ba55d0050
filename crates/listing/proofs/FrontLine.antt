-- The line that a text begins with, found by its fixed places: a good read, a good write, or neither.
use Prim.Native.Nat.{ℕ, zero, suc, ◌+◌, ◌≤◌, ◌<◌}
use native.Mathlib.Omega.{arith}
use mathlib.Core.Path.{◌≡◌, refl, sym, ap, ◌∙◌, subst}
use mathlib.Core.Bool.{Bool, true, false, cond, ◌&&◌, ◌||◌}
use mathlib.Core.List.{List, ◌∷◌, ◌++◌}
use mathlib.Core.Logic.{◌⊎◌, inl, inr, ◌≢◌}
use lib.Dec.{eqb, ltb}
use lib.ListN.{length, get_or, take, drop, length-append, get_or-append}
use lib.Seq.{get_or_at, split_at, take-suc, take-length, length-take-le}
use borrow.Author.Tests.{eqb-true, eq-eqb, le-ltb}
use Rattle.std.proofs.lemmas.Bool.{and_parts, cases_Bool}
use Rattle.port_spec.specs.declared.Access.{Access}
use Rattle.digits.specs.Digits.{is_decimal}
use Rattle.listing.specs.Line.{bad, byte, headed, tailed, read_in, write_in, line_of, before_feed, has_feed, with_length, front_line}
use Rattle.listing.specs.Parts.{reads, writes, other_front}
use Rattle.listing.specs.Pieces.{NoFeed}
use Rattle.listing.specs.declared.Front.TheVariants.{Good, Bad, Open}
use Rattle.digits.proofs.DigitValues.{decimal_is, hex_apart}
use Rattle.listing.proofs.Feeds.{none_joined, split_feed, laid_before, has_laid}
use Rattle.listing.proofs.FixedPlaces.{Head, Tail, head_is, tail_is, read_line, write_line}

-- A whole line at the front is judged as a line.
pub whole_line : (u v : List ℕ) → NoFeed u → front_line (u ++ 10 ∷ v) ≡ with_length (length u + 1) (line_of u)
unfolding front_line
whole_line u v h = rw (has_laid u v, laid_before u v h) refl

-- ---- the first bytes of a text are those of its first part

module _ (u w : List ℕ) where
  same_byte : (k : ℕ) → k < length u → byte (u ++ w) k ≡ byte u k
  same_byte k h = get_or-append u w 0 k h

  same_head : (letter : ℕ) → 5 ≤ length u → headed letter (u ++ w) ≡ headed letter u
  unfolding headed
  same_head letter h =
      rw (
        same_byte 0 (omega (arith, h)),
        same_byte 1 (omega (arith, h)),
        same_byte 2 (omega (arith, h)),
        same_byte 3 (omega (arith, h)),
        same_byte 4 (omega (arith, h)),
      )
      refl

  same_tail : 10 ≤ length u → tailed (u ++ w) ≡ tailed u
  unfolding tailed
  same_tail h =
      rw (
        same_byte 5 (omega (arith, h)),
        same_byte 6 (omega (arith, h)),
        same_byte 7 (omega (arith, h)),
        same_byte 8 (omega (arith, h)),
        same_byte 9 (omega (arith, h)),
      )
      refl

  same_read : 5 ≤ length u → read_in (u ++ w) ≡ read_in u
  same_read h = rw (same_byte 2 (omega (arith, h)), same_byte 4 (omega (arith, h))) refl

  same_write : 10 ≤ length u → write_in (u ++ w) ≡ write_in u
  same_write h =
      rw (
        same_byte 2 (omega (arith, h)),
        same_byte 4 (omega (arith, h)),
        same_byte 6 (omega (arith, h)),
        same_byte 7 (omega (arith, h)),
        same_byte 8 (omega (arith, h)),
        same_byte 9 (omega (arith, h)),
      )
      refl

-- ---- no byte of a good line is a line feed

abbrev Apart : ℕ → List ℕ → Type 0
Apart zero u = Unit
Apart (suc n) u = (byte u n ≢ 10) × Apart n u

none_first : (n : ℕ) (u : List ℕ) → n ≤ length u → Apart n u → NoFeed (take n u)
unfolding has_feed
none_first zero u h a = refl
none_first (suc n) u h a =
    rw (take-suc u n 0 (omega (arith, h))) (none_joined (take n u) (get_or u n 0) (none_first n u (omega (arith, h)) a.1) a.0)

none_in : (n : ℕ) (u : List ℕ) → length u ≡ n → Apart n u → NoFeed u
none_in n u e a =
    let all : take n u ≡ u = ap (λ (k : ℕ). take k u) (sym e) ∙ take-length u in
    subst NoFeed all (none_first n u (omega (arith, e)) a)

decimal_apart : (b : ℕ) → is_decimal b ≡ true → b ≢ 10
decimal_apart b e g =
    let h = decimal_is b e in
    absurd (omega (arith, h.0, g))

head_apart : (letter : ℕ) (u : List ℕ) → letter ≢ 10 → Head letter u → Apart 5 u
head_apart letter u f h = (
  decimal_apart (byte u 4) h.lanes,
  (
    λ g. absurd (omega (arith, h.then, g)),
    (
      decimal_apart (byte u 2) h.register,
      (λ g. absurd (omega (arith, h.space, g)), (λ g. f (sym h.first ∙ g), tt)),
    ),
  ),
)

line_apart : (u : List ℕ) → Head 87 u → Tail u → Apart 10 u
line_apart u h t = (
  hex_apart (byte u 9) t.d9,
  (
    hex_apart (byte u 8) t.d8,
    (
      hex_apart (byte u 7) t.d7,
      (
        hex_apart (byte u 6) t.d6,
        (λ g. absurd (omega (arith, t.space, g)), head_apart 87 u (λ g. absurd (omega (arith, g))) h),
      ),
    ),
  ),
)

-- ---- a good line at the front

read_front : (u v : List ℕ) → length u ≡ 5 → headed 82 u ≡ true → front_line (u ++ 10 ∷ v) ≡ Good (read_in u) 6
unfolding line_of
read_front u v e h =
    whole_line u v (none_in 5 u e (head_apart 82 u (λ g. absurd (omega (arith, g))) (head_is 82 u h))) ∙
    rw (e, h) refl

write_front : (u v : List ℕ) → length u ≡ 10 → headed 87 u ≡ true → tailed u ≡ true → front_line (u ++ 10 ∷ v) ≡ Good (write_in u) 11
unfolding line_of
write_front u v e h t =
    whole_line u v (none_in 10 u e (line_apart u (head_is 87 u h) (tail_is u t))) ∙
    rw (e, h, t) refl

-- the n bytes before a line feed at place n, and the text again
cut_at : (n : ℕ) (t : List ℕ) → n < length t → byte t n ≡ 10 → t ≡ take n t ++ 10 ∷ drop (suc n) t
cut_at n t h e = split_at t n 0 h ∙ ap (λ (b : ℕ). take n t ++ b ∷ drop (suc n) t) e

-- A text that passes the test for a read begins with a good line of 6 bytes, and that asks for this read.
pub reads_front : (t : List ℕ) → reads t ≡ true → front_line t ≡ Good (read_in t) 6
reads_front t e =
    let l = read_line t e in
    let u : List ℕ = take 5 t in
    let w : List ℕ = 10 ∷ drop 6 t in
    let is : t ≡ u ++ w = cut_at 5 t (omega (arith, l.long)) l.feed in
    let five : length u ≡ 5 = length-take-le 5 t (omega (arith, l.long)) in
    let enough : 5 ≤ length u = omega (arith, five) in
    let head : headed 82 u ≡ true = sym (same_head u w 82 enough) ∙ ap (headed 82) (sym is) ∙ l.headed in
    ap front_line is ∙
    read_front u (drop 6 t) five head ∙
    ap (λ (a : Access). Good a 6) (sym (same_read u w enough) ∙ ap read_in (sym is))

-- A text that passes the test for a write begins with a good line of 11 bytes, and that asks for this write.
pub writes_front : (t : List ℕ) → writes t ≡ true → front_line t ≡ Good (write_in t) 11
writes_front t e =
    let l = write_line t e in
    let u : List ℕ = take 10 t in
    let w : List ℕ = 10 ∷ drop 11 t in
    let is : t ≡ u ++ w = cut_at 10 t (omega (arith, l.long)) l.feed in
    let ten : length u ≡ 10 = length-take-le 10 t (omega (arith, l.long)) in
    let enough : 10 ≤ length u = omega (arith, ten) in
    let head : headed 87 u ≡ true = sym (same_head u w 87 (omega (arith, ten))) ∙ ap (headed 87) (sym is) ∙ l.headed in
    let tail : tailed u ≡ true = sym (same_tail u w enough) ∙ ap tailed (sym is) ∙ l.tailed in
    ap front_line is ∙
    write_front u (drop 11 t) ten head tail ∙
    ap (λ (a : Access). Good a 11) (sym (same_write u w enough) ∙ ap write_in (sym is))

-- ---- neither

-- Where the first line is good, the tests at the fixed places find it.
found_read : (u v : List ℕ) → length u ≡ 5 → headed 82 u ≡ true → reads (u ++ 10 ∷ v) ≡ true
unfolding reads
found_read u v e h =
    let long : 6 ≤ length (u ++ 10 ∷ v) = simp length-append (omega (arith, e)) in
    rw (
      le-ltb (length (u ++ 10 ∷ v)) 6 long,
      eq-eqb (byte (u ++ 10 ∷ v) 5) 10 (get_or_at u 10 v 0 5 e),
      same_head u (10 ∷ v) 82 (omega (arith, e)),
      h,
    )
    refl

found_write : (u v : List ℕ) → length u ≡ 10 → headed 87 u ≡ true → tailed u ≡ true → writes (u ++ 10 ∷ v) ≡ true
found_write u v e h t =
    let long : 11 ≤ length (u ++ 10 ∷ v) = simp length-append (omega (arith, e)) in
    rw (
      le-ltb (length (u ++ 10 ∷ v)) 11 long,
      eq-eqb (byte (u ++ 10 ∷ v) 10) 10 (get_or_at u 10 v 0 10 e),
      same_head u (10 ∷ v) 87 (omega (arith, e)),
      h,
      same_tail u (10 ∷ v) (omega (arith, e)),
      t,
    )
    refl

either_true : (a : Bool) → a || true ≡ true
either_true true = refl
either_true false = refl

either_that : (a : Bool) → a || false ≡ a
either_that true = refl
either_that false = refl

-- a test that would make another one true, which is false
ruled_out : (a b : Bool) → (a ≡ true → b ≡ true) → b ≡ false → a ≡ false
ruled_out true b f e = sym (f refl) ∙ e
ruled_out false b f e = refl

bad_line_there : (u v : List ℕ) → reads (u ++ 10 ∷ v) ≡ false → writes (u ++ 10 ∷ v) ≡ false → line_of u ≡ bad
unfolding line_of
bad_line_there u v r w =
    let no_read : eqb (length u) 5 && headed 82 u ≡ false =
    ruled_out
    (eqb (length u) 5 && headed 82 u)
    (reads (u ++ 10 ∷ v))
    (λ e.
    let p = and_parts (eqb (length u) 5) (headed 82 u) e in
    found_read u v (eqb-true (length u) 5 p.0) p.1)
    r
    in
    let no_write : eqb (length u) 10 && (headed 87 u && tailed u) ≡ false =
    ruled_out
    (eqb (length u) 10 && (headed 87 u && tailed u))
    (writes (u ++ 10 ∷ v))
    (λ e.
    let p = and_parts (eqb (length u) 10) (headed 87 u && tailed u) e in
    let q = and_parts (headed 87 u) (tailed u) p.1 in
    found_write u v (eqb-true (length u) 10 p.0) q.0 q.1)
    w
    in
    rw (no_read, no_write) refl

-- A text that passes neither test begins with a bad line if it has a line feed or is over 31 bytes long, and else with one that may go on.
pub none_front : (t : List ℕ) → reads t ≡ false → writes t ≡ false → front_line t ≡ other_front t
unfolding front_line other_front
none_front t r w = go (cases_Bool (has_feed t))
  where
    go : (has_feed t ≡ true) ⊎ (has_feed t ≡ false) →
        cond (has_feed t) (with_length (length (before_feed t) + 1) (line_of (before_feed t))) (cond (ltb 31 (length t)) Bad Open) ≡
        cond (ltb 31 (length t) || has_feed t) Bad Open
    go (inl e) =
        let s = split_feed t e in
        let line = bad_line_there (before_feed t) s.rest (ap reads (sym s.is) ∙ r) (ap writes (sym s.is) ∙ w) in
        rw (e, line, either_true (ltb 31 (length t))) refl
    go (inr e) = rw (e, either_that (ltb 31 (length t))) refl
