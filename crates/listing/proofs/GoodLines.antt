-- A line is good exactly if it is the text of an access that a line can ask for: both ways.
use Prim.Native.Nat.{ℕ, zero, suc, ◌+◌, ◌-◌, ◌/◌, ◌%◌, ◌≤◌, ◌<◌}
use native.Mathlib.Omega.{arith}
use mathlib.Core.Path.{◌≡◌, refl, sym, ap, ◌∙◌, subst}
use mathlib.Core.Bool.{true, false, cond, ◌&&◌}
use mathlib.Core.List.{List, [], ◌∷◌, ◌++◌}
use mathlib.Core.Logic.{◌⊎◌, inl, inr}
use lib.Dec.{eqb}
use lib.ListN.{length, take}
use lib.Seq.{take-suc, take_all}
use borrow.Author.Tests.{eqb-true, ltb-true, ne_eqb}
use Rattle.std.proofs.lemmas.Bool.{and_parts, cases_Bool}
use Rattle.port_spec.specs.declared.Access.{Access}
use Rattle.port_spec.specs.declared.Access.TheVariants.{Read, Write}
use Rattle.digits.specs.Digits.{is_decimal, digit_for}
use Rattle.listing.specs.Line.{Line, good, bad, byte, hex, word_from, headed, tailed, read_in, write_in, line_of, has_feed}
use Rattle.listing.specs.Spelled.{line_text, Sayable}
use Rattle.listing.specs.Pieces.{NoFeed}
use Rattle.digits.proofs.DigitValues.{decimal, decimal_is, value_of_digit, digit_is_hex, digit_of_value, hex_apart}
use Rattle.listing.proofs.FixedPlaces.{Head, Tail, head_is, tail_is}

one_digit : (n : ℕ) → n < 10 → is_decimal (48 + n) ≡ true
one_digit n h = decimal (48 + n) (omega arith) (omega (arith, h))

digit_back : (n : ℕ) → 48 + n - 48 ≡ n
digit_back n = omega arith

four_digits : (w : ℕ) → w < 65536 → word_from (w / 4096 % 16) (w / 256 % 16) (w / 16 % 16) (w % 16) ≡ w
four_digits w h =
    let e : w / 16 / 16 ≡ w / 256 = omega arith in
    let f : w / 256 / 16 ≡ w / 4096 = omega arith in
    let g : w / 4096 / 16 ≡ 0 = omega (arith, h) in
    omega (arith, e, f, g)

-- The line of an access whose register and lanes have one digit asks for that access.
pub says_it : (a : Access) → Sayable a → line_of (line_text a) ≡ good a
unfolding line_of headed tailed
says_it (Read register lanes) h =
    rw
    (one_digit register h.0, one_digit lanes h.1, digit_back register, digit_back lanes)
    refl
says_it (Write register lanes w) h =
    let word = four_digits w h.2 in
    rw (
      one_digit register h.0,
      one_digit lanes h.1,
      digit_is_hex (w / 4096),
      digit_is_hex (w / 256),
      digit_is_hex (w / 16),
      digit_is_hex w,
      digit_back register,
      digit_back lanes,
      value_of_digit (w / 4096),
      value_of_digit (w / 256),
      value_of_digit (w / 16),
      value_of_digit w,
      word,
    )
    refl

-- ---- and no other line asks for anything

-- the first n bytes, one by one
abbrev spread : ℕ → List ℕ → List ℕ
spread zero u = []
spread (suc n) u = spread n u ++ (byte u n ∷ [])

first_bytes : (n : ℕ) (u : List ℕ) → n ≤ length u → take n u ≡ spread n u
first_bytes zero u h = refl
first_bytes (suc n) u h = take-suc u n 0 (omega (arith, h)) ∙ ap (λ (l : List ℕ). l ++ (byte u n ∷ [])) (first_bytes n u (omega (arith, h)))

all_bytes : (n : ℕ) (u : List ℕ) → length u ≡ n → u ≡ spread n u
all_bytes n u e = sym (take_all n u (omega (arith, e))) ∙ first_bytes n u (omega (arith, e))

digit_there : (b : ℕ) → is_decimal b ≡ true → (48 + (b - 48) ≡ b) × (b - 48 < 10)
digit_there b e =
    let h = decimal_is b e in
    (omega (arith, h.0), omega (arith, h.0, h.1))

read_spelled : (u : List ℕ) → length u ≡ 5 → Head 82 u → (u ≡ line_text (read_in u)) × Sayable (read_in u)
read_spelled u e h =
    let p = digit_there (byte u 2) h.register in
    let q = digit_there (byte u 4) h.lanes in
    (all_bytes 5 u e ∙ rw (h.first, h.space, h.then, p.0, q.0) refl, (p.1, q.1))

-- the digits of a word that four digits make
module _ (a b c d : ℕ) (h : a < 16) (i : b < 16) (j : c < 16) (k : d < 16) where
  first_digit : word_from a b c d / 4096 % 16 ≡ a
  first_digit = omega (arith, h, i, j, k)

  second_digit : word_from a b c d / 256 % 16 ≡ b
  second_digit = omega (arith, h, i, j, k)

  third_digit : word_from a b c d / 16 % 16 ≡ c
  third_digit = omega (arith, h, i, j, k)

  last_digit : word_from a b c d % 16 ≡ d
  last_digit = omega (arith, h, i, j, k)

  small_word : word_from a b c d < 65536
  small_word = omega (arith, h, i, j, k)

write_spelled : (u : List ℕ) → length u ≡ 10 → Head 87 u → Tail u → (u ≡ line_text (write_in u)) × Sayable (write_in u)
write_spelled u e h t =
    let p = digit_there (byte u 2) h.register in
    let q = digit_there (byte u 4) h.lanes in
    let a : ℕ = hex u 6 in
    let b : ℕ = hex u 7 in
    let c : ℕ = hex u 8 in
    let d : ℕ = hex u 9 in
    let w : ℕ = word_from a b c d in
    let a16 = ltb-true a 16 t.d6 in
    let b16 = ltb-true b 16 t.d7 in
    let c16 = ltb-true c 16 t.d8 in
    let d16 = ltb-true d 16 t.d9 in (
      all_bytes 10 u e ∙
          rw (
            h.first,
            h.space,
            h.then,
            p.0,
            q.0,
            t.space,
            digit_of_value (byte u 6) (w / 4096) t.d6 (first_digit a b c d a16 b16 c16 d16),
            digit_of_value (byte u 7) (w / 256) t.d7 (second_digit a b c d a16 b16 c16 d16),
            digit_of_value (byte u 8) (w / 16) t.d8 (third_digit a b c d a16 b16 c16 d16),
            digit_of_value (byte u 9) w t.d9 (last_digit a b c d a16 b16 c16 d16),
          )
          refl,
      (p.1, q.1, small_word a b c d a16 b16 c16 d16),
    )

-- what a line that is judged so must be
abbrev Spells : List ℕ → Line → Type 0
Spells u (good a) = (u ≡ line_text a) × Sayable a
Spells u bad = Unit

spells : (u : List ℕ) → Spells u (line_of u)
unfolding line_of
spells u = go (cases_Bool (eqb (length u) 5 && headed 82 u)) (cases_Bool (eqb (length u) 10 && (headed 87 u && tailed u)))
  where
    go : (eqb (length u) 5 && headed 82 u ≡ true) ⊎ (eqb (length u) 5 && headed 82 u ≡ false) →
        (eqb (length u) 10 && (headed 87 u && tailed u) ≡ true) ⊎ (eqb (length u) 10 && (headed 87 u && tailed u) ≡ false) →
        Spells u (cond (eqb (length u) 5 && headed 82 u) (good (read_in u))
        (cond (eqb (length u) 10 && (headed 87 u && tailed u)) (good (write_in u)) bad))
    go (inl e) f =
        let p = and_parts (eqb (length u) 5) (headed 82 u) e in
        rw e (read_spelled u (eqb-true (length u) 5 p.0) (head_is 82 u p.1))
    go (inr e) (inl f) =
        let p = and_parts (eqb (length u) 10) (headed 87 u && tailed u) f in
        let q = and_parts (headed 87 u) (tailed u) p.1 in
        rw (e, f) (write_spelled u (eqb-true (length u) 10 p.0) (head_is 87 u q.0) (tail_is u q.1))
    go (inr e) (inr f) = rw (e, f) tt

-- A good line is the text of the access that it asks for, and the register and lanes of that have one digit.
pub only_it : (u : List ℕ) (a : Access) → line_of u ≡ good a → (u ≡ line_text a) × Sayable a
only_it u a e = subst (Spells u) e (spells u)

-- ---- no byte of such a line is a line feed

plain_digit : (n : ℕ) → eqb (48 + n) 10 ≡ false
plain_digit n = ne_eqb (48 + n) 10 (λ g. absurd (omega (arith, g)))

plain_hex : (n : ℕ) → eqb (digit_for n) 10 ≡ false
plain_hex n = ne_eqb (digit_for n) 10 (hex_apart (digit_for n) (digit_is_hex n))

-- No byte of the line of an access is a line feed.
pub no_feed_in : (a : Access) → NoFeed (line_text a)
unfolding has_feed
no_feed_in (Read register lanes) = rw (plain_digit register, plain_digit lanes) refl
no_feed_in (Write register lanes w) =
    rw
    (plain_digit register, plain_digit lanes, plain_hex (w / 4096), plain_hex (w / 256), plain_hex (w / 16), plain_hex w)
    refl
