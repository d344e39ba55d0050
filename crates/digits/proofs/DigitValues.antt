-- Digits: what a digit stands for, and the digit for a number, there and back.
use Rattle.std.proofs.Common.{◌≡◌, ℕ, None, Some, zero, suc, ◌+◌, ◌-◌, ◌%◌, ◌<◌, ◌≤◌, Bool, true, false, cond, ◌&&◌, eqb, ltb, leb, ◌≢◌, ◌⊎◌, List, [], ◌∷◌, get_or, sym, refl, ap, ◌∙◌, inl, inr, ⊎_elim, arith, ltb-true, le-ltb, lt-ltb, eqb-true, le-leb, leb-true}
use Rattle.std.proofs.lemmas.Bool.{and_parts, cases_Bool, cases_eq, cases_lt}
use Rattle.digits.specs.Digits.{is_decimal, value_of, is_hex, decimal_value, hex_value, digit_for}

between : (low high b : ℕ) → low ≤ b → b ≤ high → leb low b && leb b high ≡ true
between low high b h k = rw (le-leb low b h, le-leb b high k) refl

not_between : (low high b : ℕ) → (low ≤ b → b ≤ high → ⊥) → leb low b && leb b high ≡ false
not_between low high b f = go (cases_Bool (leb low b && leb b high))
  where
    go : (leb low b && leb b high ≡ true) ⊎ (leb low b && leb b high ≡ false) → leb low b && leb b high ≡ false
    go (inr e) = e
    go (inl e) = absurd (f (leb-true low b (and_parts (leb low b) (leb b high) e).0)
        (leb-true b high (and_parts (leb low b) (leb b high) e).1))

-- ---- "decimal digit"

-- The bytes 48 to 57, '0' to '9', are decimal digits.
pub decimal : (b : ℕ) → 48 ≤ b → b ≤ 57 → is_decimal b ≡ true
unfolding is_decimal
decimal b h k = between 48 57 b h k

-- No byte but 48 to 57, '0' to '9', is a decimal digit.
pub not_decimal : (b : ℕ) → (48 ≤ b → b ≤ 57 → ⊥) → is_decimal b ≡ false
unfolding is_decimal
not_decimal b f = not_between 48 57 b f

-- A decimal digit is one of the bytes 48 to 57, '0' to '9'.
pub decimal_is : (b : ℕ) → is_decimal b ≡ true → (48 ≤ b) × (b ≤ 57)
unfolding is_decimal
decimal_is b e =
    let h = and_parts (leb 48 b) (leb b 57) e in
    (leb-true 48 b h.0, leb-true b 57 h.1)

-- A decimal digit stands for itself less 48.
pub is_decimal_value : (b : ℕ) → 48 ≤ b → b ≤ 57 → decimal_value b ≡ Some (b - 48)
unfolding decimal_value
is_decimal_value b h k = rw (decimal b h k) refl

-- No other byte is a decimal digit.
pub no_decimal_value : (b : ℕ) → (48 ≤ b → b ≤ 57 → ⊥) → decimal_value b ≡ None
unfolding decimal_value
no_decimal_value b f = rw (not_decimal b f) refl

-- ---- "four upper-case hex digits"

value_decimal : (b : ℕ) → is_decimal b ≡ true → value_of b ≡ b - 48
unfolding value_of
value_decimal b e = rw e refl

value_letter : (b : ℕ) → 65 ≤ b → b ≤ 70 → value_of b ≡ b - 55
unfolding value_of
value_letter b h k = rw (not_decimal b (λ p q. absurd (omega (arith, h, q))), between 65 70 b h k) refl

value_none : (b : ℕ) → is_decimal b ≡ false → (65 ≤ b → b ≤ 70 → ⊥) → value_of b ≡ 16
unfolding value_of
value_none b e f = rw (e, not_between 65 70 b f) refl

-- A letter A to F stands for itself less 55.
pub letter_value : (b : ℕ) → 65 ≤ b → b ≤ 70 → hex_value b ≡ Some (b - 55)
unfolding hex_value
letter_value b h k =
    let v = value_letter b h k in
    rw (lt-ltb (value_of b) 16 (omega (arith, v, k)), v) refl

-- A byte that is no letter A to F stands for what it stands for as a decimal digit.
pub no_letter_value : (b : ℕ) → (65 ≤ b → b ≤ 70 → ⊥) → hex_value b ≡ decimal_value b
unfolding hex_value decimal_value
no_letter_value b f = go (cases_Bool (is_decimal b))
  where
    go : (is_decimal b ≡ true) ⊎ (is_decimal b ≡ false) →
        cond (ltb (value_of b) 16) (Some (value_of b)) None ≡ cond (is_decimal b) (Some (b - 48)) None
    go (inl d) =
        let v = value_decimal b d in
        let h = decimal_is b d in
        rw (lt-ltb (value_of b) 16 (omega (arith, v, h.0, h.1)), v, d) refl
    go (inr d) = rw (value_none b d f, d) refl

-- ---- the digit for a number

-- "0123456789ABCDEF"
abbrev pub all_digits : List ℕ
all_digits =
    48 ∷ 49 ∷ 50 ∷ 51 ∷ 52 ∷ 53 ∷ 54 ∷ 55 ∷ 56 ∷ 57 ∷ 65 ∷ 66 ∷ 67 ∷ 68 ∷ 69 ∷ 70 ∷ []

-- Two rules that agree on each number below n, one by one, agree there.
abbrev agree : ℕ → (ℕ → ℕ) → (ℕ → ℕ) → Bool
agree zero f g = true
agree (suc n) f g = eqb (f n) (g n) && agree n f g

each_below : (n : ℕ) (f g : ℕ → ℕ) → agree n f g ≡ true → (k : ℕ) → k < n → f k ≡ g k
each_below zero f g e k h = absurd (omega (arith, h))
each_below (suc n) f g e k h =
    let b = and_parts (eqb (f n) (g n)) (agree n f g) e in
    let last : f n ≡ g n = eqb-true (f n) (g n) b.0 in
    ⊎_elim
    (λ (p : k ≡ n). ap f p ∙ last ∙ ap g (sym p))
    (λ (q : k ≢ n). each_below n f g b.1 k (omega (arith, h, q)))
    (cases_eq k n)

in_table : (k : ℕ) → k < 16 → get_or all_digits k 0 ≡ cond (ltb k 10) (48 + k) (55 + k)
in_table k h = each_below 16 (λ (i : ℕ). get_or all_digits i 0) (λ (i : ℕ). cond (ltb i 10) (48 + i) (55 + i)) refl k h

-- The digit for n is that at place n mod 16 of the table `all_digits`.
pub table_digit : (n : ℕ) → get_or all_digits (n % 16) 0 ≡ digit_for n
unfolding digit_for
table_digit n = in_table (n % 16) (omega arith)

-- The digit for a number is no byte below '0'.
pub digit_from_0 : (n : ℕ) → 48 ≤ digit_for n
unfolding digit_for
digit_from_0 n = go (cases_Bool (ltb (n % 16) 10))
  where
    go : (ltb (n % 16) 10 ≡ true) ⊎ (ltb (n % 16) 10 ≡ false) → 48 ≤ cond (ltb (n % 16) 10) (48 + n % 16) (55 + n % 16)
    go (inl e) = rw e (omega arith)
    go (inr e) = rw e (omega arith)

-- A hex digit is no line feed.
pub hex_apart : (b : ℕ) → is_hex b ≡ true → b ≢ 10
hex_apart b e g =
    let v : value_of b ≡ 16 = ap value_of g ∙ value_none 10 (not_decimal 10 (λ p q. absurd (omega (arith, p))))
    (λ p q. absurd (omega (arith, p))) in
    let h = ltb-true (value_of b) 16 e in
    absurd (omega (arith, h, v))

-- ---- there and back

-- The digit for a number stands for it, modulo 16.
pub value_of_digit : (n : ℕ) → value_of (digit_for n) ≡ n % 16
unfolding digit_for
value_of_digit n = go (cases_lt (n % 16) 10)
  where
    go : (n % 16 < 10) ⊎ (10 ≤ n % 16) → value_of (cond (ltb (n % 16) 10) (48 + n % 16) (55 + n % 16)) ≡ n % 16
    go (inl h) =
        let b : ℕ = 48 + n % 16 in
        let v = value_decimal b (decimal b (omega arith) (omega (arith, h))) in
        rw (lt-ltb (n % 16) 10 h) (v ∙ omega arith)
    go (inr h) =
        let b : ℕ = 55 + n % 16 in
        let v = value_letter b (omega (arith, h)) (omega arith) in
        rw (le-ltb (n % 16) 10 h) (v ∙ omega arith)

-- The digit for a number is a hex digit.
pub digit_is_hex : (n : ℕ) → is_hex (digit_for n) ≡ true
digit_is_hex n =
    let v = value_of_digit n in
    lt-ltb (value_of (digit_for n)) 16 (omega (arith, v))

-- A byte that is neither a decimal digit nor a letter is no hex digit.
not_hex : (b : ℕ) → is_hex b ≡ true → is_decimal b ≡ false → (65 ≤ b → b ≤ 70 → ⊥) → ⊥
not_hex b e d g =
    let v = value_none b d g in
    let h = ltb-true (value_of b) 16 e in
    absurd (omega (arith, v, h))

-- The digit for a number is the only byte that stands for it.
pub digit_of_value : (b n : ℕ) → is_hex b ≡ true → n % 16 ≡ value_of b → digit_for n ≡ b
unfolding digit_for
digit_of_value b n e f = go (cases_Bool (is_decimal b)) (cases_lt b 65) (cases_lt 70 b)
  where
    go : (is_decimal b ≡ true) ⊎ (is_decimal b ≡ false) → (b < 65) ⊎ (65 ≤ b) → (70 < b) ⊎ (b ≤ 70) →
        cond (ltb (n % 16) 10) (48 + n % 16) (55 + n % 16) ≡ b
    go (inl d) p q =
        let v = value_decimal b d in
        let i = decimal_is b d in
        rw (lt-ltb (n % 16) 10 (omega (arith, f, v, i.0, i.1))) (omega (arith, f, v, i.0))
    go (inr d) (inr p) (inr q) =
        let v = value_letter b p q in
        rw (le-ltb (n % 16) 10 (omega (arith, f, v, p))) (omega (arith, f, v, p))
    go (inr d) (inl p) q = absurd (not_hex b e d (λ g h. absurd (omega (arith, p, g))))
    go (inr d) (inr p) (inl q) = absurd (not_hex b e d (λ g h. absurd (omega (arith, q, h))))
