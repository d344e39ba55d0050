-- A number in decimal reads back as that number, and its text is the only one that does: digits alone, without a leading zero. That holds
-- of any number below 10^10, and so of any below 2^32.
use Rattle.std.proofs.Common.{◌≡◌, ℕ, zero, suc, ◌+◌, ◌-◌, ◌*◌, ◌/◌, ◌%◌, ◌^◌, ◌<◌, ◌≤◌, true, ◌≢◌, List, [], ◌∷◌, ◌++◌, length, get_or, sym, refl, ap, ◌∙◌, subst, ⊎_elim, div-lt_iff_lt-mul, pow-suc, arith, length-append, le-ltb, lt-ltb}
use native.Mathlib.Nat.{one-le-pow}
use lib.ListN.{get_or-append}
use Rattle.std.proofs.lemmas.Bool.{cases_lt}
use Rattle.digits.specs.Digits.{is_decimal}
use Rattle.digits.specs.Decimal.{digits_within, decimal_text, read_behind, decimal_read, AllDecimal, IsDecimalText}
use Rattle.digits.proofs.DigitValues.{decimal, decimal_is}

-- ---- examples

-- 0 is "0".
pub nought : decimal_text 0 ≡ 48 ∷ []
unfolding digits_within
nought = refl

-- 268,435,455, the highest word number, is "268435455".
pub highest_word : decimal_text 268435455 ≡ 50 ∷ 54 ∷ 56 ∷ 52 ∷ 51 ∷ 53 ∷ 52 ∷ 53 ∷ 53 ∷ []
unfolding digits_within
highest_word = refl

-- The highest number below 2^32 is "4294967295", of ten digits.
pub highest_number : decimal_text 4294967295 ≡ 52 ∷ 50 ∷ 57 ∷ 52 ∷ 57 ∷ 54 ∷ 55 ∷ 50 ∷ 57 ∷ 53 ∷ []
unfolding digits_within
highest_number = refl

-- ---- one step: a number below 10, and any other

one_digit : (k n : ℕ) → n < 10 → digits_within (suc k) n ≡ (48 + n) ∷ []
unfolding digits_within
one_digit k n h = rw (lt-ltb n 10 h) refl

more_digits : (k n : ℕ) → 10 ≤ n → digits_within (suc k) n ≡ digits_within k (n / 10) ++ ((48 + n % 10) ∷ [])
unfolding digits_within
more_digits k n h = rw (le-ltb n 10 h) refl

no_digits : (n : ℕ) → digits_within 0 n ≡ []
unfolding digits_within
no_digits n = refl

-- the tenth part of a number of k + 1 digits has k
tenth_below : (k n : ℕ) → n < 10 ^ suc k → n / 10 < 10 ^ k
tenth_below k n h = (div-lt_iff_lt-mul {k = 10} (omega arith)).1 (subst (λ (x : ℕ). n < x) (pow-suc 10 k) h)

-- a number of k + 1 digits at most may as well have one more
room_for_more : (k n : ℕ) → n < 10 ^ suc k → digits_within (suc (suc k)) n ≡ digits_within (suc k) n
room_for_more zero n h =
    let l : n < 10 = omega (arith, h) in
    one_digit 1 n l ∙ sym (one_digit 0 n l)
room_for_more (suc k) n h =
    ⊎_elim
    (λ (l : n < 10). one_digit (suc (suc k)) n l ∙ sym (one_digit (suc k) n l))
    (λ (l : 10 ≤ n). more_digits (suc (suc k)) n l ∙
    ap (λ (t : List ℕ). t ++ ((48 + n % 10) ∷ [])) (room_for_more k (n / 10) (tenth_below (suc k) n h)) ∙
    sym (more_digits (suc k) n l))
    (cases_lt n 10)

-- A number below 10 is its digit.
pub below_ten : (n : ℕ) → n < 10 → decimal_text n ≡ (48 + n) ∷ []
below_ten n h = one_digit 9 n h

-- A number of 10 or more, below 10^10, is its tenth part in decimal, and behind that the digit of the remainder.
pub tenth_first : (n : ℕ) → 10 ≤ n → n < 10 ^ 10 → decimal_text n ≡ decimal_text (n / 10) ++ ((48 + n % 10) ∷ [])
tenth_first n l h =
    more_digits 9 n l ∙ ap (λ (t : List ℕ). t ++ ((48 + n % 10) ∷ [])) (sym (room_for_more 8 (n / 10) (tenth_below 9 n h)))

-- ---- reading

read_last : (n : ℕ) (t : List ℕ) (b : ℕ) → read_behind n (t ++ (b ∷ [])) ≡ read_behind n t * 10 + (b - 48)
read_last n [] b = refl
read_last n (a ∷ t) b = read_last (n * 10 + (a - 48)) t b

-- A digit behind a text stands for itself, and the text before it for ten times what it stood for.
pub digit_behind : (t : List ℕ) (b : ℕ) → decimal_read (t ++ (b ∷ [])) ≡ decimal_read t * 10 + (b - 48)
digit_behind t b = read_last 0 t b

reads_within : (k n : ℕ) → n < 10 ^ k → decimal_read (digits_within k n) ≡ n
reads_within zero n h = ap decimal_read (no_digits n) ∙ omega (arith, h)
reads_within (suc k) n h =
    ⊎_elim
    (λ (l : n < 10). ap decimal_read (one_digit k n l) ∙ omega arith)
    (λ (l : 10 ≤ n). ap decimal_read (more_digits k n l) ∙ digit_behind (digits_within k (n / 10)) (48 + n % 10) ∙
    omega (arith, reads_within k (n / 10) (tenth_below k n h)))
    (cases_lt n 10)

-- A number below 10^10, written in decimal, reads back as that number.
pub reads_back : (n : ℕ) → n < 10 ^ 10 → decimal_read (decimal_text n) ≡ n
reads_back n h = reads_within 10 n h

-- Different numbers below 10^10 have different texts.
pub different_texts : (n m : ℕ) → n < 10 ^ 10 → m < 10 ^ 10 → decimal_text n ≡ decimal_text m → n ≡ m
different_texts n m h k e = sym (reads_back n h) ∙ ap decimal_read e ∙ reads_back m k

-- ---- how many digits

count_within : (k f n : ℕ) → k < f → 10 ^ k ≤ n → n < 10 ^ suc k → length (digits_within f n) ≡ suc k
count_within k zero n h g l = absurd (omega (arith, h))
count_within zero (suc f) n h g l = ap length (one_digit f n (omega (arith, l)))
count_within (suc k) (suc f) n h g l =
    let ten_times = pow-suc 10 k in
    let some = one-le-pow k 10 (omega arith) in
    let many : 10 ≤ n = omega (arith, g, ten_times, some) in
    ap length (more_digits f n many) ∙ length-append (digits_within f (n / 10)) ((48 + n % 10) ∷ []) ∙
    omega (arith, count_within k f (n / 10) (omega (arith, h)) (omega (arith, g, ten_times)) (tenth_below (suc k) n l))

-- A number that is not below 10^k, but below 10^(k + 1), has k + 1 digits, if these are ten at most.
pub digit_count : (k n : ℕ) → k < 10 → 10 ^ k ≤ n → n < 10 ^ suc k → length (decimal_text n) ≡ suc k
digit_count k n h g l = count_within k 10 n h g l

at_most : (k n : ℕ) → length (digits_within k n) ≤ k
at_most zero n = let e = ap length (no_digits n) in omega (arith, e)
at_most (suc k) n =
    ⊎_elim
    (λ (l : n < 10). let e = ap length (one_digit k n l) in omega (arith, e))
    (λ (l : 10 ≤ n).
    let e = ap length (more_digits k n l) ∙ length-append (digits_within k (n / 10)) ((48 + n % 10) ∷ []) in
    omega (arith, e, at_most k (n / 10)))
    (cases_lt n 10)

at_least : (k n : ℕ) → 1 ≤ length (digits_within (suc k) n)
at_least k n =
    ⊎_elim
    (λ (l : n < 10). let e = ap length (one_digit k n l) in omega (arith, e))
    (λ (l : 10 ≤ n).
    let e = ap length (more_digits k n l) ∙ length-append (digits_within k (n / 10)) ((48 + n % 10) ∷ []) in
    omega (arith, e))
    (cases_lt n 10)

few_within : (k f n : ℕ) → n < 10 ^ suc k → length (digits_within f n) ≤ suc k
few_within k zero n l = let e = ap length (no_digits n) in omega (arith, e)
few_within zero (suc f) n l = let e = ap length (one_digit f n (omega (arith, l))) in omega (arith, e)
few_within (suc k) (suc f) n l =
    ⊎_elim
    (λ (g : n < 10). let e = ap length (one_digit f n g) in omega (arith, e))
    (λ (g : 10 ≤ n).
    let e = ap length (more_digits f n g) ∙ length-append (digits_within f (n / 10)) ((48 + n % 10) ∷ []) in
    omega (arith, e, few_within k f (n / 10) (tenth_below (suc k) n l)))
    (cases_lt n 10)

-- A number below 10^(k + 1) has at most k + 1 digits.
pub digits_at_most : (k n : ℕ) → n < 10 ^ suc k → length (decimal_text n) ≤ suc k
digits_at_most k n l = few_within k 10 n l

-- A number in decimal has at least one digit, and at most ten.
pub one_to_ten : (n : ℕ) → (1 ≤ length (decimal_text n)) × (length (decimal_text n) ≤ 10)
one_to_ten n = (at_least 9 n, at_most 10 n)

-- ---- digits alone, and no leading zero

digit_last : (t : List ℕ) (b : ℕ) → AllDecimal t → is_decimal b ≡ true → AllDecimal (t ++ (b ∷ []))
digit_last [] b a d = (d, tt)
digit_last (c ∷ t) b a d = (a.0, digit_last t b a.1 d)

digits_alone : (k n : ℕ) → AllDecimal (digits_within k n)
digits_alone zero n = subst AllDecimal (sym (no_digits n)) tt
digits_alone (suc k) n =
    ⊎_elim
    (λ (l : n < 10). subst AllDecimal (sym (one_digit k n l)) (decimal (48 + n) (omega arith) (omega arith), tt))
    (λ (l : 10 ≤ n). subst AllDecimal (sym (more_digits k n l))
    (digit_last (digits_within k (n / 10)) (48 + n % 10) (digits_alone k (n / 10)) (decimal (48 + n % 10) (omega arith) (omega arith))))
    (cases_lt n 10)

-- A number in decimal is decimal digits alone.
pub all_decimal : (n : ℕ) → AllDecimal (decimal_text n)
all_decimal n = digits_alone 10 n

-- the first byte of a text stays where a byte is laid behind it
same_first : (t : List ℕ) (b : ℕ) → 1 ≤ length t → get_or (t ++ (b ∷ [])) 0 0 ≡ get_or t 0 0
same_first t b h = get_or-append t (b ∷ []) 0 0 h

-- the first digit of a number that is not 0 is not 0
first_digit : (k n : ℕ) → 1 ≤ n → n < 10 ^ suc k → get_or (digits_within (suc k) n) 0 0 ≢ 48
first_digit zero n h l e = let f = ap (λ (t : List ℕ). get_or t 0 0) (one_digit 0 n (omega (arith, l))) in absurd (omega (arith, e, f, h))
first_digit (suc k) n h l e =
    ⊎_elim
    (λ (g : n < 10). let f = ap (λ (t : List ℕ). get_or t 0 0) (one_digit (suc k) n g) in absurd (omega (arith, e, f, h)))
    (λ (g : 10 ≤ n). first_digit k (n / 10) (omega (arith, g)) (tenth_below (suc k) n l)
    (sym (same_first (digits_within (suc k) (n / 10)) (48 + n % 10) (at_least k (n / 10))) ∙
    sym (ap (λ (t : List ℕ). get_or t 0 0) (more_digits (suc k) n g)) ∙ e))
    (cases_lt n 10)

-- A number below 10^10 in decimal is digits alone, one at the least, and begins with 0 only if it is 0 (`IsDecimalText`).
pub is_decimal_text : (n : ℕ) → n < 10 ^ 10 → IsDecimalText (decimal_text n)
is_decimal_text n h =
    record {
      digits = all_decimal n;
      some = at_least 9 n;
      no_leading_zero =
          λ (e : get_or (decimal_text n) 0 0 ≡ 48).
          ⊎_elim
          (λ (l : n < 10). ap length (one_digit 9 n l))
          (λ (l : 10 ≤ n). absurd (first_digit 9 n (omega (arith, l)) h e))
          (cases_lt n 10);
    }

-- ---- the only text

-- a text that is not empty has a last byte
last_byte : (t : List ℕ) → 1 ≤ length t → (u : List ℕ) × (b : ℕ) × (t ≡ u ++ (b ∷ []))
last_byte [] h = absurd (omega (arith, h))
last_byte (b ∷ []) h = ([], b, refl)
last_byte (b ∷ c ∷ t) h =
    let l = last_byte (c ∷ t) (omega arith) in
    (b ∷ l.0, l.1, ap (λ (v : List ℕ). b ∷ v) l.2)

split_digits : (t : List ℕ) (b : ℕ) → AllDecimal (t ++ (b ∷ [])) → AllDecimal t × (is_decimal b ≡ true)
split_digits [] b a = (tt, a.0)
split_digits (c ∷ t) b a = let s = split_digits t b a.1 in ((a.0, s.0), s.1)

grows : (n : ℕ) (t : List ℕ) → n ≤ read_behind n t
grows n [] = omega arith
grows n (b ∷ t) = let g = grows (n * 10 + (b - 48)) t in omega (arith, g)

-- a text that begins with another digit than 0 is not 0
not_nothing : (t : List ℕ) → AllDecimal t → 1 ≤ length t → get_or t 0 0 ≢ 48 → 1 ≤ decimal_read t
not_nothing [] a h e = absurd (omega (arith, h))
not_nothing (b ∷ t) a h e =
    let g = grows (0 * 10 + (b - 48)) t in
    omega (arith, g, decimal_is b a.0, e)

-- what is to be shown of a text t, for numbers of k digits
abbrev Only : ℕ → List ℕ → Type 0
Only k t = IsDecimalText t → 1 ≤ decimal_read t → decimal_read t < 10 ^ k → t ≡ digits_within k (decimal_read t)

only_behind : (k : ℕ) (u : List ℕ) (b : ℕ) → Only k u → IsDecimalText (u ++ (b ∷ [])) → decimal_read (u ++ (b ∷ [])) < 10 ^ suc k →
    u ++ (b ∷ []) ≡ digits_within (suc k) (decimal_read (u ++ (b ∷ [])))
only_behind k [] b only d h =
    let is = decimal_is b d.digits.0 in
    let same : b ≡ 48 + (0 * 10 + (b - 48)) = omega (arith, is) in
    ap (λ (x : ℕ). x ∷ []) same ∙ sym (one_digit k (0 * 10 + (b - 48)) (omega (arith, is)))
only_behind k (c ∷ v) b only d h =
    let n : ℕ = decimal_read (c ∷ v ++ (b ∷ [])) in
    let m : ℕ = decimal_read (c ∷ v) in
    let s = split_digits (c ∷ v) b d.digits in
    let is = decimal_is b s.1 in
    let long = length-append v (b ∷ []) in
    let first : c ≢ 48 = λ f. absurd (omega (arith, d.no_leading_zero f, long)) in
    let all : n ≡ m * 10 + (b - 48) = digit_behind (c ∷ v) b in
    let some : 1 ≤ m = not_nothing (c ∷ v) s.0 (omega arith) first in
    let tenth : n / 10 ≡ m = omega (arith, all, is) in
    let last : b ≡ 48 + n % 10 = omega (arith, all, is) in
    let many : 10 ≤ n = omega (arith, all, some) in
    let front = only (record { digits = s.0; some = omega arith; no_leading_zero = λ f. absurd (first f) }) some
    (subst (λ (x : ℕ). x < 10 ^ k) tenth (tenth_below k n h)) in
    ap (λ (t : List ℕ). t ++ (b ∷ [])) (front ∙ ap (digits_within k) (sym tenth)) ∙
    ap (λ (x : ℕ). digits_within k (n / 10) ++ (x ∷ [])) last ∙
    sym (more_digits k n many)

-- a text goes by its last byte
only_last : (k : ℕ) (t : List ℕ) → ((u : List ℕ) → Only k u) → IsDecimalText t → decimal_read t < 10 ^ suc k →
    t ≡ digits_within (suc k) (decimal_read t)
only_last k t only d h =
    let l = last_byte t d.some in
    subst (λ (x : List ℕ). IsDecimalText x → decimal_read x < 10 ^ suc k → x ≡ digits_within (suc k) (decimal_read x)) (sym l.2)
    (only_behind k l.0 l.1 (only l.0)) d h

only_within : (k : ℕ) (t : List ℕ) → IsDecimalText t → decimal_read t < 10 ^ suc k → t ≡ digits_within (suc k) (decimal_read t)
only_within zero t d h = only_last 0 t (λ u _ some few. absurd (omega (arith, some, few))) d h
only_within (suc k) t d h = only_last (suc k) t (λ u f _ few. only_within k u f few) d h

-- No other text is that number in decimal: one of digits alone, without a leading zero, that reads as a number below 10^10 is the text of
-- that number.
pub only_text : (n : ℕ) (t : List ℕ) → n < 10 ^ 10 → IsDecimalText t → decimal_read t ≡ n → t ≡ decimal_text n
only_text n t h d e = only_within 9 t d (subst (λ (x : ℕ). x < 10 ^ 10) (sym e) h) ∙ ap decimal_text e
