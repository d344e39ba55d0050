-- The digits of a line: what the first of eight say has room for the next; a line is read as a call only if it is one.
use Prim.Native.Nat.{ℕ, zero, suc, ◌+◌, ◌*◌, ◌^◌, ◌<◌}
use native.Mathlib.Nat.{pow-suc, pow-le-pow_right}
use native.Mathlib.Numerals.{add-one}
use native.Mathlib.Omega.{arith}
use mathlib.Core.Bool.{Bool, true, false, cond, ◌&&◌}
use mathlib.Core.List.{List}
use mathlib.Core.Logic.{⊎_elim, ◌≢◌}
use mathlib.Core.Path.{◌≡◌, refl, ap, sym, ◌∙◌}
use lib.Dec.{eqb}
use lib.ListN.{get_or}
use borrow.Author.Tests.{eq-eqb, ne_eqb, ltb-true}
use Rattle.std.proofs.lemmas.Bool.{and_parts, cases_eq}
use Rattle.digits.specs.Digits.{value_of, is_hex, hex_value}
use Rattle.script.specs.Script.{digits_from, number_from, has_number, number_said, is_call, call_in, line_in}
use Rattle.script.specs.declared.Call.{Call}
use Rattle.std.specs.Prelude.{Some, None}

-- what is known where a byte is a digit, and where it is none
found : (b d : ℕ) → hex_value b ≡ Some d → (is_hex b ≡ true) × (value_of b ≡ d)
unfolding hex_value
found b d e = go (is_hex b) e
  where
    go : (t : Bool) → cond t (Some (value_of b)) None ≡ Some d → (t ≡ true) × (value_of b ≡ d)
    go true e = (refl, cc)
    go false e = absurd cc

missing : (b : ℕ) → hex_value b ≡ None → is_hex b ≡ false
unfolding hex_value
missing b e = go (is_hex b) e
  where
    go : (t : Bool) → cond t (Some (value_of b)) None ≡ None → t ≡ false
    go true e = absurd cc
    go false e = refl

below : (s : List ℕ) (at n : ℕ) → digits_from s at n ≡ true → number_from s at n < 16 ^ n
unfolding number_from digits_from
below s at zero e = omega arith
below s at (suc n) e =
    let p = and_parts (digits_from s at n) (is_hex (get_or s (at + n) 0)) e in
    rw pow-suc (omega (arith, below s at n p.0, ltb-true (value_of (get_or s (at + n) 0)) 16 p.1))

-- Fewer than eight digits stand for a number below 2^28, which has room for another digit.
pub number_small : (s : List ℕ) (at n : ℕ) → n < 8 → digits_from s at n ≡ true → number_from s at n < 268435456
number_small s at n h e =
    omega (arith, below s at n e, pow-le-pow_right {n = 16} (omega arith) {i = n} {j = 7} (omega (arith, h)))

-- A digit behind those that were read: all are digits, and they say 16 times as much and the digit.
pub digit_more : (s : List ℕ) (at i d : ℕ) → digits_from s at i ≡ true → hex_value (get_or s (at + i) 0) ≡ Some d →
    (digits_from s at (i + 1) ≡ true) × (number_from s at i * 16 + d ≡ number_from s at (i + 1)) × (d < 16)
unfolding digits_from number_from
digit_more s at i d h e =
    let f = found (get_or s (at + i) 0) d e in
    let small = ltb-true (value_of (get_or s (at + i) 0)) 16 f.0 in
    (rw (add-one, h, f.0) refl, rw add-one (ap (λ (x : ℕ). number_from s at i * 16 + x) (sym f.1)), omega (arith, small, f.1))

-- No more than n digits stand from a place on, if byte i, before the n-th, is none.
cut_short : (s : List ℕ) (at n i : ℕ) → i < n → is_hex (get_or s (at + i) 0) ≡ false → digits_from s at n ≡ false
unfolding digits_from
cut_short s at zero i h e = absurd (omega (arith, h))
cut_short s at (suc n) i h e =
    ⊎_elim
    (λ (p : i ≡ n). ap (λ (b : Bool). digits_from s at n && b) (ap (λ (k : ℕ). is_hex (get_or s (at + k) 0)) (sym p) ∙ e) ∙
    and_false (digits_from s at n))
    (λ (q : i ≢ n). ap (λ (b : Bool). b && is_hex (get_or s (at + n) 0)) (cut_short s at n i (omega (arith, h, q)) e))
    (cases_eq i n)
  where
    and_false : (a : Bool) → a && false ≡ false
    and_false true = refl
    and_false false = refl

-- No number stands at a place where no space stands.
pub no_space : (s : List ℕ) (at : ℕ) → get_or s at 0 ≢ 32 → None ≡ number_said s at
unfolding has_number
no_space s at h = rw (ne_eqb (get_or s at 0) 32 h) refl

-- No number stands at a place behind which one of the eight bytes is no digit.
pub no_digit : (s : List ℕ) (at i : ℕ) → i < 8 → hex_value (get_or s (at + 1 + i) 0) ≡ None → None ≡ number_said s at
unfolding has_number
no_digit s at i h e = go (eqb (get_or s at 0) 0x20)
  where
    go : (t : Bool) → None ≡ cond (t && digits_from s (at + 1) 8) (Some (number_from s (at + 1) 8)) None
    go true = rw (cut_short s (at + 1) 8 i h (missing (get_or s (at + 1 + i) 0) e)) refl
    go false = refl

-- A number stands at a place where a space and eight digits stand.
pub eight_digits : (s : List ℕ) (at : ℕ) → get_or s at 0 ≡ 32 → digits_from s (at + 1) 8 ≡ true →
    Some (number_from s (at + 1) 8) ≡ number_said s at
unfolding has_number
eight_digits s at h e = rw (eq-eqb (get_or s at 0) 32 h, e) refl

-- ---- what a line is read as

-- A line is read as a call only if it is one, and then as the call that it says.
pub read_good : (s : List ℕ) (c : Call) → line_in s ≡ Some c → (is_call s ≡ true) × (c ≡ call_in s)
read_good s c e = go (is_call s) e
  where
    go : (t : Bool) → cond t (Some (call_in s)) None ≡ Some c → (t ≡ true) × (c ≡ call_in s)
    go true e = (refl, cc)
    go false e = absurd cc

-- A line is read as no call only if it is no call.
pub read_bad : (s : List ℕ) → line_in s ≡ None → is_call s ≡ false
read_bad s e = go (is_call s) e
  where
    go : (t : Bool) → cond t (Some (call_in s)) None ≡ None → t ≡ false
    go true e = absurd cc
    go false e = refl
