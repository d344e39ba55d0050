-- Which banks a refresh is one of, in plain words: source document 001's table of RM, row by row, by RM1 and RM0, which are bits 7 and 6 of
-- the control word, and by bits 17 and 16 of the address.
use Prim.Native.Nat.{ℕ, ◌+◌, ◌*◌, ◌/◌, ◌%◌, ◌^◌, ◌<◌}
use native.Mathlib.Omega.{arith}
use mathlib.Core.Path.{◌≡◌, sym, ◌∙◌}
use mathlib.Core.Bool.{true, false, true≢false, not}
use mathlib.Core.Logic.{⊎_elim, ◌↔◌}
use lib.Dec.{eqb}
use borrow.Author.Tests.{eq-eqb, ne_eqb, eqb-true}
use Rattle.words.specs.Addresses.{address}
use Rattle.words.specs.Bytes.{bit}
use Rattle.words.specs.declared.BitAddress.{BitAddress}
use Rattle.std.proofs.lemmas.Bool.{cases_Bool, cases_eq}
use Rattle.words.proofs.Digits.{is_set, is_clear, same_digit, two_digits, made_of_two}
use Rattle.bank_spec.specs.Decode.{rm, in_turn}
use Rattle.bank_spec.specs.InPlainWords.{InTurn, with_all, in_a_pair, alone}

module _ (c : ℕ) (a : BitAddress) (n : ℕ) where
  -- the number that RM1 and RM0 make
  made : rm c ≡ c / 2 ^ 7 % 2 * 2 + c / 2 ^ 6 % 2
  made = two_digits c 6

  -- ---- row by row

  -- With RM 00 every bank is in turn: "0 0 Refresh all banks simultaneously".
  pub all_at_once : bit c 7 ≡ false → bit c 6 ≡ false → in_turn c a n ≡ true
  unfolding in_turn
  all_at_once r s = let e : rm c ≡ 0 = omega (arith, made, (is_clear c 7).0 r, (is_clear c 6).0 s) in rw e

  paired : bit c 7 ≡ false → bit c 6 ≡ true → in_turn c a n ≡ eqb (n % 2) (a.0 / 65536 % 2)
  unfolding in_turn
  paired r s = let e : rm c ≡ 1 = omega (arith, made, (is_clear c 7).0 r, (is_set c 6).0 s) in rw e

  single : bit c 7 ≡ true → bit c 6 ≡ false → in_turn c a n ≡ eqb n (a.0 / 65536 % 4)
  unfolding in_turn
  single r s = let e : rm c ≡ 2 = omega (arith, made, (is_set c 7).0 r, (is_clear c 6).0 s) in rw e

  -- With RM 10 just the bank is in turn that LAD17 and LAD16 name: "1 0 Refresh one bank at a time".
  pub one_at_a_time : bit c 7 ≡ true → bit c 6 ≡ false → in_turn c a n ≡ true ↔ n ≡ a.0 / 65536 % 4
  one_at_a_time r s = (λ t. eqb-true _ _ (sym (single r s) ∙ t), λ e. single r s ∙ eq-eqb _ _ e)

  -- With RM 11 no bank is in turn: "1 1 No refresh".
  pub no_refresh : bit c 7 ≡ true → bit c 6 ≡ true → in_turn c a n ≡ false
  unfolding in_turn
  no_refresh r s = let e : rm c ≡ 3 = omega (arith, made, (is_set c 7).0 r, (is_set c 6).0 s) in rw e

  -- ---- all of them

  in_words : in_turn c a n ≡ true → InTurn c a n
  in_words t = ⊎_elim rm1_set rm1_clear (cases_Bool (bit c 7))
    where
      in_pair : bit c 7 ≡ false → bit c 6 ≡ true → InTurn c a n
      in_pair r s =
          let e : n % 2 ≡ a.0 / 65536 % 2 = eqb-true _ _ (sym (paired r s) ∙ t) in
          in_a_pair r s ((same_digit n 0 a.0 16).1 (omega (arith, e)))

      by_itself : bit c 7 ≡ true → bit c 6 ≡ false → InTurn c a n
      by_itself r s =
          let e : n ≡ a.0 / 65536 % 4 = (one_at_a_time r s).0 t in
          let two : a.0 / 65536 % 4 ≡ a.0 / 2 ^ 17 % 2 * 2 + a.0 / 2 ^ 16 % 2 = two_digits a.0 16 in
          alone r s ((same_digit n 0 a.0 16).1 (omega (arith, e, two))) ((same_digit n 1 a.0 17).1 (omega (arith, e, two)))

      rm1_set : bit c 7 ≡ true → InTurn c a n
      rm1_set r = ⊎_elim (λ s. absurd (true≢false (sym t ∙ no_refresh r s))) (by_itself r) (cases_Bool (bit c 6))

      rm1_clear : bit c 7 ≡ false → InTurn c a n
      rm1_clear r = ⊎_elim (in_pair r) (with_all r) (cases_Bool (bit c 6))

  from_words : n < 4 → InTurn c a n → in_turn c a n ≡ true
  from_words h (with_all r s) = all_at_once r s
  from_words h (in_a_pair r s e) = paired r s ∙ eq-eqb (n % 2) (a.0 / 65536 % 2) (omega (arith, (same_digit n 0 a.0 16).0 e))
  from_words h (alone r s e f) = single r s ∙ eq-eqb n (a.0 / 65536 % 4) (made_of_two n a.0 16 h e f)

  -- A refresh is one of bank n exactly if RM1 and RM0 and the address's bits 17 and 16 say so (`InTurn`).
  pub in_turn_exactly : n < 4 → in_turn c a n ≡ true ↔ InTurn c a n
  in_turn_exactly h = (in_words, from_words h)

-- With RM 01 each bank is in turn at one value of LAD16, and not at the other: "0 1 Refresh alternate pairs".
pub pairs_alternate : (c : ℕ) (a : BitAddress) (n : ℕ) → bit c 7 ≡ false → bit c 6 ≡ true →
    in_turn c (address (a.0 + 65536)) n ≡ not (in_turn c a n)
pairs_alternate c a n r s =
    rw (paired c a n r s, paired c (address (a.0 + 65536)) n r s)
    (⊎_elim
    (λ e. rw (eq-eqb (n % 2) (a.0 / 65536 % 2) e, ne_eqb (n % 2) ((a.0 + 65536) / 65536 % 2) (omega (arith, e))))
    (λ d. rw (ne_eqb (n % 2) (a.0 / 65536 % 2) d, eq-eqb (n % 2) ((a.0 + 65536) / 65536 % 2) (omega (arith, d))))
    (cases_eq (n % 2) (a.0 / 65536 % 2)))
