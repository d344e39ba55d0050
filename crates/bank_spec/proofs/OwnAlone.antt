-- What is shown of a bank depends on its own registers and control bits alone, and in each kind of cycle on those bits alone that are for
-- it.
use Prim.Native.Nat.{ℕ, zero, suc, ◌+◌, ◌*◌, ◌/◌, ◌<◌, ◌≤◌}
use native.Mathlib.Nat.{add_assoc}
use native.Mathlib.Omega.{arith}
use mathlib.Core.Path.{◌≡◌, refl, sym, ap, ◌∙◌}
use mathlib.Core.Logic.{⊎_elim}
use borrow.Author.Tests.{lt-ltb}
use Rattle.words.specs.Bytes.{bit}
use Rattle.words.specs.declared.BitAddress.{BitAddress}
use Rattle.words.proofs.Bits.{bit_of_quotient}
use Rattle.std.proofs.lemmas.Bool.{cases_lt}
use Rattle.words.proofs.Digits.{same_digit, two_digits}
use Rattle.bank_spec.specs.Registers.{bank_at}
use Rattle.bank_spec.specs.Decode.{rm, in_turn, admits, selects, decoded}
use Rattle.bank_spec.specs.InPlainWords.{shows}
use Rattle.bank_spec.specs.declared.Bank.{Bank}
use Rattle.bank_spec.specs.declared.Banks.{Banks}
use Rattle.bank_spec.proofs.Selected.{shown}

-- two control words, of which bank n finds BDRD, RM1 and RM0 alike in a refresh, and BVEN in a special cycle; in an ordinary cycle nothing
-- need be alike
module _ (n c c' kind : ℕ)
    (d : kind ≡ 1 → (bit c (8 + n) ≡ bit c' (8 + n)) × (bit c 7 ≡ bit c' 7) × (bit c 6 ≡ bit c' 6))
    (v : kind ≡ 2 → bit c (12 + n) ≡ bit c' (12 + n)) where
  rm_alike : bit c 7 ≡ bit c' 7 → bit c 6 ≡ bit c' 6 → rm c ≡ rm c'
  rm_alike r s = two_digits c 6 ∙ (λ j. (same_digit c 7 c' 7).0 r j * 2 + (same_digit c 6 c' 6).0 s j) ∙ sym (two_digits c' 6)

  -- by the kind that is known
  admits_alike : (a : BitAddress) (k : ℕ) → kind ≡ k → k ≤ 2 → admits c a k n ≡ admits c' a k n
  unfolding admits in_turn
  admits_alike a zero e l = refl
  admits_alike a (suc zero) e l = let f = d e in rw (f.0, rm_alike f.1 f.2)
  admits_alike a (suc (suc zero)) e l = v e
  admits_alike a (suc (suc (suc k))) e l = absurd (omega arith)

  selects_alike : (k : Bank) (a : BitAddress) → kind ≤ 2 → selects k c a kind n ≡ selects k c' a kind n
  unfolding selects
  selects_alike k a l = rw (admits_alike a kind refl l)

  -- At an address, what is shown of a bank depends on its own compare value and mask and, in a refresh, on its BDRD bit, RM1 and RM0, in a
  -- special cycle on its BVEN bit, and in an ordinary one on no control bit at all; neither another bank's registers nor another bit
  -- changes it.
  pub own_alone : (b b' : Banks) (a : BitAddress) → n < 4 → bank_at b n ≡ bank_at b' n →
      shows (decoded b c a kind) n ≡ shows (decoded b' c' a kind) n
  unfolding decoded
  own_alone b b' a h e = ⊎_elim (λ l. rw (lt-ltb 2 kind l)) known (cases_lt 2 kind)
    where
      known : kind ≤ 2 → shows (decoded b c a kind) n ≡ shows (decoded b' c' a kind) n
      known l =
          shown b c a kind l n h
          ∙ selects_alike (bank_at b n) a l
          ∙ ap (λ (k : Bank). selects k c' a kind n) e
          ∙ sym (shown b' c' a kind l n h)

-- The six low bits of the control word, ABE, BPNT and bit 0, change nothing.
pub rest_plays_no_part : (b : Banks) (c c' : ℕ) (a : BitAddress) (kind : ℕ) → c / 64 ≡ c' / 64 → decoded b c a kind ≡ decoded b c' a kind
unfolding decoded
rest_plays_no_part b c c' a kind e = ⊎_elim (λ l. rw (lt-ltb 2 kind l)) known (cases_lt 2 kind)
  where
    upper : (i : ℕ) → bit c (6 + i) ≡ bit c' (6 + i)
    upper i = sym (bit_of_quotient c 6 i) ∙ ap (λ (x : ℕ). bit x i) e ∙ bit_of_quotient c' 6 i

    from : (i n : ℕ) → bit c (6 + i + n) ≡ bit c' (6 + i + n)
    from i n = rw (add_assoc 6 i n) (upper (i + n))

    same : kind ≤ 2 → (n : ℕ) (k : Bank) → selects k c a kind n ≡ selects k c' a kind n
    same l n k = selects_alike n c c' kind (λ _. (from 2 n, upper 1, upper 0)) (λ _. from 6 n) k a l

    known : kind ≤ 2 → decoded b c a kind ≡ decoded b c' a kind
    known l = rw (same l 0 b.bank0, same l 1 b.bank1, same l 2 b.bank2, same l 3 b.bank3)
