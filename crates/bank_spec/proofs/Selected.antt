-- Which banks a decode shows: each exactly if its address agrees and the cycle is admitted for it, whatever the others do.
use Prim.Native.Nat.{ℕ, ◌+◌, ◌*◌, ◌^◌, ◌<◌, ◌≤◌}
use mathlib.Core.Path.{◌≡◌, refl, sym, ◌∙◌}
use mathlib.Core.Bool.{true, false, true≢false}
use mathlib.Core.Logic.{⊎_elim, ◌↔◌}
use borrow.Author.Tests.{lt-ltb, le-ltb}
use Rattle.words.specs.declared.BitAddress.{BitAddress}
use Rattle.std.proofs.lemmas.Bool.{and_parts, cases_lt}
use Rattle.bank_spec.specs.Registers.{bank, bank_at}
use Rattle.bank_spec.specs.Decode.{selects, decoded_as, decoded}
use Rattle.bank_spec.specs.InPlainWords.{mask_for, Agrees, Admits, shows}
use Rattle.bank_spec.specs.declared.Banks.{Banks}
use Rattle.bank_spec.specs.declared.Decoded.{Decoded}
use Rattle.bank_spec.proofs.Places.{each_bank}
use Rattle.bank_spec.proofs.BitByBit.{agrees_exactly, nothing_allowed}
use Rattle.bank_spec.proofs.InItsRange.{in_its_range}
use Rattle.bank_spec.proofs.Admitted.{admits_exactly, none_admitted}

-- The banks of an answer by their numbers: 0 to 3 name the four.
pub shows_named : (o : Decoded) → (shows o 0 ≡ o.bank0) × (shows o 1 ≡ o.bank1) × (shows o 2 ≡ o.bank2) × (shows o 3 ≡ o.bank3)
shows_named o = (refl, refl, refl, refl)

module _ (b : Banks) (c : ℕ) (a : BitAddress) (kind : ℕ) where
  -- In a cycle of a known kind, what is shown of bank n is what its own registers come to.
  pub shown : kind ≤ 2 → (n : ℕ) → n < 4 → shows (decoded b c a kind) n ≡ selects (bank_at b n) c a kind n
  unfolding decoded bank_at
  shown l = rw (le-ltb 2 kind l) (each_bank (λ n. _) refl refl refl refl)

  none_shown : 2 < kind → (n : ℕ) → n < 4 → shows (decoded b c a kind) n ≡ false
  unfolding decoded
  none_shown l = rw (lt-ltb 2 kind l) (each_bank (λ n. shows (decoded_as 31 false false false false) n ≡ false) refl refl refl refl)

module _ (b : Banks) (c : ℕ) (a : BitAddress) (kind n : ℕ) (h : n < 4) where
  -- A bank is shown exactly if address and compare value agree on every bit that its mask allows, and the control word admits the
  -- cycle's kind for it.
  pub selected_exactly :
      shows (decoded b c a kind) n ≡ true ↔ Agrees (bank_at b n).mask (bank_at b n).compare a.0 × Admits c a kind n
  unfolding selects
  selected_exactly = ⊎_elim unknown known (cases_lt 2 kind)
    where
      unknown : 2 < kind →
          shows (decoded b c a kind) n ≡ true ↔ Agrees (bank_at b n).mask (bank_at b n).compare a.0 × Admits c a kind n
      unknown l = (λ e. absurd (true≢false (sym e ∙ none_shown b c a kind l n h)), λ t. absurd (none_admitted c a n kind l t.1))

      known : kind ≤ 2 →
          shows (decoded b c a kind) n ≡ true ↔ Agrees (bank_at b n).mask (bank_at b n).compare a.0 × Admits c a kind n
      known l = (
        λ e.
            let t = and_parts _ _ (sym (shown b c a kind l n h) ∙ e) in
            ((agrees_exactly _ _ _).0 t.0, (admits_exactly c a n h kind l).0 t.1),
        λ t. shown b c a kind l n h ∙ rw ((agrees_exactly _ _ _).1 t.0, (admits_exactly c a n h kind l).1 t.1),
      )

  -- A bank with a mask of 0 is shown exactly if the cycle is admitted for it, at every address.
  pub mask_of_0 : (bank_at b n).mask ≡ 0 → shows (decoded b c a kind) n ≡ true ↔ Admits c a kind n
  mask_of_0 z = (
    λ e. (selected_exactly.0 e).1,
    λ t. selected_exactly.1 (rw z ((agrees_exactly _ _ _).0 (nothing_allowed (bank_at b n).compare a.0)), t),
  )

  -- A bank of 2^k bits at a multiple of its size, with source document 001's mask for it, is shown in its range and nowhere else, by every
  -- cycle that is admitted.
  pub placed : (k q : ℕ) → k < 32 → q * 2 ^ k < 2 ^ 32 → a.0 < 2 ^ 32 → bank_at b n ≡ bank (q * 2 ^ k) (mask_for k) → Admits c a kind n →
      shows (decoded b c a kind) n ≡ true ↔ (q * 2 ^ k ≤ a.0) × (a.0 < q * 2 ^ k + 2 ^ k)
  placed k q s hq ha e t = (
    λ x. (in_its_range k s q a.0 hq ha).0 ((agrees_exactly _ _ _).1 (rw e at (selected_exactly.0 x).0)),
    λ r. selected_exactly.1 (rw e ((agrees_exactly _ _ _).0 ((in_its_range k s q a.0 hq ha).1 r)), t),
  )
