-- Which words are counted, and how many: exactly those that hold a bit of the field, three at most; and a word is wholly covered
-- exactly if all its sixteen bits are the field's.
use Prim.Native.Nat.{ℕ, ◌+◌, ◌-◌, ◌*◌, ◌/◌, ◌%◌, ◌≤◌, ◌<◌, max}
use native.Mathlib.Omega.{arith}
use mathlib.Core.Path.{◌≡◌, refl, ap}
use mathlib.Core.Bool.{true}
use mathlib.Core.Logic.{◌↔◌}
use lib.Dec.{leb}
use borrow.Author.Tests.{le-leb, leb-true}
use Rattle.std.proofs.lemmas.Bool.{and_parts}
use Rattle.words.specs.Addresses.{address, word_at}
use Rattle.words.specs.declared.BitAddress.{BitAddress}
use Rattle.words.specs.declared.WordNumber.{WordNumber}
use Rattle.field_spec.specs.Count.{last_word, touched, wholly_covered}
use Rattle.field_spec.specs.Field.{bits_after}
use Rattle.field_spec.specs.InPlainWords.{Covers, Holds, Counted, Missing}

-- ---- how many

-- A field of at most 32 bits never touches a fourth word.
pub no_fourth_word : (a : BitAddress) (n : ℕ) → n ≤ 32 → touched a n ≤ 3
unfolding touched
no_fourth_word a n l = omega arith

-- The words touched, as the code counts them: (address mod 16 + n - 1) div 16 + 1, for a field of one bit or more.
pub touched_is : (a : BitAddress) (n : ℕ) → 1 ≤ n → touched a n ≡ (a.0 % 16 + n - 1) / 16 + 1
unfolding touched
touched_is a n l = omega arith

-- The number of the last word touched is the first one's plus how many are touched, less one.
pub last_is : (a : BitAddress) (n : ℕ) → 1 ≤ n → (last_word a n).0 ≡ (word_at a).0 + touched a n - 1
unfolding touched
last_is a n l = omega arith

-- ---- which

module _ (a : BitAddress) (n : ℕ) (w : WordNumber) where
  -- The bit in w: the field's first, or the word's first if the field began before it.
  counted_holds : 1 ≤ n → Counted a n w → Holds a n w
  unfolding touched
  counted_holds s h =
      let f : a.0 / 16 ≤ w.0 = h.from in
      let t : w.0 < a.0 / 16 + ((a.0 + (n - 1)) / 16 + 1 - a.0 / 16) = h.to in
      let u : w.0 ≤ (a.0 + (n - 1)) / 16 = omega arith in
      record {
        bit = address (max a.0 (w.0 * 16));
        covered = record { from = omega arith; to = omega arith };
        in_word = ap (λ (k : ℕ). record { 0 = k }) (omega arith);
      }

  holds_counted : Holds a n w → Counted a n w
  unfolding touched
  holds_counted h =
      let b : ℕ = h.bit.0 in
      let p : a.0 ≤ b = h.covered.from in
      let q : b < a.0 + n = h.covered.to in
      let e : b / 16 ≡ w.0 = ap (λ (x : WordNumber). x.0) h.in_word in
      record { from = omega arith; to = omega arith }

  -- The words counted are exactly those that hold a bit of the field, if that has one bit or more.
  pub counted_when : 1 ≤ n → Counted a n w ↔ Holds a n w
  counted_when s = (counted_holds s, holds_counted)

  covers_all : wholly_covered a n w ≡ true → (b : BitAddress) → word_at b ≡ w → Covers a n b
  unfolding wholly_covered
  covers_all e b i =
      let t = and_parts (leb a.0 (w.0 * 16)) (leb (w.0 * 16 + 16) (a.0 + n)) e in
      let p : a.0 ≤ w.0 * 16 = leb-true _ _ t.0 in
      let q : w.0 * 16 + 16 ≤ a.0 + n = leb-true _ _ t.1 in
      let j : b.0 / 16 ≡ w.0 = ap (λ (x : WordNumber). x.0) i in
      record { from = omega arith; to = omega arith }

  all_covered : ((b : BitAddress) → word_at b ≡ w → Covers a n b) → wholly_covered a n w ≡ true
  unfolding wholly_covered
  all_covered h =
      let p : a.0 ≤ w.0 * 16 = (h (address (w.0 * 16)) (ap (λ (k : ℕ). record { 0 = k }) (omega arith))).from in
      let q : w.0 * 16 + 15 < a.0 + n = (h (address (w.0 * 16 + 15)) (ap (λ (k : ℕ). record { 0 = k }) (omega arith))).to in
      rw (le-leb a.0 (w.0 * 16) p, le-leb (w.0 * 16 + 16) (a.0 + n) (omega arith))

  -- A word is wholly covered exactly if every bit of it is one of the field's.
  pub wholly_when : wholly_covered a n w ≡ true ↔ ((b : BitAddress) → word_at b ≡ w → Covers a n b)
  wholly_when = (covers_all, all_covered)

-- ---- a touched word that isn't in memory

module _ (words : ℕ) (a : BitAddress) (n : ℕ) where
  -- If any touched word isn't in a memory of so many words, the last isn't.
  pub missing_last : Missing words a n → words ≤ (last_word a n).0
  missing_last m =
      let b : ℕ = m.holds.bit.0 in
      let q : b < a.0 + n = m.holds.covered.to in
      let e : b / 16 ≡ m.word.0 = ap (λ (x : WordNumber). x.0) m.holds.in_word in
      omega (arith, m.beyond)

  -- If the last word that a field of one bit or more touches isn't in memory, some touched word isn't.
  pub last_missing : 1 ≤ n → words ≤ (last_word a n).0 → Missing words a n
  last_missing s l =
      record {
        word = last_word a n;
        holds = record { bit = bits_after a (n - 1); covered = record { from = omega arith; to = omega arith }; in_word = refl };
        beyond = l;
      }
