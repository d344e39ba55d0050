-- What the reader says of a head and of a word when the last byte is there, in plain words: by what their bytes spell.
use Prim.Native.Nat.{ℕ, ◌+◌, ◌*◌, ◌/◌, ◌%◌, ◌<◌, ◌≤◌}
use native.Mathlib.Omega.{arith}
use mathlib.Core.Path.{◌≡◌, sym, ap, ◌∙◌, subst}
use mathlib.Core.Bool.{true, false, cond}
use mathlib.Core.List.{List, [], ◌∷◌, ◌++◌}
use mathlib.Core.Logic.{⊎_elim}
use lib.Dec.{ltb, eqb}
use lib.ListN.{get_or}
use borrow.Author.Tests.{lt-ltb, le-ltb, eq-eqb, ne_eqb}
use Rattle.std.proofs.lemmas.Bool.{cases_lt}
use Rattle.transcript_spec.specs.Format.{head_of}
use Rattle.transcript_spec.specs.InPlainWords.{Spelled, value_of, Padded, Unpadded, Spells, Good, BadHead, BadWord}
use Rattle.transcript_spec.specs.InPlainWords as plain
use Rattle.transcript_spec.specs.Reading.{none, entry_said, head_read, word_read}
use Rattle.transcript_spec.specs.declared.Entry.{Entry}
use Rattle.transcript_spec.specs.declared.Part.TheVariants.{Word}
use Rattle.transcript_spec.specs.declared.Step.TheVariants.{Goes, Whole, Bad}
use Rattle.transcript_spec.proofs.NumberRead.{grown_by, first_byte_pads, keeps_value}

-- ---- the mark and the value of what was read
pads : (first : List ℕ) (g : ℕ) → (grown_by none (first ++ (g ∷ []))).padded ≡ eqb (get_or (first ++ (g ∷ [])) 0 0) 128
pads [] g = first_byte_pads g []
pads (b ∷ first) g = first_byte_pads b (first ++ (g ∷ []))

module _ (s : List ℕ) (p : Spelled s) where
  mark : (grown_by none s).padded ≡ eqb (get_or s 0 0) 128
  mark = subst (λ (t : List ℕ). (grown_by none t).padded ≡ eqb (get_or t 0 0) 128) (sym p.all) (pads p.first p.last)

  marked : Padded s → (grown_by none s).padded ≡ true
  marked h = mark ∙ eq-eqb (get_or s 0 0) 128 h

  unmarked : Unpadded s → (grown_by none s).padded ≡ false
  unmarked h = mark ∙ ne_eqb (get_or s 0 0) 128 h

  value_over : (limit : ℕ) → limit < 65536 → limit < value_of s → ltb limit (grown_by none s).value ≡ true
  value_over limit l h =
      let k = keeps_value s in
      ⊎_elim
      (λ q. lt-ltb limit (grown_by none s).value (omega (arith, k.below q)))
      (λ q. lt-ltb limit (grown_by none s).value (omega (arith, k.above q)))
      (cases_lt (value_of s) 65536)

  value_within : (limit : ℕ) → limit < 65536 → value_of s ≤ limit → (grown_by none s).value ≡ value_of s
  value_within limit l h = (keeps_value s).below (omega arith)

  -- ---- a bad head, a bad word
  -- A bad head is refused with its number.
  pub head_refused : (n : ℕ) → BadHead s n → head_read (grown_by none s) ≡ Bad n
  unfolding head_read
  head_refused n (plain.BadHead.padded h) = rw (marked h)
  head_refused n (plain.BadHead.over h k) = rw (unmarked h, value_over 31 (omega arith) k)
  head_refused n (plain.BadHead.off_lanes h k) =
      let v = value_within 31 (omega arith) (omega arith) in
      let a : value_of s ≤ 31 = omega arith in
      rw (unmarked h, v, le-ltb 31 (value_of s) a, lt-ltb (value_of s) 8 k)

  -- A bad word is refused with its number.
  pub word_refused : (h n : ℕ) → BadWord s n → word_read h (grown_by none s) ≡ Bad n
  unfolding word_read
  word_refused h n (plain.BadWord.padded q) = rw (marked q)
  word_refused h n (plain.BadWord.over q k) = rw (unmarked q, value_over 65535 (omega arith) k)

-- ---- a good head, a good word
module _ (s : List ℕ) (v : ℕ) (q : Spells s v) where
  -- A good head, from 8 to 31, makes a read whole, and calls for a write's word.
  pub head_accepted : 8 ≤ v → v ≤ 31 → head_read (grown_by none s) ≡ cond (eqb (v % 2) 0) (Whole (entry_said v 0)) (Goes (Word v none))
  unfolding head_read
  head_accepted l h =
      let e = value_within s q.spelled 31 (omega arith) (omega (arith, q.value)) ∙ q.value in
      rw (unmarked s q.spelled q.unpadded, e, le-ltb 31 v h, le-ltb v 8 l)

  -- A good word, of at most 65,535, makes a write whole.
  pub word_accepted : (h : ℕ) → v ≤ 65535 → word_read h (grown_by none s) ≡ Whole (entry_said h v)
  unfolding word_read
  word_accepted h k =
      let e = value_within s q.spelled 65535 (omega arith) (omega (arith, q.value)) ∙ q.value in
      rw (unmarked s q.spelled q.unpadded, e, le-ltb 65535 v k)

-- ---- the head of an entry
-- The head of a good entry is one of 8 to 31.
pub head_range : (e : Entry) → Good e → (8 ≤ head_of e) × (head_of e ≤ 31)
head_range e g = (omega arith, omega arith)

-- The head of a good entry is even for a read and odd for a write.
pub head_kind : (e : Entry) → Good e → head_of e % 2 ≡ e.kind
head_kind e g = omega arith

same_parts : {k k' r r' l l' : ℕ} (w : ℕ) → k ≡ k' → r ≡ r' → l ≡ l' →
    ◌≡◌ {A = Entry} (record { kind = k; register = r; lanes = l; word = w }) (record { kind = k'; register = r'; lanes = l'; word = w })
same_parts w p q r = cc

register_back : (k r l : ℕ) → k ≤ 1 → r ≤ 3 → (k + 2 * r + 8 * l) / 2 % 4 ≡ r
register_back k r l h i =
    let d : (k + 2 * r + 8 * l) / 2 ≡ r + 4 * l = omega arith in
    ap (λ (x : ℕ). x % 4) d ∙ (omega arith)

-- The head of a good entry has all of the entry but the word.
pub head_back : (e : Entry) → Good e → entry_said (head_of e) e.word ≡ e
head_back e g =
    same_parts e.word (head_kind e g) (register_back e.kind e.register e.lanes g.kind g.register) (omega arith)
