-- Every string is good records and nothing more, or good records and then a bad one: record by record, by the front number of what is left.
use Prim.Native.Nat.{ℕ, zero, suc, ◌+◌, ◌*◌, ◌/◌, ◌%◌, ◌≤◌}
use native.Mathlib.Omega.{arith}
use mathlib.Core.Path.{◌≡◌, refl, sym, ap, ◌∙◌, subst}
use mathlib.Core.List.{List, [], ◌∷◌, ◌++◌, append_assoc}
use mathlib.Core.Logic.{⊎_elim}
use lib.ListN.{length, get_or, length-append}
use Rattle.std.proofs.lemmas.Bool.{cases_eq, cases_lt}
use Rattle.transcript_spec.specs.Format.{head_of}
use Rattle.transcript_spec.specs.InPlainWords.{Continued, Spelled, value_of, Unpadded, Spells, Good, GoodRecord, a_read, a_write}
use Rattle.transcript_spec.specs.InPlainWords.{Sound, nothing, and_more, WriteHead, BadRecord, head_cut, head_bad, word_cut, word_bad}
use Rattle.transcript_spec.specs.InPlainWords as plain
use Rattle.transcript_spec.specs.Reading.{entry_said}
use Rattle.transcript_spec.specs.declared.Entry.{Entry}

-- ---- the number at the front of a string

-- what a string begins with: a number that is cut off, or a whole one
pub data FrontNumber (s : List ℕ) : Type 0 where
  cut : Continued s → FrontNumber s
  whole : (h rest : List ℕ) → s ≡ h ++ rest → Spelled h → FrontNumber s

one_byte : (b : ℕ) (s : List ℕ) → FrontNumber s → 128 ≤ b → FrontNumber (b ∷ s)
one_byte b s (cut c) h = cut (h, c)
one_byte b s (whole n rest e p) h =
    whole (b ∷ n) rest (ap (λ (t : List ℕ). b ∷ t) e)
    (record {
      first = b ∷ p.first;
      last = p.last;
      all = ap (λ (t : List ℕ). b ∷ t) p.all;
      continued = (h, p.continued);
      ends = p.ends;
    })

-- Every string begins with a whole number, or is cut off before one ends.
pub front_number : (s : List ℕ) → FrontNumber s
front_number [] = cut tt
front_number (b ∷ s) =
    ⊎_elim
    (λ h. whole (b ∷ []) s refl (record { first = []; last = b; all = refl; continued = tt; ends = h }))
    (one_byte b s (front_number s))
    (cases_lt b 128)

-- A whole number has at least one byte.
pub has_a_byte : (h : List ℕ) → Spelled h → 1 ≤ length h
has_a_byte h p = let e = ap length p.all ∙ length-append p.first (p.last ∷ []) in omega arith

-- ---- the record at the front of a string
data FrontRecord (s : List ℕ) : Type 0 where
  good : (r rest : List ℕ) (e : Entry) → s ≡ r ++ rest → 1 ≤ length r → GoodRecord r e → FrontRecord s
  bad : (n : ℕ) → BadRecord s n → FrontRecord s

-- The entry of a head from 8 to 31 and a word of at most 65,535, which for a read is 0, is good.
pub entry_good : (v w : ℕ) → 8 ≤ v → v ≤ 31 → w ≤ 65535 → (v % 2 ≡ 0 → w ≡ 0) → Good (entry_said v w)
entry_good v w l h k z =
    record { kind = omega arith; register = omega arith; a_lane = omega arith; lanes = omega arith; word = k; read = z }

entry_head : (v w : ℕ) → v ≤ 31 → head_of (entry_said v w) ≡ v
entry_head v w h =
    let a : v / 2 / 4 ≡ v / 8 = omega arith in
    let b : v / 2 ≡ v / 2 % 4 + 4 * (v / 2 / 4) = omega arith in
    let c : v ≡ v % 2 + 2 * (v / 2) = omega arith in
    omega arith

-- Bytes that spell a number of at most 31, with no leading zero group, spell the head of the entry that this number and a word say.
pub says_head : (h : List ℕ) (w : ℕ) → Spelled h → Unpadded h → value_of h ≤ 31 → Spells h (head_of (entry_said (value_of h) w))
says_head h w p d l = record { spelled = p; unpadded = d; value = sym (entry_head (value_of h) w l) }

module _ (s h rest : List ℕ) (e : s ≡ h ++ rest) (p : Spelled h) (d : Unpadded h) (l : 8 ≤ value_of h) (k : value_of h ≤ 31) where
  abbrev v : ℕ
  v = value_of h

  front_read : v % 2 ≡ 0 → FrontRecord s
  front_read z =
      good h rest (entry_said v 0) e (has_a_byte h p)
      (a_read (entry_good v 0 l k (omega arith) (λ _. refl)) z (says_head h 0 p d k))

  write_head : v % 2 ≡ 1 → WriteHead h
  write_head o =
      record { head = v; says = record { spelled = p; unpadded = d; value = refl }; lanes = l; small = k; write = o }

  refuse : (n : ℕ) → BadRecord (h ++ rest) n → FrontRecord s
  refuse n q = bad n (subst (λ (t : List ℕ). BadRecord t n) (sym e) q)

  with_word : v % 2 ≡ 1 → (w more : List ℕ) → rest ≡ w ++ more → Spelled w → FrontRecord s
  with_word o w more f q =
      let bad_word : (n : ℕ) → plain.BadWord w n → FrontRecord s =
      λ n x. refuse n (subst (λ (t : List ℕ). BadRecord (h ++ t) n) (sym f) (word_bad more (write_head o) q x)) in
      ⊎_elim
      (λ z. bad_word _ (plain.BadWord.padded z))
      (λ z. ⊎_elim
      (λ x. bad_word _ (plain.BadWord.over z x))
      (λ x.
      good (h ++ w) more (entry_said v (value_of w)) (e ∙ ap (λ (t : List ℕ). h ++ t) f ∙ sym (append_assoc h w more))
      (let a = has_a_byte h p in let c = length-append h w in omega arith)
      (a_write (entry_good v (value_of w) l k x (λ y. absurd (omega arith))) o (says_head h (value_of w) p d k)
      (record { spelled = q; unpadded = z; value = refl })))
      (cases_lt 65535 (value_of w)))
      (cases_eq (get_or w 0 0) 128)

  front_write : v % 2 ≡ 1 → FrontNumber rest → FrontRecord s
  front_write o (cut c) = refuse 20 (word_cut rest (write_head o) c)
  front_write o (whole w more f q) = with_word o w more f q

  front_good : FrontRecord s
  front_good =
      ⊎_elim front_read (λ z. front_write (omega (arith, z)) (front_number rest)) (cases_eq (v % 2) 0)

front_head : (s h rest : List ℕ) → s ≡ h ++ rest → Spelled h → FrontRecord s
front_head s h rest e p =
    let bad_head : (n : ℕ) → plain.BadHead h n → FrontRecord s =
    λ n x. bad n (subst (λ (t : List ℕ). BadRecord t n) (sym e) (head_bad rest p x)) in
    ⊎_elim
    (λ z. bad_head _ (plain.BadHead.padded z))
    (λ z. ⊎_elim
    (λ x. bad_head _ (plain.BadHead.over z x))
    (λ x. ⊎_elim (λ y. bad_head _ (plain.BadHead.off_lanes z y)) (λ y. front_good s h rest e p z y x) (cases_lt (value_of h) 8))
    (cases_lt 31 (value_of h)))
    (cases_eq (get_or h 0 0) 128)

front_record : (b : ℕ) (s : List ℕ) → FrontNumber (b ∷ s) → FrontRecord (b ∷ s)
front_record b s (cut c) = bad 20 (head_cut c)
front_record b s (whole h rest e p) = front_head (b ∷ s) h rest e p

-- ---- a whole string

-- a string that is good records, or good records and then a bad one
pub data Divided (s : List ℕ) : Type 0 where
  all_good : (es : List Entry) → Sound s es → Divided s
  then_bad : (es : List Entry) (t u : List ℕ) (n : ℕ) → s ≡ t ++ u → Sound t es → BadRecord u n → Divided s

one_record : (s r rest : List ℕ) (e : Entry) → s ≡ r ++ rest → GoodRecord r e → Divided rest → Divided s
one_record s r rest e q g (all_good es x) = all_good (e ∷ es) (subst (λ (t : List ℕ). Sound t (e ∷ es)) (sym q) (and_more g x))
one_record s r rest e q g (then_bad es t u n f x y) =
    then_bad (e ∷ es) (r ++ t) u n (q ∙ ap (λ (l : List ℕ). r ++ l) f ∙ sym (append_assoc r t u)) (and_more g x) y

-- the rest of a string is shorter
go_on : (fuel : ℕ) → ((t : List ℕ) → length t ≤ fuel → Divided t) → (s : List ℕ) → length s ≤ suc fuel → FrontRecord s → Divided s
go_on fuel rec s h (bad n q) = then_bad [] [] s n refl nothing q
go_on fuel rec s h (good r rest e q l g) =
    let k = ap length q ∙ length-append r rest in
    one_record s r rest e q g (rec rest (omega arith))

divide : (fuel : ℕ) (s : List ℕ) → length s ≤ fuel → Divided s
divide zero [] h = all_good [] nothing
divide zero (b ∷ s) h = absurd (omega arith)
divide (suc fuel) [] h = all_good [] nothing
divide (suc fuel) (b ∷ s) h = go_on fuel (λ t k. divide fuel t k) (b ∷ s) h (front_record b s (front_number (b ∷ s)))

-- Every string is good records, or good records and then a bad one.
pub divided : (s : List ℕ) → Divided s
divided s = divide (length s) s (omega arith)

-- Good records behind good records are good records.
pub sound_joined : {t v : List ℕ} {es fs : List Entry} → Sound t es → Sound v fs → Sound (t ++ v) (es ++ fs)
sound_joined nothing q = q
sound_joined {v = v} {fs = fs} (and_more {r} {s} {e} {es} g p) q =
    subst (λ (l : List ℕ). Sound l (e ∷ es ++ fs)) (sym (append_assoc r s v)) (and_more g (sound_joined p q))
