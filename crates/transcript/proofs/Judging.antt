-- What judging a list finds, entry by entry; and the writer's answer by what it finds.
use Prim.Native.Nat.{ℕ, suc, ◌+◌}
use native.Mathlib.Nat.{add-zero, add_assoc}
use mathlib.Core.Path.{◌≡◌, refl, sym, ap, ◌∙◌}
use mathlib.Core.List.{List, [], ◌∷◌}
use mathlib.Core.Logic.{⊎_elim, ◌≢◌}
use lib.ListN.{length, length-append}
use borrow.Author.Tests.{eq-eqb, ne_eqb}
use Rattle.std.proofs.lemmas.Bool.{cases_eq}
use Rattle.std.specs.Prelude.{Result, Ok, Err}
use Rattle.words.specs.Refusals.{refusal_number}
use Rattle.words.specs.declared.refusals.Refusal.{Refusal}
use Rattle.transcript_spec.specs.Format.{record_of, transcript_of}
use Rattle.transcript_spec.specs.InPlainWords.{AllGood}
use Rattle.transcript_spec.specs.Writing.{entry_refusal, refused, first_bad}
use Rattle.transcript_spec.specs.declared.Entry.{Entry}
use Rattle.transcript_spec.specs.declared.Transcribed.{Transcribed}
use Rattle.transcript_spec.proofs.WrittenExactly.{passes_good}
use Rattle.transcript.specs.Entries.{JudgedEntry, judged_entry, entry_numbers}
use Rattle.transcript.specs.WriterParts.{Judged, judged}

-- what judging finds: a number, the index of the entry that has it, and how many bytes are wanted
abbrev pub found : ℕ → ℕ → ℕ → Judged
found number place wanted = record { number = number; place = place; wanted = wanted }

-- ---- what is said of one entry

-- what is said of one entry: its number, and how many bytes its record has
abbrev pub said : ℕ → ℕ → JudgedEntry
said number size = record { number = number; size = size }

module _ (e : Entry) {number : ℕ} (is : number ≡ entry_refusal e) where
  -- Of an entry that is refused, its number and no bytes are what is said.
  pub said_refused : number ≢ 0 → said number 0 ≡ judged_entry e
  unfolding judged_entry
  said_refused d = rw (ne_eqb (entry_refusal e) 0 (λ z. d (is ∙ z))) (ap (λ (n : ℕ). said n 0) is)

  -- Of an entry that is not refused, 0 and the bytes of its record are what is said.
  pub said_good : number ≡ 0 → {size : ℕ} → size ≡ length (record_of e) → said number size ≡ judged_entry e
  unfolding judged_entry
  said_good z {size} long =
      rw (eq-eqb (entry_refusal e) 0 (sym is ∙ z)) (ap (λ (n : ℕ). said n size) is ∙ ap (said (entry_refusal e)) long)

module _ (e : Entry) (o : Result ℕ Refusal) (is : entry_numbers o ≡ judged_entry e) where
  -- The number that is said of an entry is its refusal, or 0.
  pub number_said : (entry_numbers o).number ≡ entry_refusal e
  unfolding judged_entry
  number_said = ap (λ (x : JudgedEntry). x.number) is

  -- An answer that is a refusal is that of the entry, with its number.
  pub refusal_said : {r : Refusal} → o ≡ Err r → refusal_number r ≡ entry_refusal e
  refusal_said q = ap (λ (x : Result ℕ Refusal). (entry_numbers x).number) (sym q) ∙ number_said

  -- An answer that is no refusal says that the entry has none.
  pub none_said : {n : ℕ} → o ≡ Ok n → entry_refusal e ≡ 0
  none_said q = sym number_said ∙ ap (λ (x : Result ℕ Refusal). (entry_numbers x).number) q

  -- The size that is said is that of the entry's record.
  pub size_said : {n : ℕ} → o ≡ Ok n → n ≡ length (record_of e)
  unfolding judged_entry
  size_said q =
      ap (λ (x : Result ℕ Refusal). (entry_numbers x).size) (sym q)
      ∙ ap (λ (x : JudgedEntry). x.size) is ∙ rw (eq-eqb (entry_refusal e) 0 (none_said q)) refl

-- ---- one entry of a list
module _ (k wanted : ℕ) (e : Entry) (rest : List Entry) where
  -- A good entry has the others judged, with the bytes of its record counted.
  pub good_one : entry_refusal e ≡ 0 → judged k wanted (e ∷ rest) ≡ judged (suc k) (wanted + length (record_of e)) rest
  unfolding judged
  good_one z = rw (eq-eqb (entry_refusal e) 0 z)

  -- A bad entry is what is found, with its number and its index.
  pub bad_one : entry_refusal e ≢ 0 → judged k wanted (e ∷ rest) ≡ found (entry_refusal e) k 0
  unfolding judged
  bad_one d = rw (ne_eqb (entry_refusal e) 0 d)

-- ---- a whole list
-- what is so of entries none of which is bad, the first of them with index k and behind so many bytes wanted
pub record Passed (k wanted : ℕ) (es : List Entry) : Type 0 where
  pub good : AllGood es
  pub wants : (judged k wanted es).wanted ≡ wanted + length (transcript_of es)
  pub answer : (a : Transcribed) → first_bad k es a ≡ a

-- Where no entry is found to be bad, all are good, the bytes of their records are counted to the last, and the writer answers what it does
-- where none is bad.
pub passed : (k wanted : ℕ) (es : List Entry) → (judged k wanted es).number ≡ 0 → Passed k wanted es
unfolding judged transcript_of first_bad
passed k wanted [] z = record { good = tt; wants = sym (add-zero wanted); answer = λ a. refl }
passed k wanted (e ∷ rest) z =
    ⊎_elim
    (λ g.
    let on = good_one k wanted e rest g in
    let p = passed (suc k) (wanted + length (record_of e)) rest (rw on at z) in
    record {
      good = (passes_good e g, p.good);
      wants =
          ap (λ (o : Judged). o.wanted) on ∙
          p.wants ∙
          add_assoc wanted (length (record_of e)) (length (transcript_of rest)) ∙
          ap (λ (n : ℕ). wanted + n) (sym (length-append (record_of e) (transcript_of rest)));
      answer = λ a. rw (eq-eqb (entry_refusal e) 0 g) (p.answer a);
    })
    (λ d. absurd (d (rw (bad_one k wanted e rest d) at z)))
    (cases_eq (entry_refusal e) 0)

-- Where an entry is found to be bad, the writer's answer is its number and its index.
pub barred : (k wanted : ℕ) (es : List Entry) → let o = judged k wanted es in o.number ≢ 0 →
    (a : Transcribed) → first_bad k es a ≡ refused o.number o.place
unfolding judged first_bad
barred k wanted [] d a = absurd (d refl)
barred k wanted (e ∷ rest) d a =
    ⊎_elim
    (λ g.
    let yes = eq-eqb (entry_refusal e) 0 g in
    rw yes (barred (suc k) (wanted + length (record_of e)) rest (λ z. d (rw (good_one k wanted e rest g) z)) a))
    (λ b. rw (ne_eqb (entry_refusal e) 0 b))
    (cases_eq (entry_refusal e) 0)
