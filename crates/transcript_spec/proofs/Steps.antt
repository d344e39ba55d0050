-- What `take_byte` answers, number by number, exactly if: of a byte more of a head, and of a word. A row of `HeadAs` or `WordAs` decides
-- the numbers, and one row or another always holds, since a number goes on or is spelled, and is then bad or good.
use Prim.Native.Nat.{ℕ, ◌%◌, ◌<◌, ◌≤◌}
use native.Mathlib.Omega.{arith}
use mathlib.Core.Path.{◌≡◌, refl, sym, ap, ◌∙◌, subst}
use mathlib.Core.Bool.{Bool, cond}
use mathlib.Core.List.{List, [], ◌∷◌, ◌++◌}
use mathlib.Core.Logic.{⊎_elim, ◌↔◌}
use lib.Dec.{ltb}
use lib.ListN.{get_or}
use borrow.Author.Tests.{lt-ltb, le-ltb, eq-eqb, ne_eqb}
use Rattle.std.proofs.lemmas.Bool.{cases_eq, cases_lt}
use Rattle.transcript_spec.specs.Format.{head_of}
use Rattle.transcript_spec.specs.InNumbers.{StepNumbers, step_numbers, HeadAs, WordAs}
use Rattle.transcript_spec.specs.InNumbers as plain
use Rattle.transcript_spec.specs.InPlainWords.{Continued, Spelled, value_of, Unpadded, BadHead, BadWord}
use Rattle.transcript_spec.specs.Reading.{none, grown, entry_said, head_read, word_read, byte_taken}
use Rattle.transcript_spec.specs.declared.Entry.{Entry}
use Rattle.transcript_spec.specs.declared.Number.{Number}
use Rattle.transcript_spec.specs.declared.Part.{Part}
use Rattle.transcript_spec.specs.declared.Part.TheVariants.{Head, Word}
use Rattle.transcript_spec.specs.declared.Step.{Step}
use Rattle.transcript_spec.specs.declared.Step.TheVariants.{Goes, Whole, Bad}
use Rattle.transcript_spec.proofs.Divided.{entry_good, says_head}
use Rattle.transcript_spec.proofs.Judged.{head_refused, word_refused, head_accepted, word_accepted, head_range, head_kind, head_back}
use Rattle.transcript_spec.proofs.NumberRead.{grown_by}
use Rattle.transcript_spec.proofs.ThroughNumbers.{grown_snoc, head_rule, word_rule}

-- Where a byte makes no record whole, the entry that is told is zeros.
pub zeros_else : (x : Step) → (step_numbers x).count ≡ 0 →
    let e = (step_numbers x).entry in (e.kind ≡ 0) × (e.register ≡ 0) × (e.lanes ≡ 0) × (e.word ≡ 0)
zeros_else (Goes p) z = (refl, refl, refl, refl)
zeros_else (Whole e) z = absurd (omega (arith, z))
zeros_else (Bad n) z = (refl, refl, refl, refl)

-- ---- one byte more
continued_more : (first : List ℕ) (b : ℕ) → Continued first → 128 ≤ b → Continued (first ++ (b ∷ []))
continued_more [] b c h = (h, tt)
continued_more (x ∷ first) b c h = (c.0, continued_more first b c.1 h)

last_continued : (first : List ℕ) (b : ℕ) → Continued (first ++ (b ∷ [])) → 128 ≤ b
last_continued [] b c = c.0
last_continued (x ∷ first) b c = last_continued first b c.1

-- first: the bytes of a number that are read; b: one more
module _ (first : List ℕ) (b : ℕ) (c : Continued first) where
  abbrev s : List ℕ
  s = first ++ (b ∷ [])

  last_ends : Spelled s → b < 128
  last_ends p =
      ⊎_elim (λ h. h)
      (λ h.
      let k = last_continued p.first p.last (subst Continued p.all (continued_more first b c h)) in
      absurd (omega (arith, k, p.ends)))
      (cases_lt b 128)

  spelled : b < 128 → Spelled s
  spelled h = record { first = first; last = b; all = refl; continued = c; ends = h }

  -- K n: the part within a number n; D n: what is said of it when its last byte is there
  module _ (K : Number → Part) (D : Number → Step)
      (rule : (n : Number) (x : ℕ) → byte_taken (K n) x ≡ cond (ltb x 128) (D (grown n x)) (Goes (K (grown n x)))) where
    number_goes : 128 ≤ b → byte_taken (K (grown_by none first)) b ≡ Goes (K (grown_by none s))
    number_goes h =
        rule (grown_by none first) b
        ∙ rw (le-ltb b 128 h) (ap (λ (n : Number). Goes (K n)) (grown_snoc none first b))

    number_ends : b < 128 → byte_taken (K (grown_by none first)) b ≡ D (grown_by none s)
    number_ends h = rule (grown_by none first) b ∙ rw (lt-ltb b 128 h) (ap D (grown_snoc none first b))

  -- ---- a head
  abbrev head_step : Step
  head_step = byte_taken (Head (grown_by none first)) b

  -- of a good head, by whether it is a read's
  abbrev head_numbers : ℕ → Bool → StepNumbers
  head_numbers v t = step_numbers (cond t (Whole (entry_said v 0)) (Goes (Word v none)))

  head_says : (a : StepNumbers) → HeadAs s a → step_numbers head_step ≡ a
  head_says _ (plain.HeadAs.goes_on k) = ap step_numbers (number_goes Head head_read head_rule (last_continued first b k))
  head_says _ (plain.HeadAs.bad {n} p q) = ap step_numbers (number_ends Head head_read head_rule (last_ends p) ∙ head_refused s p n q)
  head_says _ (plain.HeadAs.of_read {e} g z q) =
      let r = head_range e g in
      let even : head_of e % 2 ≡ 0 = head_kind e g ∙ z in
      let same : entry_said (head_of e) 0 ≡ e = ap (entry_said (head_of e)) (sym (g.read z)) ∙ head_back e g in
      ap step_numbers (number_ends Head head_read head_rule (last_ends q.spelled) ∙ head_accepted s (head_of e) q r.0 r.1)
      ∙ ap (head_numbers (head_of e)) (eq-eqb (head_of e % 2) 0 even)
      ∙ ap (λ (x : Entry). step_numbers (Whole x)) same
  head_says _ (plain.HeadAs.of_write w) =
      let odd = ne_eqb (w.head % 2) 0 (λ z. omega (arith, z, w.write)) in
      ap step_numbers
      (number_ends Head head_read head_rule (last_ends w.says.spelled) ∙ head_accepted s w.head w.says w.lanes w.small)
      ∙ ap (head_numbers w.head) odd

  good_head : b < 128 → Unpadded s → 8 ≤ value_of s → value_of s ≤ 31 → (a : StepNumbers) × HeadAs s a
  good_head h d l k =
      ⊎_elim
      (λ z. (_, plain.HeadAs.of_read (entry_good (value_of s) 0 l k (omega arith) (λ _. refl)) z (says_head s 0 (spelled h) d k)))
      (λ z. (
        _,
        plain.HeadAs.of_write
            (record {
              head = value_of s;
              says = record { spelled = spelled h; unpadded = d; value = refl };
              lanes = l;
              small = k;
              write = omega (arith, z);
            }),
      ))
      (cases_eq (value_of s % 2) 0)

  some_head : (a : StepNumbers) × HeadAs s a
  some_head =
      ⊎_elim
      (λ h. ⊎_elim
      (λ z. (_, plain.HeadAs.bad (spelled h) (BadHead.padded z)))
      (λ d. ⊎_elim
      (λ k. (_, plain.HeadAs.bad (spelled h) (BadHead.over d k)))
      (λ k. ⊎_elim
      (λ l. (_, plain.HeadAs.bad (spelled h) (BadHead.off_lanes d l)))
      (λ l. good_head h d l k)
      (cases_lt (value_of s) 8))
      (cases_lt 31 (value_of s)))
      (cases_eq (get_or s 0 0) 128))
      (λ h. (_, plain.HeadAs.goes_on (continued_more first b c h)))
      (cases_lt b 128)

  -- Of a head and one byte more, the numbers of what `take_byte` answers are these exactly if their row of `HeadAs` holds: the head goes
  -- on, it is bad, it is a good one of a read, which is then whole, or a good one of a write.
  pub head_exactly : {x : Step} → x ≡ head_step → (a : StepNumbers) → step_numbers x ≡ a ↔ HeadAs s a
  head_exactly p a = (
    λ e. subst (HeadAs s) (sym (head_says some_head.0 some_head.1) ∙ ap step_numbers (sym p) ∙ e) some_head.1,
    λ w. ap step_numbers p ∙ head_says a w,
  )

  -- ---- a word
  module _ (h : ℕ) where
    abbrev word_step : Step
    word_step = byte_taken (Word h (grown_by none first)) b

    word_says : (a : StepNumbers) → WordAs h s a → step_numbers word_step ≡ a
    word_says _ (plain.WordAs.goes_on k) = ap step_numbers (number_goes (Word h) (word_read h) (word_rule h) (last_continued first b k))
    word_says _ (plain.WordAs.bad {n} p q) =
        ap step_numbers (number_ends (Word h) (word_read h) (word_rule h) (last_ends p) ∙ word_refused s p h n q)
    word_says _ (plain.WordAs.of_write {v} q k) =
        ap step_numbers (number_ends (Word h) (word_read h) (word_rule h) (last_ends q.spelled) ∙ word_accepted s v q h k)

    some_word : (a : StepNumbers) × WordAs h s a
    some_word =
        ⊎_elim
        (λ l. ⊎_elim
        (λ z. (_, plain.WordAs.bad (spelled l) (BadWord.padded z)))
        (λ d. ⊎_elim
        (λ k. (_, plain.WordAs.bad (spelled l) (BadWord.over d k)))
        (λ k. (_, plain.WordAs.of_write (record { spelled = spelled l; unpadded = d; value = refl }) k))
        (cases_lt 65535 (value_of s)))
        (cases_eq (get_or s 0 0) 128))
        (λ l. (_, plain.WordAs.goes_on (continued_more first b c l)))
        (cases_lt b 128)

    -- Of a word and one byte more, behind the head h, the numbers of what `take_byte` answers are these exactly if their row of `WordAs`
    -- holds: the word goes on, it is bad, or it is good, and its write whole.
    pub word_exactly : {x : Step} → x ≡ word_step → (a : StepNumbers) → step_numbers x ≡ a ↔ WordAs h s a
    word_exactly p a = (
      λ e. subst (WordAs h s) (sym (word_says some_word.0 some_word.1) ∙ ap step_numbers (sym p) ∙ e) some_word.1,
      λ w. ap step_numbers p ∙ word_says a w,
    )
