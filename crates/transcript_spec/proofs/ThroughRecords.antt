-- How the reader goes through a record, good or bad, in plain words: a good one adds its entry, and the next begins; a bad one leaves its
-- refusal, and where it begins.
use Prim.Native.Nat.{ℕ, ◌+◌, ◌%◌, ◌≤◌}
use native.Mathlib.Nat.{add-zero, add_assoc}
use native.Mathlib.Omega.{arith}
use mathlib.Core.Path.{◌≡◌, refl, sym, ap, ◌∙◌, subst}
use mathlib.Core.Bool.{Bool, cond}
use mathlib.Core.List.{List, [], ◌∷◌, ◌++◌, append_assoc, append-nil}
use mathlib.Core.Logic.{◌≢◌}
use lib.ListN.{length, length-append}
use lib.Seq.{append_snoc}
use borrow.Author.Tests.{eq-eqb, ne_eqb}
use Rattle.transcript_spec.specs.Format.{head_of}
use Rattle.transcript_spec.specs.InPlainWords.{Continued, Spells, Good, GoodRecord, a_read, a_write}
use Rattle.transcript_spec.specs.InPlainWords.{Sound, nothing, and_more, BadHead, BadWord}
use Rattle.transcript_spec.specs.InPlainWords.{BadRecord, head_cut, head_bad, word_cut, word_bad}
use Rattle.transcript_spec.specs.InPlainWords as plain
use Rattle.transcript_spec.specs.Reading.{none, grown, entry_said, head_read, word_read, fresh, Reading, at, fed, feeds, ended}
use Rattle.transcript_spec.specs.declared.Entry.{Entry}
use Rattle.transcript_spec.specs.declared.Part.TheVariants.{Head, Word}
use Rattle.transcript_spec.specs.declared.Step.{Step}
use Rattle.transcript_spec.specs.declared.Step.TheVariants.{Goes, Whole, Bad}
use Rattle.transcript_spec.proofs.NumberRead.{grown_by, is_begun}
use Rattle.transcript_spec.proofs.ReadingOn.{stays_refused}
use Rattle.transcript_spec.proofs.ThroughNumbers.{adds, reads_number, head_rule, word_rule}
use Rattle.transcript_spec.proofs.Judged.{head_refused, word_refused, head_accepted, word_accepted, head_range, head_kind, head_back}

-- a reading that stands between two records
abbrev pub between : List Entry → ℕ → Reading
between got i = at got i i fresh 0

-- ---- a head
module _ (got : List Entry) (i : ℕ) (h : List ℕ) where
  -- A good even head is a whole record.
  whole_read : (v : ℕ) (rest : List ℕ) → Spells h v → 8 ≤ v → v ≤ 31 → v % 2 ≡ 0 →
      feeds (between got i) (h ++ rest) ≡ feeds (between (got ++ (entry_said v 0 ∷ [])) (i + length h)) rest
  whole_read v rest q l m z =
      reads_number Head head_read head_rule got i i h rest q.spelled
      ∙ ap (λ (t : Step). feeds (fed got i (i + length h) t) rest)
      (head_accepted h v q l m ∙ ap (λ (t : Bool). cond t (Whole (entry_said v 0)) (Goes (Word v none))) (eq-eqb (v % 2) 0 z))

  -- A good odd head calls for a word.
  write_begun : (v : ℕ) (rest : List ℕ) → Spells h v → 8 ≤ v → v ≤ 31 → v % 2 ≡ 1 →
      feeds (between got i) (h ++ rest) ≡ feeds (at got i (i + length h) (Word v none) 0) rest
  write_begun v rest q l m o =
      reads_number Head head_read head_rule got i i h rest q.spelled
      ∙ ap (λ (t : Step). feeds (fed got i (i + length h) t) rest)
      (head_accepted h v q l m
      ∙ ap (λ (t : Bool). cond t (Whole (entry_said v 0)) (Goes (Word v none))) (ne_eqb (v % 2) 0 (λ z. omega arith)))

-- ---- a good record
module _ (got : List Entry) (i : ℕ) where
  good_read : (s rest : List ℕ) (e : Entry) → Good e → e.kind ≡ 0 → Spells s (head_of e) →
      feeds (between got i) (s ++ rest) ≡ feeds (between (got ++ (e ∷ [])) (i + length s)) rest
  good_read s rest e g k q =
      let r = head_range e g in
      let same : entry_said (head_of e) 0 ≡ e = ap (entry_said (head_of e)) (sym (g.read k)) ∙ head_back e g in
      whole_read got i s (head_of e) rest q r.0 r.1 (head_kind e g ∙ k)
      ∙ ap (λ (x : Entry). feeds (between (got ++ (x ∷ [])) (i + length s)) rest) same

  good_write : (h w rest : List ℕ) (e : Entry) → Good e → e.kind ≡ 1 → Spells h (head_of e) → Spells w e.word →
      feeds (between got i) ((h ++ w) ++ rest) ≡ feeds (between (got ++ (e ∷ [])) (i + length (h ++ w))) rest
  good_write h w rest e g k q p =
      let r = head_range e g in
      let v = head_of e in
      ap (feeds (between got i)) (append_assoc h w rest)
      ∙ write_begun got i h v (w ++ rest) q r.0 r.1 (head_kind e g ∙ k)
      ∙ reads_number (Word v) (word_read v) (word_rule v) got i (i + length h) w rest p.spelled
      ∙ ap (λ (t : Step). feeds (fed got i (i + length h + length w) t) rest) (word_accepted w e.word p v g.word)
      ∙ ap (λ (x : Entry). feeds (between (got ++ (x ∷ [])) (i + length h + length w)) rest) (head_back e g)
      ∙ ap (λ (j : ℕ). feeds (between (got ++ (e ∷ [])) j) rest)
      (add_assoc i (length h) (length w) ∙ ap (λ (n : ℕ). i + n) (sym (length-append h w)))

  -- A good record adds its entry, and the next one begins.
  pub adds_entry : (s rest : List ℕ) (e : Entry) → GoodRecord s e →
      feeds (between got i) (s ++ rest) ≡ feeds (between (got ++ (e ∷ [])) (i + length s)) rest
  adds_entry _ rest e (a_read {s} g k q) = good_read s rest e g k q
  adds_entry _ rest e (a_write {h} {w} g k q p) = good_write h w rest e g k q p

-- Good records one after another add their entries.
pub adds_entries : (got : List Entry) (i : ℕ) (s rest : List ℕ) (es : List Entry) → Sound s es →
    feeds (between got i) (s ++ rest) ≡ feeds (between (got ++ es) (i + length s)) rest
adds_entries got i _ rest _ nothing =
    ap (λ (l : List Entry). feeds (between l i) rest) (sym (append-nil got))
    ∙ ap (λ (j : ℕ). feeds (between (got ++ []) j) rest) (sym (add-zero i))
adds_entries got i _ rest _ (and_more {r} {s} {e} {es} g q) =
    ap (feeds (between got i)) (append_assoc r s rest)
    ∙ adds_entry got i r (s ++ rest) e g
    ∙ adds_entries (got ++ (e ∷ [])) (i + length r) s rest es q
    ∙ ap (λ (l : List Entry). feeds (between l (i + length r + length s)) rest) (append_snoc got e es)
    ∙ ap (λ (j : ℕ). feeds (between (got ++ e ∷ es) j) rest)
    (add_assoc i (length r) (length s) ∙ ap (λ (n : ℕ). i + n) (sym (length-append r s)))

-- ---- a bad record
-- what a bad record leaves, after the good ones
pub record Stopped (got : List Entry) (i n : ℕ) (a : Reading) : Type 0 where
  pub refusal : ended a ≡ n
  pub entries : a.got ≡ got
  pub place : a.from ≡ i
  pub refuses : n ≢ 0

module _ (got : List Entry) (i : ℕ) where
  stops : (j n : ℕ) (rest : List ℕ) → n ≢ 0 → Stopped got i n (feeds (fed got i j (Bad n)) rest)
  stops j n rest d =
      subst (Stopped got i n) (sym (stays_refused (fed got i j (Bad n)) rest d))
      (record {
        refusal = ap (λ (t : Bool). cond t 0 n) (ne_eqb n 0 d);
        entries = refl;
        place = refl;
        refuses = d;
      })

  head_number : (h : List ℕ) (n : ℕ) → BadHead h n → n ≢ 0
  head_number h n (plain.BadHead.padded q) e = omega arith
  head_number h n (plain.BadHead.over q k) e = omega arith
  head_number h n (plain.BadHead.off_lanes q k) e = omega arith

  word_number : (w : List ℕ) (n : ℕ) → BadWord w n → n ≢ 0
  word_number w n (plain.BadWord.padded q) e = omega arith
  word_number w n (plain.BadWord.over q k) e = omega arith

  cut_head : (b : ℕ) (s : List ℕ) → Continued (b ∷ s) → Stopped got i 20 (feeds (between got i) (b ∷ s))
  unfolding feeds grown_by
  cut_head b s c =
      subst (Stopped got i 20)
      (sym (ap (feeds (between got i)) (sym (append-nil (b ∷ s))) ∙ adds Head head_read head_rule got i i none (b ∷ s) [] c))
      (record {
        refusal = ap (λ (t : Bool). cond t 20 0) (is_begun (grown none b) s refl);
        entries = refl;
        place = refl;
        refuses = λ e. omega arith;
      })

  cut_word : (j v : ℕ) (s : List ℕ) → Continued s → Stopped got i 20 (feeds (at got i j (Word v none) 0) s)
  unfolding feeds
  cut_word j v s c =
      subst (Stopped got i 20)
      (sym (ap (feeds (at got i j (Word v none) 0)) (sym (append-nil s)) ∙ adds (Word v) (word_read v) (word_rule v) got i j none s [] c))
      (record { refusal = refl; entries = refl; place = refl; refuses = λ e. omega arith })

  -- A bad record stops the reader: its refusal, its place, and the entries before it.
  pub stops_at : (s : List ℕ) (n : ℕ) → BadRecord s n → Stopped got i n (feeds (between got i) s)
  stops_at _ _ (head_cut {b} {s} c) = cut_head b s c
  stops_at _ n (head_bad {h} s p q) =
      subst (Stopped got i n)
      (sym (reads_number Head head_read head_rule got i i h s p ∙ ap (λ (t : Step). feeds (fed got i (i + length h) t) s)
      (head_refused h p n q)))
      (stops (i + length h) n s (head_number h n q))
  stops_at _ _ (word_cut {h} s p c) =
      subst (Stopped got i 20)
      (sym (write_begun got i h p.head s p.says p.lanes p.small p.write))
      (cut_word (i + length h) p.head s c)
  stops_at _ n (word_bad {h} {w} s p r q) =
      let v = p.head in
      subst (Stopped got i n)
      (sym (write_begun got i h v (w ++ s) p.says p.lanes p.small p.write
      ∙ reads_number (Word v) (word_read v) (word_rule v) got i (i + length h) w s r
      ∙ ap (λ (t : Step). feeds (fed got i (i + length h + length w) t) s) (word_refused w r v n q)))
      (stops (i + length h + length w) n s (word_number w n q))

-- No bad record is refused with 0.
pub bad_record_number : (s : List ℕ) (n : ℕ) → BadRecord s n → n ≢ 0
bad_record_number s n b = (stops_at [] 0 s n b).refuses
