-- Where a sheet leaves the port. Its accesses are the two writes that load the pointer and some reads, so the registers end standing as
-- many words on as were read (crate port_spec, `Handed`), and memory stays.
use Prim.Native.Nat.{ℕ, suc, ◌+◌, ◌*◌, ◌%◌, ◌^◌, ◌<◌, ◌≤◌}
use native.Mathlib.Omega.{arith}
use mathlib.Core.Path.{◌≡◌, sym, ap, ◌∙◌}
use mathlib.Core.Bool.{Bool, true, false}
use mathlib.Core.List.{List, ◌++◌}
use mathlib.Core.Logic.{◌⊎◌, inl, inr, ⊎_elim, ◌≢◌}
use lib.Dec.{eqb}
use lib.ListN.{length, take}
use borrow.Author.Tests.{eq-eqb, ne_eqb}
use Rattle.words.specs.Addresses.{word_at}
use Rattle.words.specs.declared.BitAddress.{BitAddress}
use Rattle.std.proofs.lemmas.Bool.{cases_Bool, cases_eq}
use Rattle.registers.specs.declared.Registers.{Registers}
use Rattle.port_spec.specs.Cycle.{standing}
use Rattle.port_spec.specs.Sequences.{Machine, answers, ends}
use Rattle.port_spec.specs.declared.Answer.{Answer}
use Rattle.port_spec.specs.Table.{loading, loaded, stands, reading, on_by}
use Rattle.port_spec.proofs.Handed.{on_by_gains, reads_leave}
use Rattle.port_spec.proofs.Joined.{ends_join, answers_join, reads_front}
use Rattle.sheet_spec.specs.InPlainWords.{PassedIn, Begins, count_word}
use Rattle.sheet_spec.specs.Reading.{Way, whole, table_read, rising}
use Rattle.sheet_spec.specs.Sheet.{strokes_of, count_refusal, ticks_refusal, number_before, count_number}
use Rattle.sheet_spec.specs.Sheet.{heard, words_read, made, read_number, read_sheet, sheet_of}
use Rattle.sheet_spec.specs.declared.Sheet.{Sheet}
use Rattle.sheet_spec.specs.declared.TimeStruck.{TimeStruck}
use Rattle.sheet_spec.proofs.Begun.{begun}
use Rattle.sheet_spec.proofs.Heard.{count_missed_says, count_wrong_says, count_right_says}
use Rattle.sheet_spec.proofs.Numbers.{good_memory}
use Rattle.sheet_spec.proofs.Strokes.{few_strokes}
use Rattle.sheet_spec.proofs.Taken.{sheet_begun, sheet_barred}

-- ---- refused before the port is touched

-- 42, 43 and 44 say what was read; so does 0
abbrev Late : ℕ → Type 0
Late v = (v ≡ 0) ⊎ ((42 ≤ v) × (v ≤ 44))

count_late : (n : ℕ) (hollow : Bool) (word : ℕ) → Late (count_refusal n hollow word)
unfolding count_refusal
count_late n true word = inr (omega arith, omega arith)
count_late n false word = ⊎_elim (λ e. inl (rw e)) (λ e. inr (rw e (omega arith, omega arith))) (cases_Bool (eqb word n))

ticks_late : (hollow : Bool) (ticks : List ℕ) → Late (ticks_refusal hollow ticks)
unfolding ticks_refusal
ticks_late true ticks = inr (omega arith, omega arith)
ticks_late false ticks = ⊎_elim (λ e. inl (rw e)) (λ e. inr (rw e (omega arith, omega arith))) (cases_Bool (rising ticks))

late : (w : Way) (s : Machine) (a : BitAddress) (n : ℕ) → Late (read_number w s a n)
unfolding read_number
late w s a n =
    ⊎_elim
    (λ e. rw (eq-eqb (count_number w s a n) 0 e) (ticks_late _ _))
    (λ e. rw (ne_eqb (count_number w s a n) 0 e) (count_late _ _ _))
    (cases_eq (count_number w s a n) 0)

-- Refused with 1, 45, 40, 41 or 46, that is with another number than 42 to 44, a sheet leaves the registers as they stood.
pub untouched : (w : Way) (s : Machine) (a : BitAddress) (rule : ℕ) (t : TimeStruck) (room : ℕ) →
    (sheet_of w s a rule t room).number ≢ 0 → ((sheet_of w s a rule t room).number < 42) ⊎ (44 < (sheet_of w s a rule t room).number) →
    (sheet_of w s a rule t room).registers ≡ s.registers
unfolding read_sheet
untouched w s a rule t room d out =
    ⊎_elim
    (λ e.
    let b = ap (λ (o : Sheet). o.number) (sheet_begun w s a rule t room e) in
    absurd
    (⊎_elim
    (λ z. d (b ∙ z))
    (λ r. ⊎_elim (λ x. omega (arith, b, r.0)) (λ x. omega (arith, b, r.1)) out)
    (late w s a (strokes_of rule t))))
    (λ n. ap (λ (o : Sheet). o.registers) (sheet_barred w s a rule t room n))
    (cases_eq (number_before s rule t room) 0)

-- ---- the accesses, and what is judged

no_more : (s : Machine) (a : BitAddress) (n : ℕ) → words_read whole s a n ≤ suc n
no_more s a n = ⊎_elim (λ e. rw e (omega arith)) (λ e. rw e (omega arith)) (cases_Bool (eqb (count_number whole s a n) 0))

-- What is judged is what the accesses of a sheet answer: after the two that load the pointer, one answer for each word read.
pub answers_judged : (s : Machine) (a : BitAddress) (n : ℕ) →
    answers s (made whole s a n) ≡
    answers s (loading s.registers.control a) ++ take (words_read whole s a n) (heard whole s a n)
unfolding made table_read
answers_judged s a n =
    answers_join s (loading s.registers.control a) (reading (words_read whole s a n)) ∙
    ap (λ (l : List Answer). answers s (loading s.registers.control a) ++ l)
    (reads_front (loaded s a) (words_read whole s a n) (suc n) (no_more s a n))

-- ---- begun
module _ (s : Machine) (a : BitAddress) (p : PassedIn s a) (rule : ℕ) (t : TimeStruck) (room : ℕ) (b : Begins s rule t room) where
  abbrev left : Registers
  left = (sheet_of whole s a rule t room).registers

  abbrev n : ℕ
  n = strokes_of rule t

  -- The accesses of a sheet that is begun, all of them done, leave the port standing as many words on as were read, and memory and HSTCTL
  -- as they were.
  pub accesses_leave : ends s (made whole s a n) ≡ stands s (on_by (words_read whole s a n) a)
  unfolding made
  accesses_leave =
      ends_join s (loading s.registers.control a) (reading (words_read whole s a n)) ∙
      reads_leave s (good_memory s a p rule t room b) b.steps a p.address (words_read whole s a n)

  begun_left : left ≡ standing s.memory s.registers.control (on_by (words_read whole s a n) a)
  unfolding read_sheet
  begun_left =
      ap (λ (o : Sheet). o.registers) (sheet_begun whole s a rule t room (begun s rule t room b)) ∙
      ap (λ (x : Machine). x.registers) accesses_leave

  refused_count : (length s.memory ≤ (word_at a).0) ⊎ (((word_at a).0 < length s.memory) × (count_word s.memory a ≢ n)) →
      count_number whole s a n ≢ 0
  refused_count (inl h) z =
      let e = count_missed_says s (good_memory s a p rule t room b) b.steps a p.address n h in omega (arith, sym e ∙ z)
  refused_count (inr h) z =
      let e = count_wrong_says s (good_memory s a p rule t room b) b.steps a p.address n h.0 h.1 in omega (arith, sym e ∙ z)

  -- Where the count word lies beyond memory, or says another number, that word alone has been read: a sheet that is begun leaves the port
  -- one word on.
  pub count_read : (length s.memory ≤ (word_at a).0) ⊎ (((word_at a).0 < length s.memory) × (count_word s.memory a ≢ n)) →
      (left ≡ standing s.memory s.registers.control (on_by 1 a)) × ((on_by 1 a).0 ≡ (a.0 + 16) % 2 ^ 32)
  count_read h = (begun_left ∙ rw (ne_eqb _ _ (refused_count h)), on_by_gains 1 a p.address)

  -- With the right count all ticks have been read, whatever they are: a sheet that is begun leaves the port just past the table.
  pub ticks_read : (word_at a).0 < length s.memory → count_word s.memory a ≡ n →
      (left ≡ standing s.memory s.registers.control (on_by (suc n) a)) × ((on_by (suc n) a).0 ≡ a.0 + 16 * suc n)
  ticks_read h e =
      let c = count_right_says s (good_memory s a p rule t room b) b.steps a p.address n h e in
      (begun_left ∙ rw (eq-eqb _ _ c), on_by_gains (suc n) a p.address ∙ omega (arith, b.size, (few_strokes t b.time rule).1))
