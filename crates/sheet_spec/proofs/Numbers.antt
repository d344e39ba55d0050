-- Demand 1 for sheets: the number of a sheet is v exactly if the memory, the rule, the time, the list, INCR and the table say so
-- (`Verdict`), for each v.
-- A verdict's conditions decide every test on the way to the number; and one verdict or another always holds.
use Prim.Native.Nat.{ℕ, suc, ◌+◌, ◌^◌, ◌<◌, ◌≤◌}
use native.Mathlib.Omega.{arith}
use mathlib.Core.Path.{◌≡◌, sym, ap, ◌∙◌, subst}
use mathlib.Core.Bool.{true, false, cond}
use mathlib.Core.List.{List}
use mathlib.Core.Logic.{⊎_elim, ◌↔◌, ◌≢◌}
use lib.ListN.{length, drop}
use borrow.Author.Tests.{lt-ltb, le-ltb}
use Rattle.words.specs.Addresses.{word_at}
use Rattle.words.specs.declared.BitAddress.{BitAddress}
use Rattle.std.proofs.lemmas.Bool.{cases_Bool, cases_eq, cases_lt}
use Rattle.control.specs.Control.{incr}
use Rattle.port_spec.specs.Sequences.{Machine}
use Rattle.port_spec.specs.Table.{Memory, Lies}
use Rattle.sheet_spec.specs.InPlainWords.{PassedIn, KnownRule, InRange, Begins, count_word, Rises, Falls, Complete}
use Rattle.sheet_spec.specs.InPlainWords.{Verdict, too_long, no_such_rule, no_such_time, list_short, not_stepping}
use Rattle.sheet_spec.specs.InPlainWords.{count_missed, count_wrong, tick_missed, not_rising, passes}
use Rattle.sheet_spec.specs.Reading.{whole, any_hollow, rising}
use Rattle.sheet_spec.specs.Sheet.{unknown_rule, out_of_range, strokes_of, refusal_before, ticks_refusal, number_before}
use Rattle.sheet_spec.specs.Sheet.{heard, ticks_heard, read_number, read_sheet, sheet_of}
use Rattle.sheet_spec.specs.declared.Sheet.{Sheet}
use Rattle.sheet_spec.specs.declared.TimeStruck.{TimeStruck}
use Rattle.sheet_spec.proofs.Begun.{begun}
use Rattle.sheet_spec.proofs.Heard.{count_missed_says, count_wrong_says, count_right_says, tick_missed_says}
use Rattle.sheet_spec.proofs.Heard.{ticks_held, tick_told, ticks_count}
use Rattle.sheet_spec.proofs.Range.{accepted_time, time_accepted, refused_time, time_refused}
use Rattle.sheet_spec.proofs.Rule.{accepted_rule, rule_accepted, refused_rule, rule_refused}
use Rattle.sheet_spec.proofs.Rising.{rises, falls}
use Rattle.sheet_spec.proofs.Taken.{sheet_begun, sheet_barred}

-- ---- ticks that the reader is told, against the table
module _ (s : Machine) (k : Memory s.memory) (i : incr s.registers.control ≡ true) (a : BitAddress) (h : a.0 < 2 ^ 32) (n : ℕ)
    (l : Lies s.memory a (suc n)) where
  abbrev ticks : List ℕ
  ticks = ticks_heard whole s a n

  they_rise : rising ticks ≡ true → Rises s.memory a n
  they_rise e j q =
      rw (sym (tick_told s k i a h n l j (omega arith)), sym (tick_told s k i a h n l (suc j) q))
      (rises ticks e j (rw (ticks_count s k i a h n l) q))

  they_fall : rising ticks ≡ false → Falls s.memory a n
  they_fall e =
      let f = falls ticks e in
      let q = rw (ticks_count s k i a h n l) at f.1 in
      (f.0, q, rw (tick_told s k i a h n l f.0 (omega arith), tick_told s k i a h n l (suc f.0) q) at f.2)

  not_both : Rises s.memory a n → Falls s.memory a n → ⊥
  not_both r f = let x = r f.0 f.1 in omega (arith, f.2)

  -- The ticks of a table that lies in memory are found to rise if each lies after the one before it.
  pub found_rising : Rises s.memory a n → rising ticks ≡ true
  found_rising r = ⊎_elim (λ e. e) (λ e. absurd (not_both r (they_fall e))) (cases_Bool (rising ticks))

  -- The ticks of a table that lies in memory are found not to rise if one does not lie after the one before it.
  pub found_falling : Falls s.memory a n → rising ticks ≡ false
  found_falling f = ⊎_elim (λ e. absurd (not_both (they_rise e) f)) (λ e. e) (cases_Bool (rising ticks))

-- ---- any sheet
module _ (s : Machine) (a : BitAddress) (p : PassedIn s a) (rule : ℕ) (t : TimeStruck) (room : ℕ) where
  abbrev number : ℕ
  number = (sheet_of whole s a rule t room).number

  abbrev n : ℕ
  n = strokes_of rule t

  barred : (v : ℕ) → v ≢ 0 → number_before s rule t room ≡ v → number ≡ v
  barred v d e = ap (λ (o : Sheet). o.number) (sheet_barred whole s a rule t room (λ z. d (sym e ∙ z))) ∙ e

  begun_number : Begins s rule t room → number ≡ read_number whole s a n
  unfolding read_sheet
  begun_number b = ap (λ (o : Sheet). o.number) (sheet_begun whole s a rule t room (begun s rule t room b))

  -- A sheet that is begun has a memory of words, at most 32,768 of them.
  pub good_memory : Begins s rule t room → Memory s.memory
  good_memory b = record { size = b.size; words = p.words }

  -- ---- a verdict says the number
  says_missed : Begins s rule t room → length s.memory ≤ (word_at a).0 → number ≡ 42
  unfolding read_number
  says_missed b h = begun_number b ∙ rw (count_missed_says s (good_memory b) b.steps a p.address n h)

  says_wrong : Begins s rule t room → (word_at a).0 < length s.memory → count_word s.memory a ≢ n → number ≡ 43
  unfolding read_number
  says_wrong b h d = begun_number b ∙ rw (count_wrong_says s (good_memory b) b.steps a p.address n h d)

  -- the count is right: the ticks decide
  counted : (b : Begins s rule t room) → (word_at a).0 < length s.memory → count_word s.memory a ≡ n →
      number ≡ ticks_refusal (any_hollow (drop 1 (heard whole s a n))) (ticks_heard whole s a n)
  unfolding read_number
  counted b h e = begun_number b ∙ rw (count_right_says s (good_memory b) b.steps a p.address n h e)

  says_tick_missed : (b : Begins s rule t room) → (word_at a).0 < length s.memory → count_word s.memory a ≡ n →
      length s.memory < (word_at a).0 + suc n → number ≡ 42
  unfolding ticks_refusal
  says_tick_missed b h e l = counted b h e ∙ rw (tick_missed_says s (good_memory b) b.steps a p.address n h l)

  complete : (b : Begins s rule t room) → (c : Complete s.memory a n) → number ≡ cond (rising (ticks_heard whole s a n)) 0 44
  unfolding ticks_refusal
  complete b c =
      counted b (omega (arith, c.lies)) c.count ∙ rw (ticks_held s (good_memory b) b.steps a p.address n c.lies)

  says_falling : (b : Begins s rule t room) → (c : Complete s.memory a n) → Falls s.memory a n → number ≡ 44
  says_falling b c f = complete b c ∙ rw (found_falling s (good_memory b) b.steps a p.address n c.lies f)

  says_passed : (b : Begins s rule t room) → (c : Complete s.memory a n) → Rises s.memory a n → number ≡ 0
  says_passed b c r = complete b c ∙ rw (found_rising s (good_memory b) b.steps a p.address n c.lies r)

  says : (v : ℕ) → Verdict s a rule t room v → number ≡ v
  unfolding refusal_before
  says _ (too_long h) = barred 1 (λ e. omega arith) (rw (lt-ltb _ _ h))
  says _ (no_such_rule h u) = barred 45 (λ e. omega arith) (rw (le-ltb _ _ h, rule_refused rule u))
  says _ (no_such_time h u o) = barred 40 (λ e. omega arith) (rw (le-ltb _ _ h, rule_accepted rule u, time_refused t o))
  says _ (list_short h u r f) =
      barred 41 (λ e. omega arith) (rw (le-ltb _ _ h, rule_accepted rule u, time_accepted t r, lt-ltb _ _ f))
  says _ (not_stepping h u r f i) =
      barred 46 (λ e. omega arith) (rw (le-ltb _ _ h, rule_accepted rule u, time_accepted t r, le-ltb _ _ f, i))
  says _ (count_missed b h) = says_missed b h
  says _ (count_wrong b h d) = says_wrong b h d
  says _ (tick_missed b h e l) = says_tick_missed b h e l
  says _ (not_rising b c f) = says_falling b c f
  says _ (passes b c r) = says_passed b c r

  -- ---- one or another always holds
  abbrev Some : Type 0
  Some = (v : ℕ) × Verdict s a rule t room v

  with_table : (b : Begins s rule t room) → Complete s.memory a n → Some
  with_table b c =
      ⊎_elim
      (λ e. (0, passes b c (they_rise s (good_memory b) b.steps a p.address n c.lies e)))
      (λ e. (44, not_rising b c (they_fall s (good_memory b) b.steps a p.address n c.lies e)))
      (cases_Bool (rising (ticks_heard whole s a n)))

  with_count : (b : Begins s rule t room) → (word_at a).0 < length s.memory → count_word s.memory a ≡ n → Some
  with_count b h e =
      ⊎_elim
      (λ l. (42, tick_missed b h e l))
      (λ l. with_table b (record { lies = l; count = e }))
      (cases_lt (length s.memory) ((word_at a).0 + suc n))

  with_port : Begins s rule t room → Some
  with_port b =
      ⊎_elim
      (λ h. ⊎_elim (with_count b h) (λ d. (43, count_wrong b h d)) (cases_eq (count_word s.memory a) n))
      (λ h. (42, count_missed b h))
      (cases_lt (word_at a).0 (length s.memory))

  with_time : length s.memory ≤ 32768 → KnownRule rule → InRange t → Some
  with_time h u r =
      ⊎_elim
      (λ f. (41, list_short h u r f))
      (λ f. ⊎_elim (λ i. with_port (record { size = h; known = u; time = r; fits = f; steps = i })) (λ i. (46, not_stepping h u r f i))
      (cases_Bool (incr s.registers.control)))
      (cases_lt room n)

  with_rule : length s.memory ≤ 32768 → KnownRule rule → Some
  with_rule h u =
      ⊎_elim (λ o. (40, no_such_time h u (refused_time t o))) (λ o. with_time h u (accepted_time t o)) (cases_Bool (out_of_range t))

  some : Some
  some =
      ⊎_elim
      (λ h. (1, too_long h))
      (λ h. ⊎_elim (λ u. (45, no_such_rule h (refused_rule rule u))) (λ u. with_rule h (accepted_rule rule u))
      (cases_Bool (unknown_rule rule)))
      (cases_lt 32768 (length s.memory))

  -- The number of a sheet is v exactly if v's row of the table of refusals holds, or for 0 none of them: the rows go by the memory, the
  -- rule, the time, the list, INCR and the table as it lies in memory (`Verdict`).
  pub numbered : (v : ℕ) → number ≡ v ↔ Verdict s a rule t room v
  numbered v = (λ e. subst (Verdict s a rule t room) (sym (says some.0 some.1) ∙ e) some.1, says v)
