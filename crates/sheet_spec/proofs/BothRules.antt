-- The two rules beside each other: "For a time with quarters 0, a table passes under both or neither." Document 02, request (ix).
-- Without quarters both rules count the same strokes, and nothing else of a sheet goes by the rule but the rule that it shows. With
-- quarters the counts differ, and a table has one count.
use Prim.Native.Nat.{ℕ, ◌≤◌, ◌<◌}
use native.Mathlib.Omega.{arith}
use mathlib.Core.Path.{◌≡◌, refl, sym, ap, ◌∙◌}
use mathlib.Core.List.{List}
use mathlib.Core.Logic.{inl, inr, ⊎_elim, ◌↔◌, ◌≢◌}
use lib.Ieee.{Float}
use lib.ListN.{length}
use borrow.Author.Tests.{eq-eqb, ne_eqb, lt-ltb, le-ltb}
use Rattle.words.specs.declared.BitAddress.{BitAddress}
use Rattle.std.proofs.lemmas.Bool.{cases_eq}
use Rattle.registers.specs.declared.Registers.{Registers}
use Rattle.port_spec.specs.Sequences.{Machine}
use Rattle.sheet_spec.specs.InPlainWords.{Begins}
use Rattle.sheet_spec.specs.Reading.{Way, whole}
use Rattle.sheet_spec.specs.Sheet.{unknown_rule, strokes_of, refusal_before, number_before, read_number, read_sheet, refused_sheet}
use Rattle.sheet_spec.specs.Sheet.{sheet_of, list_after}
use Rattle.sheet_spec.specs.declared.Sheet.{Sheet}
use Rattle.sheet_spec.specs.declared.TimeStruck.{TimeStruck}
use Rattle.sheet_spec.proofs.Begun.{begun}
use Rattle.sheet_spec.proofs.CountWord.{wrong_count, right_count}
use Rattle.sheet_spec.proofs.Range.{time_accepted}
use Rattle.sheet_spec.proofs.Rule.{rule_accepted}
use Rattle.sheet_spec.proofs.Strokes.{no_quarters, quarters_tell}
use Rattle.sheet_spec.proofs.Taken.{passed_begins, sheet_begun, sheet_barred}

-- ---- a time with quarters 0

-- The sheet o, by rule 1, and the sheet p, by rule 2, differ in the rule shown alone, and only if they pass.
pub record RuleAlone (o p : Sheet) : Type 0 where
  pub number : o.number ≡ p.number
  pub strokes : o.strokes ≡ p.strokes
  pub registers : o.registers ≡ p.registers
  pub passed : o.number ≡ 0 → (o.rule ≡ 1) × (p.rule ≡ 2)
  pub refused : o.number ≢ 0 → (o.rule ≡ 0) × (p.rule ≡ 0)

refused_alike : (v : ℕ) → v ≢ 0 → (r : Registers) → RuleAlone (refused_sheet v r) (refused_sheet v r)
refused_alike v d r =
    record { number = refl; strokes = refl; registers = refl; passed = λ z. absurd (d z); refused = λ x. (refl, refl) }

module _ (w : Way) (s : Machine) (a : BitAddress) where
  read_alike : (n : ℕ) → RuleAlone (read_sheet w s a n 1) (read_sheet w s a n 2)
  unfolding read_sheet
  read_alike n =
      record {
        number = refl;
        strokes = refl;
        registers = refl;
        passed = λ z. rw (eq-eqb (read_number w s a n) 0 z) (refl, refl);
        refused = λ d. rw (ne_eqb (read_number w s a n) 0 d) (refl, refl);
      }

  module _ (t : TimeStruck) (e : t.quarters ≡ 0) where
    judged_alike : (room : ℕ) → number_before s 1 t room ≡ number_before s 2 t room
    unfolding refusal_before unknown_rule
    judged_alike room = rw (no_quarters t e)

    -- For a time with quarters 0, whatever the memory, the registers, the table and the list, the sheets by rule 1 and by rule 2 have the
    -- same number, strokes and registers; they show 1 and 2 if they pass, and 0 both if they are refused.
    pub rule_alone : (room : ℕ) → RuleAlone (sheet_of w s a 1 t room) (sheet_of w s a 2 t room)
    rule_alone room =
        ⊎_elim
        (λ z.
        let one = sheet_begun w s a 1 t room z in
        let two = sheet_begun w s a 2 t room (sym (judged_alike room) ∙ z) in
        rw (one, two, sym (no_quarters t e)) (read_alike (strokes_of 1 t)))
        (λ d.
        let one = sheet_barred w s a 1 t room d in
        let two = sheet_barred w s a 2 t room (λ z. d (judged_alike room ∙ z)) in
        rw (one, two, sym (judged_alike room)) (refused_alike (number_before s 1 t room) d s.registers))
        (cases_eq (number_before s 1 t room) 0)

    -- For a time with quarters 0, a table passes under both rules or under neither.
    pub both_or_neither : (room : ℕ) → (sheet_of w s a 1 t room).number ≡ 0 ↔ (sheet_of w s a 2 t room).number ≡ 0
    both_or_neither room =
        let same = (rule_alone room).number in
        (λ z. sym same ∙ z, λ z. same ∙ z)

    -- For a time with quarters 0, the sheets by both rules leave the same list.
    pub one_list : (l : List Float) → list_after w s a 1 t l ≡ list_after w s a 2 t l
    unfolding list_after
    one_list l = rw (judged_alike (length l), no_quarters t e)

-- ---- a time with quarters: a table that passes under one rule is refused under the other
module _ (s : Machine) (a : BitAddress) (t : TimeStruck) (some : 1 ≤ t.quarters) (room : ℕ) where
  read_says : (rule : ℕ) → Begins s rule t room →
      (sheet_of whole s a rule t room).number ≡ read_number whole s a (strokes_of rule t)
  unfolding read_sheet
  read_says rule b = ap (λ (o : Sheet). o.number) (sheet_begun whole s a rule t room (begun s rule t room b))

  -- passed by one rule, and begun by another that counts otherwise
  miscounted : (rule other : ℕ) → (sheet_of whole s a rule t room).number ≡ 0 → Begins s other t room →
      strokes_of rule t ≢ strokes_of other t → (sheet_of whole s a other t room).number ≡ 43
  miscounted rule other z b d =
      let passed = sym (read_says rule (passed_begins whole s a rule t room z)) ∙ z in
      read_says other b ∙ wrong_count s a (strokes_of rule t) (strokes_of other t) (right_count s a (strokes_of rule t) passed) d

  -- For a time with quarters, a table that passes under rule 2 is refused under rule 1, with 43.
  pub not_by_rule_one : (sheet_of whole s a 2 t room).number ≡ 0 → (sheet_of whole s a 1 t room).number ≡ 43
  not_by_rule_one z =
      let b = passed_begins whole s a 2 t room z in
      let more = quarters_tell t some in
      miscounted 2 1 z
      (record { size = b.size; known = inl refl; time = b.time; fits = omega (arith, b.fits, more); steps = b.steps })
      (λ e. omega (arith, e, more))

  -- For a time with quarters, a table that passes under rule 1 is refused under rule 2: with 41 where the list has no room for rule 2's
  -- strokes, or else with 43.
  pub not_by_rule_two : (sheet_of whole s a 1 t room).number ≡ 0 →
      (room < strokes_of 2 t → (sheet_of whole s a 2 t room).number ≡ 41) ×
      (strokes_of 2 t ≤ room → (sheet_of whole s a 2 t room).number ≡ 43)
  unfolding refusal_before
  not_by_rule_two z =
      let b = passed_begins whole s a 1 t room z in
      let more = quarters_tell t some in (
        λ h.
            let e : number_before s 2 t room ≡ 41 =
            rw (le-ltb _ _ b.size, rule_accepted 2 (inr refl), time_accepted t b.time, lt-ltb _ _ h) in
            ap (λ (o : Sheet). o.number) (sheet_barred whole s a 2 t room (λ x. omega (arith, sym e ∙ x))) ∙ e,
        λ h.
            miscounted 1 2 z (record { size = b.size; known = inr refl; time = b.time; fits = h; steps = b.steps })
            (λ e. omega (arith, e, more)),
      )
