-- What a refused sheet leaves, and what one that passes does: demand 1. By the number, judged before the port is touched and after.
use Prim.Native.Nat.{ℕ, ◌-◌}
use mathlib.Core.Path.{◌≡◌, sym, ap, ◌∙◌}
use mathlib.Core.List.{List}
use mathlib.Core.Logic.{⊎_elim, ◌≢◌}
use lib.Ieee.{Float}
use lib.ListN.{length, get_or}
use borrow.Author.Tests.{eq-eqb, ne_eqb}
use Rattle.words.specs.declared.BitAddress.{BitAddress}
use Rattle.std.proofs.lemmas.Bool.{cases_eq}
use Rattle.port_spec.specs.Sequences.{Machine}
use Rattle.tempo_spec.specs.Tempo.{with_times}
use Rattle.sheet_spec.specs.Reading.{Way}
use Rattle.sheet_spec.specs.Sheet.{strokes_of, number_before, ticks_heard, read_number, read_sheet, read_list, sheet_of, list_after}
use Rattle.sheet_spec.specs.declared.Sheet.{Sheet}
use Rattle.sheet_spec.specs.declared.TimeStruck.{TimeStruck}
use Rattle.sheet_spec.proofs.Taken.{passed_begun, sheet_begun, list_begun, sheet_barred, list_barred}

module _ (w : Way) (s : Machine) (a : BitAddress) (rule : ℕ) (t : TimeStruck) (l : List Float) where
  abbrev sheet : Sheet
  sheet = sheet_of w s a rule t (length l)

  abbrev ticks : List ℕ
  ticks = ticks_heard w s a (strokes_of rule t)

  -- what a refused sheet shows, and the list that it leaves
  pub record Leaves : Type 0 where
    pub shown : sheet.rule ≡ 0
    pub strokes : sheet.strokes ≡ 0
    pub list : list_after w s a rule t l ≡ l

  begun_refused : number_before s rule t (length l) ≡ 0 → sheet.number ≢ 0 → Leaves
  unfolding read_sheet read_list
  begun_refused e d =
      let b = sheet_begun w s a rule t (length l) e in
      let n : read_number w s a (strokes_of rule t) ≢ 0 = λ z. d (ap (λ (o : Sheet). o.number) b ∙ z) in
      record {
        shown = ap (λ (o : Sheet). o.rule) b ∙ rw (ne_eqb _ _ n);
        strokes = ap (λ (o : Sheet). o.strokes) b ∙ rw (ne_eqb _ _ n);
        list = list_begun w s a rule t l e ∙ rw (ne_eqb _ _ n);
      }

  -- A refused sheet has 0 for the rule and for the strokes, and leaves the list, every place of it.
  pub refused_leaves : sheet.number ≢ 0 → Leaves
  refused_leaves d =
      ⊎_elim
      (λ e. begun_refused e d)
      (λ n.
      let b = sheet_barred w s a rule t (length l) n in
      record {
        shown = ap (λ (o : Sheet). o.rule) b;
        strokes = ap (λ (o : Sheet). o.strokes) b;
        list = list_barred w s a rule t l n;
      })
      (cases_eq (number_before s rule t (length l)) 0)

  -- what a sheet that passes shows, and the list that it leaves
  pub record Fills : Type 0 where
    pub shown : sheet.rule ≡ rule
    pub strokes : sheet.strokes ≡ strokes_of rule t
    pub list : list_after w s a rule t l ≡ with_times (get_or ticks 0 0) (get_or ticks (strokes_of rule t - 1) 0) (strokes_of rule t) l

  begun_passed : number_before s rule t (length l) ≡ 0 → sheet.number ≡ 0 → Fills
  unfolding read_sheet read_list
  begun_passed e z =
      let b = sheet_begun w s a rule t (length l) e in
      let n : read_number w s a (strokes_of rule t) ≡ 0 = sym (ap (λ (o : Sheet). o.number) b) ∙ z in
      record {
        shown = ap (λ (o : Sheet). o.rule) b ∙ rw (eq-eqb _ _ n);
        strokes = ap (λ (o : Sheet). o.strokes) b ∙ rw (eq-eqb _ _ n);
        list = list_begun w s a rule t l e ∙ rw (eq-eqb _ _ n);
      }

  -- A sheet that passes shows the rule that it was given and counts its strokes; the list takes their even-tempo times, from the first tick
  -- that was read to the last, and keeps its later places.
  pub passed_fills : sheet.number ≡ 0 → Fills
  passed_fills z = begun_passed (passed_begun w s a rule t (length l) z) z
