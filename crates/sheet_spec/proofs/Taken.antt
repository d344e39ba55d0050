-- A sheet that is begun, and one that is refused before the port is touched: demand 1. By the number that is judged first.
use Prim.Native.Nat.{ℕ}
use mathlib.Core.Path.{◌≡◌, sym, ap, ◌∙◌}
use mathlib.Core.List.{List}
use mathlib.Core.Logic.{⊎_elim, ◌≢◌}
use lib.Ieee.{Float}
use lib.ListN.{length}
use borrow.Author.Tests.{eq-eqb, ne_eqb}
use Rattle.words.specs.declared.BitAddress.{BitAddress}
use Rattle.std.proofs.lemmas.Bool.{cases_eq}
use Rattle.port_spec.specs.Sequences.{Machine}
use Rattle.sheet_spec.specs.InPlainWords.{Begins}
use Rattle.sheet_spec.specs.Reading.{Way}
use Rattle.sheet_spec.specs.Sheet.{strokes_of, read_sheet, read_list, refused_sheet, number_before, sheet_of, list_after}
use Rattle.sheet_spec.specs.declared.Sheet.{Sheet}
use Rattle.sheet_spec.specs.declared.TimeStruck.{TimeStruck}
use Rattle.sheet_spec.proofs.Begun.{begins}

module _ (w : Way) (s : Machine) (a : BitAddress) (rule : ℕ) (t : TimeStruck) where
  -- ---- begun
  -- A sheet that is begun is what its reads make of it.
  pub sheet_begun : (room : ℕ) → number_before s rule t room ≡ 0 → sheet_of w s a rule t room ≡ read_sheet w s a (strokes_of rule t) rule
  unfolding sheet_of
  sheet_begun room e = rw (eq-eqb _ _ e)

  -- The list after a sheet that is begun is what its reads make of it.
  pub list_begun : (l : List Float) → number_before s rule t (length l) ≡ 0 →
      list_after w s a rule t l ≡ read_list w s a (strokes_of rule t) l
  unfolding list_after
  list_begun l e = rw (eq-eqb _ _ e)

  -- ---- refused before
  -- A sheet that is refused before the port is touched answers its number and zeros, and leaves the registers.
  pub sheet_barred : (room : ℕ) → number_before s rule t room ≢ 0 →
      sheet_of w s a rule t room ≡ refused_sheet (number_before s rule t room) s.registers
  unfolding sheet_of
  sheet_barred room d = rw (ne_eqb _ _ d)

  -- A sheet that is refused before the port is touched leaves every place of the list.
  pub list_barred : (l : List Float) → number_before s rule t (length l) ≢ 0 → list_after w s a rule t l ≡ l
  unfolding list_after
  list_barred l d = rw (ne_eqb _ _ d)

  -- ---- passed
  -- A sheet that passes was begun.
  pub passed_begun : (room : ℕ) → (sheet_of w s a rule t room).number ≡ 0 → number_before s rule t room ≡ 0
  passed_begun room z =
      ⊎_elim
      (λ e. e)
      (λ d. absurd (d (sym (ap (λ (o : Sheet). o.number) (sheet_barred room d)) ∙ z)))
      (cases_eq (number_before s rule t room) 0)

  -- To a sheet that passes none of the early refusals applies: its memory is not too long, its rule is 1 or 2, its time in range, its list
  -- long enough for its strokes, and INCR set.
  pub passed_begins : (room : ℕ) → (sheet_of w s a rule t room).number ≡ 0 → Begins s rule t room
  passed_begins room z = begins s rule t room (passed_begun room z)
