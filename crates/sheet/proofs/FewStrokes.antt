-- A time that is in range has few strokes, by either rule.
use Prim.Native.Nat.{ℕ, ◌+◌, ◌*◌, ◌≤◌}
use mathlib.Core.Path.{◌≡◌, sym}
use mathlib.Core.Bool.{false}
use mathlib.Core.Logic.{◌≢◌}
use borrow.Author.Tests.{eq-eqb, ne_eqb}
use Rattle.sheet_spec.specs.Sheet.{out_of_range, strokes_of}
use Rattle.sheet_spec.specs.declared.TimeStruck.{TimeStruck}
use Rattle.sheet_spec.proofs.Range.{accepted_time}
use Rattle.sheet_spec.proofs.Strokes.{by_rule_two, few_strokes}

-- The larger of the two counts is at most 32.
pub small : (t : TimeStruck) → out_of_range t ≡ false → t.hours + 2 * t.quarters + t.minutes ≤ 32
small t e = rw (sym (by_rule_two t)) (few_strokes t (accepted_time t e) 2).1

module _ (rule : ℕ) (t : TimeStruck) (e : out_of_range t ≡ false) where
  abbrev Counts : ℕ → Type 0
  Counts n = (n ≡ strokes_of rule t) × (1 ≤ n) × (n ≤ 32)

  counted : (n : ℕ) → n ≡ strokes_of rule t → Counts n
  counted n s = let few = few_strokes t (accepted_time t e) rule in (s, rw s few.0, rw s few.1)

  -- The count of rule 2.
  pub by_two : rule ≡ 2 → Counts (t.hours + 2 * t.quarters + t.minutes)
  unfolding strokes_of
  by_two h = counted (t.hours + 2 * t.quarters + t.minutes) (rw (eq-eqb _ _ h))

  -- The count of any other rule.
  pub by_one : rule ≢ 2 → Counts (t.hours + t.quarters + t.minutes)
  unfolding strokes_of
  by_one h = counted (t.hours + t.quarters + t.minutes) (rw (ne_eqb _ _ h))
