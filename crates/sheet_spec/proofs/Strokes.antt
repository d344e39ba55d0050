-- How many strokes a time has by a rule: one for each hour and each minute, and for each quarter one by rule 1, or two by rule 2.
-- So there are from one to 29, or to 32. By counting, for each of the two sums.
use Prim.Native.Nat.{ℕ, suc, ◌+◌, ◌*◌, ◌≤◌, ◌<◌}
use native.Mathlib.Omega.{arith}
use mathlib.Core.Path.{◌≡◌, refl}
use mathlib.Core.Logic.{⊎_elim}
use lib.Dec.{eqb}
use Rattle.std.proofs.lemmas.Bool.{cases_Bool}
use Rattle.sheet_spec.specs.InPlainWords.{time, InRange}
use Rattle.sheet_spec.specs.Sheet.{strokes_of}
use Rattle.sheet_spec.specs.declared.TimeStruck.{TimeStruck}

-- By rule 1 the strokes of a time are its hours, quarters and minutes, added up.
pub by_rule_one : (t : TimeStruck) → strokes_of 1 t ≡ t.hours + t.quarters + t.minutes
unfolding strokes_of
by_rule_one t = refl

-- By rule 2 the strokes of a time are its hours, twice its quarters and its minutes, added up.
pub by_rule_two : (t : TimeStruck) → strokes_of 2 t ≡ t.hours + 2 * t.quarters + t.minutes
unfolding strokes_of
by_rule_two t = refl

-- What holds of the strokes by rule 1 and by rule 2, as sums, holds of the strokes by any rule.
pub of_both : (P : ℕ → Type 0) (rule : ℕ) (t : TimeStruck) →
    P (t.hours + t.quarters + t.minutes) → P (t.hours + 2 * t.quarters + t.minutes) → P (strokes_of rule t)
unfolding strokes_of
of_both P rule t one two = ⊎_elim (λ e. rw e two) (λ e. rw e one) (cases_Bool (eqb rule 2))

-- ---- what each hour, quarter and minute adds

-- what each hour, each quarter and each minute adds to the strokes of a time
pub record OneEach (rule h q m : ℕ) : Type 0 where
  pub hour : strokes_of rule (time (suc h) q m) ≡ suc (strokes_of rule (time h q m))
  pub minute : strokes_of rule (time h q (suc m)) ≡ suc (strokes_of rule (time h q m))
  pub nothing : strokes_of rule (time 0 0 0) ≡ 0
  pub quarter_by_one : strokes_of 1 (time h (suc q) m) ≡ suc (strokes_of 1 (time h q m))
  pub quarter_by_two : strokes_of 2 (time h (suc q) m) ≡ suc (suc (strokes_of 2 (time h q m)))

-- An hour or a minute more is a stroke more by any rule; a quarter more is one by rule 1 and two by rule 2; and nothing else is a stroke.
pub one_each : (rule h q m : ℕ) → OneEach rule h q m
unfolding strokes_of
one_each rule h q m =
    record {
      hour = ⊎_elim (λ e. rw e (omega arith)) (λ e. rw e (omega arith)) (cases_Bool (eqb rule 2));
      minute = ⊎_elim (λ e. rw e (omega arith)) (λ e. rw e (omega arith)) (cases_Bool (eqb rule 2));
      nothing = of_both (λ n. n ≡ 0) rule (time 0 0 0) refl refl;
      quarter_by_one = omega arith;
      quarter_by_two = omega arith;
    }

-- ---- how many there can be
module _ (t : TimeStruck) (r : InRange t) where
  -- A time in range has from one to 32 strokes by any rule.
  pub few_strokes : (rule : ℕ) → (1 ≤ strokes_of rule t) × (strokes_of rule t ≤ 32)
  few_strokes rule =
      of_both (λ n. (1 ≤ n) × (n ≤ 32)) rule t
      (omega (arith, r.an_hour), omega (arith, r.hours, r.quarters, r.minutes))
      (omega (arith, r.an_hour), omega (arith, r.hours, r.quarters, r.minutes))

  -- By rule 1 a time in range has no more than 29 strokes.
  pub few_by_rule_one : strokes_of 1 t ≤ 29
  few_by_rule_one = rw (by_rule_one t) (omega (arith, r.hours, r.quarters, r.minutes))

-- the fewest strokes and the most that a time in range has, by each rule
pub record FewestAndMost : Type 0 where
  pub fewest_in_range : InRange (time 1 0 0)
  pub fewest : (rule : ℕ) → strokes_of rule (time 1 0 0) ≡ 1
  pub most_in_range : InRange (time 12 3 14)
  pub most_by_one : strokes_of 1 (time 12 3 14) ≡ 29
  pub most_by_two : strokes_of 2 (time 12 3 14) ≡ 32

-- The fewest strokes and the most are reached: 1:00 is in range and has one stroke by any rule, and 12:59 is in range and has 29 by rule 1
-- and 32 by rule 2.
pub fewest_and_most : FewestAndMost
unfolding strokes_of
fewest_and_most =
    record {
      fewest_in_range = record { an_hour = omega arith; hours = omega arith; quarters = omega arith; minutes = omega arith };
      fewest = λ rule. of_both (λ n. n ≡ 1) rule (time 1 0 0) refl refl;
      most_in_range = record { an_hour = omega arith; hours = omega arith; quarters = omega arith; minutes = omega arith };
      most_by_one = refl;
      most_by_two = refl;
    }

-- ---- the two rules beside each other
module _ (t : TimeStruck) where
  -- Without quarters both rules count the same strokes.
  pub no_quarters : t.quarters ≡ 0 → strokes_of 1 t ≡ strokes_of 2 t
  no_quarters e = rw (by_rule_one t, by_rule_two t) (omega (arith, e))

  -- With quarters rule 2 counts more strokes than rule 1.
  pub quarters_tell : 1 ≤ t.quarters → strokes_of 1 t < strokes_of 2 t
  quarters_tell h = rw (by_rule_one t, by_rule_two t) (omega (arith, h))
