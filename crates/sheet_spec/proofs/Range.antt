-- Which times are refused. By the four tests of `out_of_range`.
use Prim.Native.Nat.{ℕ, ◌<◌, ◌≤◌}
use native.Mathlib.Omega.{arith}
use mathlib.Core.Path.{◌≡◌, refl}
use mathlib.Core.Bool.{Bool, true, false, ◌||◌}
use mathlib.Core.Logic.{◌⊎◌, inl, inr, ⊎_elim}
use lib.Dec.{eqb, ltb}
use borrow.Author.Tests.{eqb-true, eqb-false, ltb-true, ltb-false, ne_eqb, le-ltb}
use Rattle.std.proofs.lemmas.Bool.{cases_Bool, or_parts}
use Rattle.sheet_spec.specs.InPlainWords.{time, InRange, OffRange}
use Rattle.sheet_spec.specs.Sheet.{out_of_range}
use Rattle.sheet_spec.specs.declared.TimeStruck.{TimeStruck}

one_true : (b c : Bool) → b || c ≡ true → (b ≡ true) ⊎ (c ≡ true)
one_true true c e = inl refl
one_true false c e = inr e

module _ (t : TimeStruck) where
  -- A time that is not refused is in range: 1 to 12 hours, at most 3 quarters and at most 14 minutes.
  pub accepted_time : out_of_range t ≡ false → InRange t
  unfolding out_of_range
  accepted_time e =
      let p = or_parts (eqb t.hours 0 || ltb 12 t.hours) (ltb 3 t.quarters || ltb 14 t.minutes) e in
      let h = or_parts (eqb t.hours 0) (ltb 12 t.hours) p.0 in
      let q = or_parts (ltb 3 t.quarters) (ltb 14 t.minutes) p.1 in
      let some = eqb-false t.hours 0 h.0 in
      record {
        an_hour = omega (arith, some);
        hours = ltb-false 12 t.hours h.1;
        quarters = ltb-false 3 t.quarters q.0;
        minutes = ltb-false 14 t.minutes q.1;
      }

  -- A time in range is not refused.
  pub time_accepted : InRange t → out_of_range t ≡ false
  unfolding out_of_range
  time_accepted r =
      rw (
        ne_eqb t.hours 0 (λ e. omega (arith, r.an_hour)),
        le-ltb 12 t.hours r.hours,
        le-ltb 3 t.quarters r.quarters,
        le-ltb 14 t.minutes r.minutes,
      )

  -- A time that is refused has hours 0 or over 12, quarters over 3 or minutes over 14.
  pub refused_time : out_of_range t ≡ true → OffRange t
  unfolding out_of_range
  refused_time e =
      ⊎_elim
      (λ h. inl (⊎_elim (λ x. inl (eqb-true t.hours 0 x)) (λ x. inr (ltb-true 12 t.hours x))
      (one_true (eqb t.hours 0) (ltb 12 t.hours) h)))
      (λ q. inr (⊎_elim (λ x. inl (ltb-true 3 t.quarters x)) (λ x. inr (ltb-true 14 t.minutes x))
      (one_true (ltb 3 t.quarters) (ltb 14 t.minutes) q)))
      (one_true (eqb t.hours 0 || ltb 12 t.hours) (ltb 3 t.quarters || ltb 14 t.minutes) e)

  -- No time is both.
  never_both : InRange t → OffRange t → ⊥
  never_both r o =
      ⊎_elim
      (λ h. ⊎_elim (λ x. omega (arith, r.an_hour)) (λ x. omega (arith, r.hours)) h)
      (λ q. ⊎_elim (λ x. omega (arith, r.quarters)) (λ x. omega (arith, r.minutes)) q)
      o

  -- A time with hours 0 or over 12, quarters over 3 or minutes over 14 is refused.
  pub time_refused : OffRange t → out_of_range t ≡ true
  time_refused o = ⊎_elim (λ e. e) (λ e. absurd (never_both (accepted_time e) o)) (cases_Bool (out_of_range t))

-- ---- the same in the paper's numbers

-- which hours h, quarters q and minutes m are struck and which are not
pub record Edges (h q m : ℕ) : Type 0 where
  -- 1 to 12 hours, 0 to 3 quarters and 0 to 14 minutes are struck
  pub struck : 1 ≤ h → h ≤ 12 → q ≤ 3 → m ≤ 14 → out_of_range (time h q m) ≡ false
  -- no hours, 13 and more, four quarters and more, or 15 minutes and more are not
  pub no_hours : out_of_range (time 0 q m) ≡ true
  pub hours : 12 < h → out_of_range (time h q m) ≡ true
  pub quarters : 3 < q → out_of_range (time h q m) ≡ true
  pub minutes : 14 < m → out_of_range (time h q m) ≡ true

-- In numbers: 1 to 12 hours, 0 to 3 quarters and 0 to 14 minutes are struck; 0 hours, 13 and more, four quarters and more, or 15 minutes
-- and more are not.
pub edges : (h q m : ℕ) → Edges h q m
edges h q m =
    record {
      struck = λ a b c d. time_accepted (time h q m) (record { an_hour = a; hours = b; quarters = c; minutes = d });
      no_hours = time_refused (time 0 q m) (inl (inl refl));
      hours = λ a. time_refused (time h q m) (inl (inr a));
      quarters = λ a. time_refused (time h q m) (inr (inl a));
      minutes = λ a. time_refused (time h q m) (inr (inr a));
    }
