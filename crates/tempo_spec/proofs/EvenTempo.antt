-- The even-tempo times of the strokes from one tick to another: exact at both ends, since span times k is exact, and bounded between.
-- Where the quotient comes out even nothing is rounded, and at the first stroke and the last it does. And a time doesn't lie before
-- that of an earlier stroke, so none lies outside the two ends.
use Prim.Native.Nat.{ℕ, ◌+◌, ◌-◌, ◌*◌, ◌≤◌, ◌<◌, zero-le}
use native.Mathlib.Nat.{le_refl, add-zero, add-sub_of_le, zero-lt-suc}
use native.Mathlib.Omega.{arith}
use mathlib.Core.Path.{◌≡◌, refl, ap, ◌∙◌, subst}
use mathlib.Core.Logic.{⊎_elim}
use mathlib.Core.Bool.{not}
use lib.Dec.{T}
use lib.Ieee.{Float, nan, inf, fin, binary64, le, of_int, is_nan}
use lib.Ieee.Order.{round_mono}
use borrow.Author.Tests.{lt-ltb, le-ltb}
use Rattle.std.proofs.lemmas.Bool.{cases_lt}
use Rattle.tempo_spec.specs.Tempo.{double, even_time}
use Rattle.tempo_spec.proofs.WholeNumbers.{sum_exact}
use Rattle.tempo_spec.proofs.Quotients.{quotient_even, even_within, sum_never_falls}

-- What a sheet promises of the times of its strokes, the first at the tick `first` and the last at the tick `last`: "It equals the
-- first tick at the first stroke and the last tick at the last, exactly, and never lies before the first or after the last". Nor
-- does a time lie before that of an earlier stroke. `le` is Rust's `<=`, which is false of a NaN.
pub record EvenTempo (first last strokes : ℕ) (time : ℕ → Float) : Type 0 where
  pub starts : time 0 ≡ double first
  pub ends : time (strokes - 1) ≡ double last
  pub not_before : (k : ℕ) → k < strokes → T (le (double first) (time k))
  pub not_after : (k : ℕ) → k < strokes → T (le (time k) (double last))
  pub never_falls : (j k : ℕ) → j ≤ k → k < strokes → T (le (time j) (time k))

-- A single stroke takes its own tick, the first one.
pub single : (first last strokes k : ℕ) → strokes ≤ 1 → even_time first last strokes k ≡ double first
unfolding even_time
single first last strokes k h = rw (le-ltb 1 strokes h)

double_same : (n : ℕ) → T (le (double n) (double n))
unfolding of_int
double_same n = round_mono binary64 n 1 n 1 (zero-lt-suc 0) (zero-lt-suc 0) (le_refl (n * 1))

above_no_nan : (x y : Float) → T (le x y) → T (not (is_nan y))
unfolding le is_nan
above_no_nan nan nan h = absurd h
above_no_nan (inf s) nan h = absurd h
above_no_nan (fin s m e) nan h = absurd h
above_no_nan x (inf s) h = tt
above_no_nan x (fin s m e) h = tt

module _ (first last strokes : ℕ) (order : first ≤ last) (tick : last < 65536) (count : strokes < 65536) where
  -- Where span times k is q times strokes less one, the time is q ticks after the first, exactly.
  pub on_a_tick : (k q : ℕ) → 1 < strokes → k < strokes → (last - first) * k ≡ q * (strokes - 1)
      → even_time first last strokes k ≡ double (first + q)
  unfolding even_time
  on_a_tick k q two inside e =
      let near : q ≤ last - first =
      even_within (last - first) (strokes - 1) (omega arith) (omega arith) (omega arith) k (omega arith) q e
      in rw (
        lt-ltb 1 strokes two,
        quotient_even (last - first) (strokes - 1) (omega arith) (omega arith) (omega arith) k (omega arith) q e,
      )
      (sum_exact first q (omega arith) (omega arith))

  -- The time of the first stroke is the first tick, exactly.
  pub starts : even_time first last strokes 0 ≡ double first
  starts =
      ⊎_elim
      (λ two. on_a_tick 0 0 two (omega arith) (omega arith) ∙ ap double (add-zero first))
      (single first last strokes 0)
      (cases_lt 1 strokes)

  among_more : (j k : ℕ) → 1 < strokes → j ≤ k → k < strokes → T (le (even_time first last strokes j) (even_time first last strokes k))
  unfolding even_time
  among_more j k two earlier inside =
      rw (lt-ltb 1 strokes two) (
      sum_never_falls (last - first) (strokes - 1) (omega arith) (omega arith) (omega arith) first j k (omega arith) earlier (omega arith))

  -- The time of a stroke doesn't lie before that of an earlier one.
  pub never_falls : (j k : ℕ) → j ≤ k → k < strokes → T (le (even_time first last strokes j) (even_time first last strokes k))
  never_falls j k earlier inside =
      ⊎_elim
      (λ two. among_more j k two earlier inside)
      (λ one. rw (single first last strokes j one, single first last strokes k one) (double_same first))
      (cases_lt 1 strokes)

  -- No time lies before the first tick.
  pub not_before : (k : ℕ) → k < strokes → T (le (double first) (even_time first last strokes k))
  not_before k inside = subst (λ (x : Float). T (le x (even_time first last strokes k))) starts (never_falls 0 k zero-le inside)

  -- Every time is a number: none is a NaN.
  pub no_nan : (k : ℕ) → k < strokes → T (not (is_nan (even_time first last strokes k)))
  no_nan k inside = above_no_nan (double first) (even_time first last strokes k) (not_before k inside)

  -- a single stroke's first tick is its last
  module _ (own : strokes ≤ 1 → first ≡ last) where
    -- The time of the last stroke is the last tick, exactly.
    pub ends : even_time first last strokes (strokes - 1) ≡ double last
    ends =
        ⊎_elim
        (λ two. on_a_tick (strokes - 1) (last - first) two (omega arith) refl ∙ ap double (add-sub_of_le order))
        (λ one. single first last strokes (strokes - 1) one ∙ ap double (own one))
        (cases_lt 1 strokes)

    -- No time lies after the last tick.
    pub not_after : (k : ℕ) → k < strokes → T (le (even_time first last strokes k) (double last))
    not_after k inside =
        subst (λ (x : Float). T (le (even_time first last strokes k) x)) ends (never_falls k (strokes - 1) (omega arith) (omega arith))

    -- For any number of strokes that a word counts and any two ticks in order, which for a single stroke are one: the time equals the first
    -- tick at the first stroke and the last tick at the last, exactly, never lies before the first or after the last, and never before that
    -- of an earlier stroke.
    pub even_tempo : EvenTempo first last strokes (even_time first last strokes)
    even_tempo =
        record { starts = starts; ends = ends; not_before = not_before; not_after = not_after; never_falls = never_falls }
