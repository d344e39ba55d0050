-- Span times k over gaps, for numbers of sixteen bits and a k up to gaps. The product is exact, so the quotient is the fraction
-- itself, rounded once. It lies between 0 and the span, so it is finite; and it doesn't fall as k grows.
use Prim.Native.Nat.{ℕ, ◌*◌, ◌^◌, ◌≤◌, ◌<◌, zero-le}
use native.Mathlib.Nat.{le_trans, lt_of_le_of_lt, zero-lt-suc, mul-one, zero-mul, mul-le-mul_left, mul-le-mul_right, le_of_mul-le-mul_right}
use mathlib.Core.Path.{◌≡◌, sym, ◌∙◌}
use mathlib.Core.Bool.{false}
use lib.Dec.{T}
use lib.Pow.{pow_pos}
use lib.Ieee.{Float, binary64, low, round, add, mul, le, of_int}
use lib.Ieee.Order.{round_mono}
use lib.Ieee.Scale.{round_same, grid, round_val, round_under}
use Rattle.tempo_spec.specs.InPlainWords.{Fraction}
use Rattle.tempo_spec.specs.Tempo.{double, quotient}
use Rattle.tempo_spec.proofs.Operations.{div_rounded, finite_between, sum_grows}
use Rattle.tempo_spec.proofs.WholeNumbers.{double_rounded, tick_whole, product_whole}

-- span times k over gaps, rounded once to a double
abbrev pub rounded : ℕ → ℕ → ℕ → Float
rounded span k gaps = round binary64 false (span * k) gaps

-- the fraction, rounded, is this many of the format's smallest value, 2^-low
abbrev smallest_values : ℕ → ℕ → ℕ → ℕ
smallest_values span k gaps = grid binary64 (span * k) gaps

module _ (span gaps : ℕ) (tick : span < 65536) (count : gaps < 65536) (above : 0 < gaps) where
  module _ (k : ℕ) (inside : k ≤ gaps) where
    within_span : span * k ≤ span * gaps
    within_span = mul-le-mul_left span inside

    -- Span times k over gaps, which are the strokes less one, is that fraction, rounded once.
    pub quotient_rounded : quotient span k gaps ≡ rounded span k gaps
    quotient_rounded =
        div_rounded binary64 (mul binary64 (double span) (double k)) (double gaps) (span * k) 1 gaps 1 (zero-lt-suc 0) (zero-lt-suc 0)
        (product_whole span k tick (lt_of_le_of_lt inside count)) (tick_whole gaps count) above
        ∙ rw (mul-one (span * k), mul-one gaps)

    -- Where span times k over gaps comes out even, the quotient is the double of that whole number.
    pub quotient_even : (q : ℕ) → span * k ≡ q * gaps → quotient span k gaps ≡ double q
    quotient_even q e =
        quotient_rounded
        ∙ round_same binary64 false (span * k) gaps q 1 above (zero-lt-suc 0) (mul-one (span * k) ∙ e)
        ∙ sym (double_rounded q)

    -- A quotient that comes out even is at most the span.
    pub even_within : (q : ℕ) → span * k ≡ q * gaps → q ≤ span
    even_within q e = le_of_mul-le-mul_right (rw e at within_span) above

    quotient_held : Fraction (rounded span k gaps) (smallest_values span k gaps) (2 ^ low binary64)
    unfolding of_int
    quotient_held =
        let least = round_mono binary64 0 1 (span * k) gaps (zero-lt-suc 0) above (rw (zero-mul gaps) zero-le) in
        let most = round_mono binary64 (span * k) gaps span 1 above (zero-lt-suc 0) (rw (mul-one (span * k)) within_span) in
        let zero_whole = tick_whole 0 (zero-lt-suc 65535) in
        let here = finite_between (double 0) (rounded span k gaps) (double span) 0 1 span 1 zero_whole (tick_whole span tick) least most in
        round_val binary64 (span * k) gaps (round_under binary64 (span * k) gaps here)

  -- A number of sixteen bits plus the quotient doesn't fall as k grows.
  pub sum_never_falls : (first j k : ℕ) → first < 65536 → j ≤ k → k ≤ gaps
      → T (le (add binary64 (double first) (quotient span j gaps)) (add binary64 (double first) (quotient span k gaps)))
  sum_never_falls first j k from earlier inside =
      let before : j ≤ gaps = le_trans earlier inside in
      let tops : span * j * gaps ≤ span * k * gaps = mul-le-mul_right gaps (mul-le-mul_left span earlier) in
      let rises = round_mono binary64 (span * j) gaps (span * k) gaps above above tops in
      rw (quotient_rounded j before, quotient_rounded k inside) (
      sum_grows binary64 (double first) (rounded span j gaps) (rounded span k gaps)
      first 1 (smallest_values span j gaps) (smallest_values span k gaps) (2 ^ low binary64)
      (zero-lt-suc 0) (pow_pos (low binary64)) (tick_whole first from) (quotient_held j before) (quotient_held k inside) rises)
