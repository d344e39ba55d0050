-- What a sceptical reader means by a float's being a number. The laws are said with these; no contract cites them.
--   Fraction x a c   the float x is finite, not negative, and a / c, for a c above 0
--   Exactly x n      the float x is the whole number n
use Rattle.std.specs.Prelude.{ℕ, false, Float}
use Rattle.std.specs.Float.Ieee.Exact.{HasValue}

abbrev pub Fraction : Float → ℕ → ℕ → Type 0
Fraction x a c = HasValue x false a c

abbrev pub Exactly : Float → ℕ → Type 0
Exactly x n = Fraction x n 1
