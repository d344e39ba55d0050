-- Times by computation. The float `fin false m (negsuc e)` is m / 2^(e + 1).
use mathlib.Core.Path.{◌≡◌, refl}
use mathlib.Core.Bool.{false}
use lib.IntN.{negsuc}
use lib.Ieee.{fin, binary64, round, add, mul, div, of_int}
use Rattle.tempo_spec.specs.Tempo.{double, even_time}

-- The middle one of three strokes from tick 7 to tick 8 comes at 7.5, that is 15 / 2.
pub half_way : even_time 7 8 3 1 ≡ fin false 15 (negsuc 0)
unfolding even_time add mul div of_int
half_way = refl

-- Stroke 5 of seven from tick 1 to tick 2 comes at 1 + 5 / 6, the quotient and the sum each rounded.
pub each_rounded : even_time 1 2 7 5 ≡ fin false 4128299658422955 (negsuc 50)
unfolding even_time add mul div of_int
each_rounded = refl

-- 11 / 6 rounded once, at the end, is another double than 1 + 5 / 6 with quotient and sum each rounded: the one before it.
pub rounded_at_the_end : round binary64 false 11 6 ≡ fin false 8256599316845909 (negsuc 51)
unfolding round
rounded_at_the_end = refl

-- Why the product comes first: 29 / 7, rounded, times 7 is more than 29, so the last of 8 strokes over 29 ticks would lie after its tick.
pub quotient_first_misses : mul binary64 (div binary64 (double 29) (double 7)) (double 7) ≡ fin false 8162774324609025 (negsuc 47)
unfolding mul div of_int
quotient_first_misses = refl
