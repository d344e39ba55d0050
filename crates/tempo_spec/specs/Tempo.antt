-- The even-tempo times of the strokes between two ticks: document 02, 'The strike sheet'.
-- The arithmetic is that of Rust's `f64`, as `Rattle.std.specs.Float.Ieee` defines it: an operation works out its exact result and
-- rounds it once.
--   double n                          the whole number n in double precision
--   quotient span k gaps              the span times k over the gaps between the strokes
--   offset first last strokes k       how far stroke k lies after the first tick
--   even_time first last strokes k    the time of stroke k, counted from 0
--   even_times first last strokes n   the times of strokes 0 to n - 1, in order
--   with_times first last strokes l   the list l with the times of all strokes in its first places
use Rattle.std.specs.Prelude.{ℕ, zero, suc, ◌-◌, cond, List, [], ◌∷◌, ◌++◌, ltb, drop, Float, pos}
use Rattle.std.specs.Float.{binary64}
use Rattle.std.specs.Float.Ieee.{add, mul, div, of_int}

-- "in double precision"
abbrev pub double : ℕ → Float
double n = of_int binary64 (pos n)

-- "a quotient, span times k over strokes less one, each operation rounded once"
abbrev pub quotient : ℕ → ℕ → ℕ → Float
quotient span k gaps = div binary64 (mul binary64 (double span) (double k)) (double gaps)

abbrev pub offset : ℕ → ℕ → ℕ → ℕ → Float
offset first last strokes k = quotient (last - first) k (strokes - 1)

-- "the first tick plus a quotient"; "A single stroke takes its own tick"
unfoldable pub even_time : ℕ → ℕ → ℕ → ℕ → Float
even_time first last strokes k = cond (ltb 1 strokes) (add binary64 (double first) (offset first last strokes k)) (double first)

-- "For stroke k, counted from 0, the list's place k takes the even-tempo time"
unfoldable pub even_times : ℕ → ℕ → ℕ → ℕ → List Float
even_times first last strokes zero = []
even_times first last strokes (suc n) = even_times first last strokes n ++ (even_time first last strokes n ∷ [])

-- "later places stay"
abbrev pub with_times : ℕ → ℕ → ℕ → List Float → List Float
with_times first last strokes l = even_times first last strokes strokes ++ drop strokes l
