-- The parts of the run: what the private functions state.
--   whole_part x       x without its fraction, or 0 where that is no number of 64 bits
--   in_thousandths t   the whole thousandths of the time t
--   five_tables        the memory with five tables
--   tables_of_both_rules
--                      the memory with a table of nine strokes and one of six
use Rattle.std.specs.Prelude.{ℕ, true, false, cond, List, [], ◌∷◌, pos, Float}
use Rattle.std.specs.Float.{fin, binary64}
use Rattle.std.specs.Float.Ieee.{mul, lt, to_unsigned}
use Rattle.tempo_spec.specs.Tempo.{double}

unfoldable pub whole_part : Float → ℕ
whole_part x = cond (lt (fin true 1 (pos 0)) x) (cond (lt x (fin false 1 (pos 64))) (to_unsigned 64 x) 0) 0

abbrev pub in_thousandths : Float → ℕ
in_thousandths t = whole_part (mul binary64 t (double 1000))

abbrev pub five_tables : List ℕ
five_tables =
    6 ∷ 10 ∷ 20 ∷ 30 ∷ 40 ∷ 50 ∷ 60 ∷ 6 ∷ 11 ∷ 22 ∷ 33 ∷ 33 ∷ 44 ∷ 55 ∷ 3 ∷ 65532 ∷ 65533 ∷ 65535 ∷ 1 ∷ 77 ∷ 6 ∷ 100 ∷ 130 ∷ 190 ∷
    255 ∷ 300 ∷ 350 ∷ []

abbrev pub tables_of_both_rules : List ℕ
tables_of_both_rules =
    9 ∷ 100 ∷ 130 ∷ 160 ∷ 200 ∷ 250 ∷ 300 ∷ 340 ∷ 370 ∷ 420 ∷ 6 ∷ 11 ∷ 20 ∷ 30 ∷ 40 ∷ 50 ∷ 66 ∷ []
