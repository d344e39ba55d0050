-- The text of an answer: how long it is.
use Prim.Native.Nat.{ℕ, ◌≤◌}
use native.Mathlib.Omega.{arith}
use mathlib.Core.Path.{◌≡◌, refl}
use mathlib.Core.Bool.{Bool, true, false}
use lib.ListN.{length, length-append}
use Rattle.port_spec.specs.declared.Access.{Access}
use Rattle.port_spec.specs.declared.Answer.{Answer}
use Rattle.port_spec.specs.declared.Cycle.{Cycle}
use Rattle.port_spec.specs.declared.Cycle.TheVariants.{None, Inside, Empty}
use Rattle.listing.specs.Answer.{number_text, shows_mark, mark_text, cycle_text, answer_text}

-- The number and the word of an answer take 6 bytes.
pub head_length : (number w : ℕ) → length (number_text number w) ≡ 6
unfolding number_text
head_length number w = refl

-- The mark of an answer takes at most 8 bytes.
pub mark_length : (shown hollow : Bool) → length (mark_text shown hollow) ≤ 8
unfolding mark_text
mark_length true true = omega arith
mark_length true false = omega arith
mark_length false hollow = omega arith

-- The cycle of an answer takes at most 6 bytes.
pub cycle_length : (x : Cycle) → length (cycle_text x) ≤ 6
unfolding cycle_text
cycle_length None = omega arith
cycle_length Inside = omega arith
cycle_length Empty = omega arith

-- The whole line of an answer takes at most 20 bytes.
pub answer_length : (a : Access) (x : Answer) → length (answer_text a x) ≤ 20
unfolding answer_text
answer_length a x =
    simp
    (length-append, head_length x.number x.word)
    (omega (arith, mark_length (shows_mark a x.number) x.hollow, cycle_length x.cycle))
