-- An answer as one number of 64 bits (ours): bits 0-15 the word, 16-23 the number, bit 24 the hollow mark, bits 25-26 the cycle.
--   packed a     the answer as one number
--   refusing n   what a call refused with number n answers
use Rattle.std.specs.Prelude.{ℕ, ◌+◌, ◌*◌, false, cond}
use Rattle.port_spec.specs.Cycle.{cycle_number}
use Rattle.port_spec.specs.declared.Cycle.TheVariants.{None}
use Rattle.port_spec.specs.declared.Answer.{Answer}

-- "Each host answer has: number, word .., hollow mark .., and the cycle"
unfoldable pub packed : Answer → ℕ
packed a = a.word + 65536 * a.number + 16777216 * cond a.hollow 1 0 + 33554432 * cycle_number a.cycle

-- "A refusal returns zeros and false marks, cycle none"
abbrev pub refusing : ℕ → Answer
refusing n = record { number = n; word = 0; hollow = false; cycle = None }
