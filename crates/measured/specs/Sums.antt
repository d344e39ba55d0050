-- What answers leave in the sum, modulo 2^32.
--   stirred s n           three times the sum, and n more
--   answer_number a       an answer as one number: the word, the number, the hollow mark, the cycle
--   block_stirred s n r   with what a block leaves: n, the pointer and HSTDATA
--   field_stirred s n v c   with what a field call answers: value v and cycles c, or the number n that refused it
use Rattle.std.specs.Prelude.{ℕ, ◌+◌, ◌*◌, ◌%◌, ◌^◌, cond, ◌==◌}
use Rattle.registers.specs.declared.Registers.{Registers}
use Rattle.port_spec.specs.Cycle.{cycle_number}
use Rattle.port_spec.specs.declared.Answer.{Answer}

unfoldable pub stirred : ℕ → ℕ → ℕ
stirred s n = (((s + s) % 2 ^ 32 + s) % 2 ^ 32 + n) % 2 ^ 32

unfoldable pub answer_number : Answer → ℕ
answer_number a = a.word + 65536 * a.number + 16777216 * cond a.hollow 1 0 + 33554432 * cycle_number a.cycle

unfoldable pub block_stirred : ℕ → ℕ → Registers → ℕ
block_stirred s n r = stirred (stirred (stirred s n) r.pointer.0) r.latch

unfoldable pub field_stirred : ℕ → ℕ → ℕ → ℕ → ℕ
field_stirred s n v c = cond (n == 0) (stirred (stirred s v) c) (stirred s n)
