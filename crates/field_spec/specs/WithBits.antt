-- Some bits of a word replaced at once, as code does it.
--   with_bits w o n b   the word w with its n bits from bit o on made b
use Rattle.std.specs.Prelude.{ℕ, ◌+◌, ◌*◌, ◌/◌, ◌%◌, ◌^◌}

-- what lies above them, the new bits at their weight, and what lies below
unfoldable pub with_bits : ℕ → ℕ → ℕ → ℕ → ℕ
with_bits w o n b = w / 2 ^ (o + n) * 2 ^ (o + n) + b * 2 ^ o + w % 2 ^ o
