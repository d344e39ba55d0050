-- An accepted field by its words: what the private functions state.
--   window m i k         k words of the memory from word i on, as one number
--   with_part            a memory with a part of a value put into one word
--   Scattered            what putting in an accepted field leaves
--   refused_taking k z   what taking out answers where it is refused with number k, with the zero z of the type it is asked for
use Rattle.std.specs.Prelude.{ℕ, zero, suc, ◌+◌, ◌*◌, ◌/◌, ◌%◌, ◌^◌, List, ◌≡◌, get_or, set}
use Rattle.words.specs.declared.BitAddress.{BitAddress}
use Rattle.field_spec.specs.Field.{with_field}
use Rattle.field_spec.specs.Count.{put_cycles}
use Rattle.field_spec.specs.WithBits.{with_bits}
use Rattle.field_spec.specs.declared.Taken.{Taken}

-- the first word lowest, so that the bits stand in the order of their addresses
unfoldable pub window : List ℕ → ℕ → ℕ → ℕ
window m i zero = 0
window m i (suc k) = window m (suc i) k * 2 ^ 16 + get_or m i 0

-- of the memory m: k bits of the value v, those from its bit d on, are put into word w from its bit o on
unfoldable pub with_part : List ℕ → ℕ → ℕ → ℕ → ℕ → ℕ → List ℕ
with_part m w o k v d = set m w (with_bits (get_or m w 0) o k (v / 2 ^ d % 2 ^ k))

pub record Scattered (m : List ℕ) (a : BitAddress) (n v : ℕ) (cycles : ℕ) (m' : List ℕ) : Type 0 where
  pub count : cycles ≡ put_cycles a n
  pub memory : m' ≡ with_field m a n v

abbrev pub refused_taking : {A : Type 0} → ℕ → A → Taken A
refused_taking k z = record { number = k; value = z; cycles = 0 }
