-- Bits of memory, and fields bit by bit: document 01, 'Memory and addresses' and 'Fields'.
--   bits_after a i         the bit address i bits after a
--   memory_bit m b         the memory's bit at bit address b
--   with_bit w i v         the word w with its bit i made v
--   set_memory_bit m b v   the memory with its bit at bit address b made v
--   field_at m a n         the field of n bits at bit address a, as the unsigned number
--   with_field m a n v     the memory with v put into the field of n bits at bit address a
--   signed n x             the signed reading of the field x of n bits
use Rattle.std.specs.Prelude.{ℕ, zero, suc, ◌+◌, ◌-◌, ◌*◌, ◌/◌, ◌%◌, ◌^◌, Bool, cond, List, ℤ, pos, ◌-ℤ◌, get_or, set}
use Rattle.words.specs.Addresses.{address, word_at}
use Rattle.words.specs.Bytes.{bit}
use Rattle.words.specs.declared.BitAddress.{BitAddress}

-- it does not wrap (ours)
abbrev pub bits_after : BitAddress → ℕ → BitAddress
bits_after a i = address (a.0 + i)

-- ---- one bit of memory

-- "Bit address b is bit b mod 16 of word b div 16, bit 0 the least significant"
unfoldable pub memory_bit : List ℕ → BitAddress → Bool
memory_bit m b = bit (get_or m (word_at b).0 0) (b.0 % 16)

-- what lies above bit i, the new bit at its weight, and what lies below
unfoldable pub with_bit : ℕ → ℕ → Bool → ℕ
with_bit w i v = w / 2 ^ (i + 1) * 2 ^ (i + 1) + cond v (2 ^ i) 0 + w % 2 ^ i

unfoldable pub set_memory_bit : List ℕ → BitAddress → Bool → List ℕ
set_memory_bit m b v = set m (word_at b).0 (with_bit (get_or m (word_at b).0 0) (b.0 % 16) v)

-- ---- a field

-- "its bit i is memory bit address + i. Taking one out gives the unsigned number"
unfoldable pub field_at : List ℕ → BitAddress → ℕ → ℕ
field_at m a zero = 0
field_at m a (suc i) = field_at m a i + cond (memory_bit m (bits_after a i)) (2 ^ i) 0

-- "Putting one in uses the value modulo 2^size and changes no other bit": memory bit address + i becomes bit i of the value, for
-- the n low bits alone
unfoldable pub with_field : List ℕ → BitAddress → ℕ → ℕ → List ℕ
with_field m a zero v = m
with_field m a (suc i) v = set_memory_bit (with_field m a i v) (bits_after a i) (bit v i)

-- "the signed one: less 2^size if the top bit is set"
unfoldable pub signed : ℕ → ℕ → ℤ
signed n x = cond (bit x (n - 1)) (pos x -ℤ pos (2 ^ n)) (pos x)
