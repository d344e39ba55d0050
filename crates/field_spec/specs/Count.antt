-- The words that a field touches, and what they cost: document 01, 'Fields' and, for grants, 'Bus order'.
--   last_word a n          the word of the field's last bit
--   touched a n            how many words it touches: those from its first bit's to its last bit's
--   start_of w             the bit address of bit 0 of word w
--   wholly_covered a n w   all of word w lies in the field
--   sum_over f w k         f added up over k words, w the first of them
--   take_cost              the memory cycles of one word in taking out
--   put_cost whole         those of one word in putting in, by whether it is wholly covered
--   take_cycles, put_cycles a n   the memory cycles of the whole field
--   put_grants a n         the grants of the bus that putting it in needs
use Rattle.std.specs.Prelude.{ℕ, zero, suc, ◌+◌, ◌-◌, ◌*◌, Bool, cond, ◌&&◌, leb}
use Rattle.words.specs.Addresses.{address, word_at}
use Rattle.words.specs.declared.BitAddress.{BitAddress}
use Rattle.words.specs.declared.WordNumber.{WordNumber}
use Rattle.field_spec.specs.Field.{bits_after}

-- ---- the words

abbrev pub last_word : BitAddress → ℕ → WordNumber
last_word a n = word_at (bits_after a (n - 1))

unfoldable pub touched : BitAddress → ℕ → ℕ
touched a n = (last_word a n).0 + 1 - (word_at a).0

abbrev pub start_of : WordNumber → BitAddress
start_of w = address (w.0 * 16)

unfoldable pub wholly_covered : BitAddress → ℕ → WordNumber → Bool
wholly_covered a n w = leb a.0 (start_of w).0 && leb ((start_of w).0 + 16) (a.0 + n)

unfoldable pub sum_over : (WordNumber → ℕ) → WordNumber → ℕ → ℕ
sum_over f w zero = 0
sum_over f w (suc k) = sum_over f w k + f (record { 0 = w.0 + k })

-- ---- what they cost

-- "taking out, one per word touched"
unfoldable pub take_cost : ℕ
take_cost = 1

unfoldable pub take_cycles : BitAddress → ℕ → ℕ
take_cycles a n = sum_over (λ w. take_cost) (word_at a) (touched a n)

-- "putting in, one for a word wholly covered, two (read, write) for one partly covered"
unfoldable pub put_cost : Bool → ℕ
put_cost whole = cond whole 1 2

unfoldable pub put_cycles : BitAddress → ℕ → ℕ
put_cycles a n = sum_over (λ w. put_cost (wholly_covered a n w)) (word_at a) (touched a n)

-- "The two cycles of a partly covered word are one grant": counted here, and no call uses grants up (ours)
unfoldable pub put_grants : BitAddress → ℕ → ℕ
put_grants a n = sum_over (λ w. 1) (word_at a) (touched a n)
