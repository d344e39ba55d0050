-- Bytes, lanes and bits of a 16-bit word: document 01, 'Memory and addresses' and, for lanes, 'The four host registers'.
--   lo w, hi w               the low and the high byte of a word
--   bit w i                  bit i of a word
--   AreBytes b               every number of the list is one of 8 bits, as what is lent as bytes always is
--   takes_low, takes_high    these lanes select the low byte, the high byte
--   are_lanes n              n is 1, 2 or 3
--   lay lanes old l h        the word old with its selected bytes made l (the low one) and h (the high one)
--   shown lanes w            a word as an answer shows it
--   replaced lanes old new   the word old after a write of new
use Rattle.std.specs.Prelude.{ℕ, ◌+◌, ◌*◌, ◌/◌, ◌%◌, ◌^◌, ◌<◌, Bool, cond, ◌||◌, List, ◌==◌, slice_index}

abbrev pub lo : ℕ → ℕ
lo w = w % 256

abbrev pub hi : ℕ → ℕ
hi w = w / 256 % 256

-- "bit 0 the least significant"
unfoldable pub bit : ℕ → ℕ → Bool
bit w i = w / 2 ^ i % 2 == 1

abbrev pub AreBytes : List ℕ → Type 0
AreBytes b = (k : ℕ) → slice_index b k < 256

-- "Lanes: 1 is the low byte, 2 the high, 3 both"
unfoldable pub takes_low : ℕ → Bool
takes_low lanes = lanes == 1 || lanes == 3

unfoldable pub takes_high : ℕ → Bool
takes_high lanes = lanes == 2 || lanes == 3

-- "lanes not 1, 2 or 3" are refused
unfoldable pub are_lanes : ℕ → Bool
are_lanes lanes = lanes == 1 || (lanes == 2 || lanes == 3)

unfoldable pub lay : ℕ → ℕ → ℕ → ℕ → ℕ
lay lanes old l h = cond (takes_low lanes) l (lo old) + 256 * cond (takes_high lanes) h (hi old)

-- "An unselected byte is .. 0 in an answer"
abbrev pub shown : ℕ → ℕ → ℕ
shown lanes w = lay lanes 0 (lo w) (hi w)

-- "An unselected byte is ignored in a write"
abbrev pub replaced : ℕ → ℕ → ℕ → ℕ
replaced lanes old new = lay lanes old (lo new) (hi new)
