-- What the private functions state, besides what the contracts of the two calls cite.
--   head_text   the first six bytes of a line: its letter, its register, its lanes, and the byte after them
--   word_text   the last five of a write's line
use Rattle.std.specs.Prelude.{ℕ, ◌+◌, ◌/◌, List, [], ◌∷◌}
use Rattle.digits.specs.Digits.{digit_for}

abbrev pub head_text : ℕ → ℕ → ℕ → ℕ → List ℕ
head_text letter register lanes last = letter ∷ 32 ∷ (48 + register) ∷ 32 ∷ (48 + lanes) ∷ last ∷ []

abbrev pub word_text : ℕ → List ℕ
word_text w = digit_for (w / 4096) ∷ digit_for (w / 256) ∷ digit_for (w / 16) ∷ digit_for w ∷ 10 ∷ []
