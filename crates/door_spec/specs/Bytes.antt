-- Memory as lent bytes: document 01, 'Blocks and the two doors'.
--   words_of b   the words that bytes stand for
--   bytes_of m   the bytes of words
--   byte b k     byte k of a list of bytes
use Rattle.std.specs.Prelude.{ℕ, ◌+◌, ◌*◌, List, [], ◌∷◌, get_or}
use Rattle.words.specs.Bytes.{lo, hi}

-- "memory two bytes a word, low first"; an odd byte at the end is no word (and a call with one is refused: number 11)
unfoldable pub words_of : List ℕ → List ℕ
words_of [] = []
words_of (l ∷ []) = []
words_of (l ∷ h ∷ rest) = (l + 256 * h) ∷ words_of rest

unfoldable pub bytes_of : List ℕ → List ℕ
bytes_of [] = []
bytes_of (w ∷ rest) = lo w ∷ hi w ∷ bytes_of rest

abbrev pub byte : List ℕ → ℕ → ℕ
byte b k = get_or b k 0
