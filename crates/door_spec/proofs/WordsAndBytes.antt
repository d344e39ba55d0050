-- Words and the bytes they are lent as: each word is its two bytes, low first, and either list gives back the other.
-- By recursion on the list, two bytes at a time.
use Prim.Native.Nat.{ℕ, zero, suc, ◌+◌, ◌*◌, ◌/◌, ◌%◌, ◌<◌}
use native.Mathlib.Omega.{arith}
use mathlib.Core.Path.{◌≡◌, refl, sym, ap, ◌∙◌}
use mathlib.Core.List.{List, [], ◌∷◌}
use lib.ListN.{length, get_or}
use Rattle.words.specs.Bytes.{lo, hi, AreBytes}
use Rattle.words.specs.Memory.{AreWords}
use Rattle.words.proofs.Lanes.{low_of, high_of, whole_word}
use Rattle.door_spec.specs.Bytes.{words_of, bytes_of, byte}

half : (k : ℕ) → suc (suc k) / 2 ≡ suc (k / 2)
half k = omega arith

-- The low byte of the next word lies two bytes on: 2 (n + 1) is 2 n + 2.
pub twice : (n : ℕ) → 2 * suc n ≡ suc (suc (2 * n))
twice n = omega arith

-- The high byte of the next word lies two bytes on: 2 (n + 1) + 1 is 2 n + 1 + 2.
pub twice_one : (n : ℕ) → 2 * suc n + 1 ≡ suc (suc (2 * n + 1))
twice_one n = omega arith

-- There is a word for every two bytes.
pub words_length : (b : List ℕ) → length (words_of b) ≡ length b / 2
unfolding words_of
words_length [] = refl
words_length (l ∷ []) = refl
words_length (l ∷ h ∷ rest) = ap suc (words_length rest) ∙ sym (half (length rest))

-- Word n is byte 2 n, the low one, and byte 2 n + 1.
pub word_is_two_bytes : (b : List ℕ) (n : ℕ) → n < length (words_of b) → get_or (words_of b) n 0 ≡ byte b (2 * n) + 256 * byte b (2 * n + 1)
unfolding words_of
word_is_two_bytes [] n h = absurd (omega arith)
word_is_two_bytes (l ∷ []) n h = absurd (omega arith)
word_is_two_bytes (l ∷ k ∷ rest) zero h = refl
word_is_two_bytes (l ∷ k ∷ rest) (suc n) h = rw (twice_one, twice) (word_is_two_bytes rest n (omega arith))

-- There are two bytes for every word.
pub bytes_length : (m : List ℕ) → length (bytes_of m) ≡ 2 * length m
unfolding bytes_of
bytes_length [] = refl
bytes_length (w ∷ rest) = omega (arith, bytes_length rest)

-- Byte 2 n is the low byte of word n.
pub low_byte_first : (m : List ℕ) (n : ℕ) → byte (bytes_of m) (2 * n) ≡ lo (get_or m n 0)
unfolding bytes_of
low_byte_first [] n = refl
low_byte_first (w ∷ rest) zero = refl
low_byte_first (w ∷ rest) (suc n) = rw twice (low_byte_first rest n)

-- Byte 2 n + 1 is the high byte of word n.
pub high_byte_second : (m : List ℕ) (n : ℕ) → byte (bytes_of m) (2 * n + 1) ≡ hi (get_or m n 0)
unfolding bytes_of
high_byte_second [] n = refl
high_byte_second (w ∷ rest) zero = refl
high_byte_second (w ∷ rest) (suc n) = rw twice_one (high_byte_second rest n)

-- An even number of bytes, taken as words, are the bytes of those words.
pub bytes_of_words : (b : List ℕ) → length b % 2 ≡ 0 → AreBytes b → bytes_of (words_of b) ≡ b
unfolding words_of bytes_of
bytes_of_words [] e s = refl
bytes_of_words (l ∷ []) e s = absurd (omega arith)
bytes_of_words (l ∷ h ∷ rest) e s =
    rw (low_of l h (s 0), high_of l h (s 0) (s 1), bytes_of_words rest (omega arith) (λ k. s (suc (suc k))))

-- Words, taken as bytes, are the words of those bytes.
pub words_of_bytes : (m : List ℕ) → AreWords m → words_of (bytes_of m) ≡ m
unfolding words_of bytes_of
words_of_bytes [] s = refl
words_of_bytes (w ∷ rest) s = rw (whole_word w (s 0), words_of_bytes rest (λ k. s (suc k)))

-- ---- words of bytes are words, bytes of words are bytes
-- Two bytes make a word of 16 bits.
pub words_fit : (b : List ℕ) → AreBytes b → AreWords (words_of b)
unfolding words_of
words_fit [] s k = omega arith
words_fit (l ∷ []) s k = omega arith
words_fit (l ∷ h ∷ rest) s zero = omega (arith, s 0, s 1)
words_fit (l ∷ h ∷ rest) s (suc k) = words_fit rest (λ j. s (suc (suc j))) k

-- The bytes of words are bytes.
pub bytes_fit : (m : List ℕ) → AreBytes (bytes_of m)
unfolding bytes_of
bytes_fit [] k = omega arith
bytes_fit (w ∷ rest) zero = omega arith
bytes_fit (w ∷ rest) (suc zero) = omega arith
bytes_fit (w ∷ rest) (suc (suc k)) = bytes_fit rest k
