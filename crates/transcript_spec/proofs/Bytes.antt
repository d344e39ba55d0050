-- Strings of bytes, joined and divided: each part is bytes, and so is the whole.
use Prim.Native.Nat.{ℕ, zero, suc, ◌<◌}
use native.Mathlib.Omega.{arith}
use mathlib.Core.List.{List, [], ◌∷◌, ◌++◌}
use Rattle.words.specs.Bytes.{AreBytes}

-- The empty string is bytes.
pub bytes_none : AreBytes []
bytes_none k = omega arith

-- A byte in front of bytes makes bytes.
pub bytes_cons : (b : ℕ) (s : List ℕ) → b < 256 → AreBytes s → AreBytes (b ∷ s)
bytes_cons b s h q zero = h
bytes_cons b s h q (suc k) = q k

-- The first part of bytes is bytes.
pub bytes_first : (s t : List ℕ) → AreBytes (s ++ t) → AreBytes s
bytes_first [] t q k = omega arith
bytes_first (b ∷ s) t q zero = q zero
bytes_first (b ∷ s) t q (suc k) = bytes_first s t (λ j. q (suc j)) k

-- The second part of bytes is bytes.
pub bytes_second : (s t : List ℕ) → AreBytes (s ++ t) → AreBytes t
bytes_second [] t q = q
bytes_second (b ∷ s) t q = bytes_second s t (λ j. q (suc j))

-- Bytes behind bytes are bytes.
pub bytes_joined : (s t : List ℕ) → AreBytes s → AreBytes t → AreBytes (s ++ t)
bytes_joined [] t p q = q
bytes_joined (b ∷ s) t p q = bytes_cons b (s ++ t) (p zero) (bytes_joined s t (λ j. p (suc j)) q)
