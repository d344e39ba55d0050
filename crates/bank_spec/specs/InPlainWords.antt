-- What a sceptical reader means by the words of document 02, request (vi). The laws are said with these; no contract cites them.
--   Access                 an access to the port: read lanes, or write lanes w
--   answer_to p x          what the access x answers
--   after p xs             the port after the accesses xs
--   lanes_of x             the lanes of the access x
--   counted xs             how many of the accesses xs are of sixteen bits
--   writes ws              writes of sixteen bits, of these words
--   words_read p n         what n reads of sixteen bits hand out
--   mask_for k             the mask of a bank of 2^k bits
--   Agrees m v a           each of the 32 bits is disregarded by the mask m, or is the same in the compare value v and in the address a
--   InTurn c a n           the control word c lets a refresh at address a be one of bank n
--   Admits c a kind n      the control word c admits a cycle of that kind for bank n
--   shows o n              the answer o shows bank n selected
use Rattle.std.specs.Prelude.{ℕ, zero, suc, ◌+◌, ◌-◌, ◌^◌, ◌<◌, ◌≡◌, Bool, true, false, cond, List, [], ◌∷◌, map, ◌⊎◌, eqb}
use Rattle.words.specs.Bytes.{bit}
use Rattle.words.specs.declared.BitAddress.{BitAddress}
use Rattle.bank_spec.specs.Access.{read_answer, write_answer}
use Rattle.bank_spec.specs.declared.BankPort.{BankPort}
use Rattle.bank_spec.specs.declared.BankAnswer.{BankAnswer}
use Rattle.bank_spec.specs.declared.Decoded.{Decoded}

-- ---- accesses, one after another

pub data Access : Type 0 where
  read : ℕ → Access
  write : ℕ → ℕ → Access

abbrev pub answer_to : BankPort → Access → BankAnswer
answer_to p (read lanes) = read_answer p lanes
answer_to p (write lanes w) = write_answer p lanes w

abbrev pub after : BankPort → List Access → BankPort
after p [] = p
after p (x ∷ xs) = after (answer_to p x).port xs

abbrev pub lanes_of : Access → ℕ
lanes_of (read lanes) = lanes
lanes_of (write lanes w) = lanes

abbrev pub counted : List Access → ℕ
counted [] = 0
counted (x ∷ xs) = cond (eqb (lanes_of x) 3) (1 + counted xs) (counted xs)

abbrev pub writes : List ℕ → List Access
writes ws = map (write 3) ws

abbrev pub words_read : BankPort → ℕ → List ℕ
words_read p zero = []
words_read p (suc n) = (read_answer p 3).word ∷ words_read (read_answer p 3).port n

-- ---- the address

-- "BKMSKx = 0FFFFFFFh - (bank size in bits) + 1" (an F is lost in print: FFFFFFFFh); for k below 32
abbrev pub mask_for : ℕ → ℕ
mask_for k = 0xFFFFFFFF - 2 ^ k + 1

abbrev pub Agrees : ℕ → ℕ → ℕ → Type 0
Agrees m v a = (i : ℕ) → i < 32 → (bit m i ≡ false) ⊎ (bit v i ≡ bit a i)

-- ---- the control word

-- RM1 is bit 7, RM0 is bit 6; LAD17 and LAD16 are bits of the address
pub data InTurn (c : ℕ) (a : BitAddress) (n : ℕ) : Type 0 where
  with_all : bit c 7 ≡ false → bit c 6 ≡ false → InTurn c a n
  in_a_pair : bit c 7 ≡ false → bit c 6 ≡ true → bit n 0 ≡ bit a.0 16 → InTurn c a n
  alone : bit c 7 ≡ true → bit c 6 ≡ false → bit n 0 ≡ bit a.0 16 → bit n 1 ≡ bit a.0 17 → InTurn c a n

pub data Admits (c : ℕ) (a : BitAddress) (kind n : ℕ) : Type 0 where
  ordinary : kind ≡ 0 → Admits c a kind n
  refresh : kind ≡ 1 → bit c (8 + n) ≡ false → InTurn c a n → Admits c a kind n
  special : kind ≡ 2 → bit c (12 + n) ≡ true → Admits c a kind n

-- ---- the answer

abbrev pub shows : Decoded → ℕ → Bool
shows o n = cond (eqb n 0) o.bank0 (cond (eqb n 1) o.bank1 (cond (eqb n 2) o.bank2 o.bank3))
