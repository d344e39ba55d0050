-- A record that a byte shows to be bad has number 21, 22 or 23, and never 0; and not 20 either, which comes only with the end. In all a bad
-- record has 20 to 23, and a bad entry 2, 3 or 22.
use Prim.Native.Nat.{ℕ, ◌%◌, ◌≤◌}
use native.Mathlib.Omega.{arith}
use mathlib.Core.Path.{◌≡◌, refl}
use mathlib.Core.Bool.{Bool, true, false, cond}
use mathlib.Core.List.{List}
use mathlib.Core.Logic.{◌⊎◌, inl, inr, ◌≢◌}
use lib.Dec.{eqb, ltb}
use Rattle.transcript_spec.specs.InPlainWords.{BadEntry, BadHead, BadWord, BadRecord}
use Rattle.transcript_spec.specs.InPlainWords as plain
use Rattle.transcript_spec.specs.Reading.{grown, head_read, word_read, byte_taken}
use Rattle.transcript_spec.specs.declared.Entry.{Entry}
use Rattle.transcript_spec.specs.declared.Number.{Number}
use Rattle.transcript_spec.specs.declared.Part.{Part}
use Rattle.transcript_spec.specs.declared.Part.TheVariants.{Head, Word}
use Rattle.transcript_spec.specs.declared.Step.{Step}
use Rattle.transcript_spec.specs.declared.Step.TheVariants.{Goes, Whole, Bad}

-- what a byte made is no refusal, or one with such a number
abbrev Numbered : Step → Type 0
Numbered (Goes p) = Unit {0}
Numbered (Whole e) = Unit {0}
Numbered (Bad n) = (21 ≤ n) × (n ≤ 23)

-- it is so whichever of two it is
either_numbered : (t : Bool) (x y : Step) → Numbered x → Numbered y → Numbered (cond t x y)
either_numbered true x y h k = h
either_numbered false x y h k = k

head_numbered : (n : Number) → Numbered (head_read n)
unfolding head_read
head_numbered n =
    either_numbered n.padded _ _ (omega arith, omega arith)
    (either_numbered (ltb 31 n.value) _ _ (omega arith, omega arith)
    (either_numbered (ltb n.value 8) _ _ (omega arith, omega arith) (either_numbered (eqb (n.value % 2) 0) _ _ tt tt)))

word_numbered : (h : ℕ) (n : Number) → Numbered (word_read h n)
unfolding word_read
word_numbered h n = either_numbered n.padded _ _ (omega arith, omega arith)
    (either_numbered (ltb 65535 n.value) _ _ (omega arith, omega arith) tt)

step_numbered : (p : Part) (b : ℕ) → Numbered (byte_taken p b)
unfolding byte_taken
step_numbered (Head n) b = either_numbered (ltb b 128) _ _ (head_numbered (grown n b)) tt
step_numbered (Word h n) b = either_numbered (ltb b 128) _ _ (word_numbered h (grown n b)) tt

-- A record that a byte shows to be bad is refused with 21, 22 or 23.
pub bad_range : (p : Part) (b : ℕ) {n : ℕ} → byte_taken p b ≡ Bad n → (21 ≤ n) × (n ≤ 23)
bad_range p b e = rw e at (step_numbered p b)

-- A record that a byte shows to be bad is not refused with 0.
pub bad_has_number : (p : Part) (b : ℕ) {n : ℕ} → byte_taken p b ≡ Bad n → n ≢ 0
bad_has_number p b e z = let h = bad_range p b e in omega arith

-- ---- in plain words
head_number : {s : List ℕ} {n : ℕ} → BadHead s n → (20 ≤ n) × (n ≤ 23)
head_number (plain.BadHead.padded h) = (omega arith, omega arith)
head_number (plain.BadHead.over h k) = (omega arith, omega arith)
head_number (plain.BadHead.off_lanes h k) = (omega arith, omega arith)

word_number : {s : List ℕ} {n : ℕ} → BadWord s n → (20 ≤ n) × (n ≤ 23)
word_number (plain.BadWord.padded h) = (omega arith, omega arith)
word_number (plain.BadWord.over h k) = (omega arith, omega arith)

-- A bad record is refused with 20, 21, 22 or 23.
pub record_number : {s : List ℕ} {n : ℕ} → BadRecord s n → (20 ≤ n) × (n ≤ 23)
record_number (plain.BadRecord.head_cut c) = (omega arith, omega arith)
record_number (plain.BadRecord.head_bad s p b) = head_number b
record_number (plain.BadRecord.word_cut s w c) = (omega arith, omega arith)
record_number (plain.BadRecord.word_bad s w p b) = word_number b

-- A bad entry is refused with 2, 3 or 22.
pub entry_number : {e : Entry} {n : ℕ} → BadEntry e n → (n ≡ 2) ⊎ ((n ≡ 3) ⊎ (n ≡ 22))
entry_number (plain.BadEntry.no_register h) = inl refl
entry_number (plain.BadEntry.no_lanes r o) = inr (inl refl)
entry_number (plain.BadEntry.long_word r a l h) = inr (inr refl)
entry_number (plain.BadEntry.no_kind r a l h) = inr (inr refl)
entry_number (plain.BadEntry.read_with_word r a l z d) = inr (inr refl)
