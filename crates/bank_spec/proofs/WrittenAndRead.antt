-- What is written through the port comes back, at its place alone: one access, then a row of them. A row of sixteen writes sets all four
-- banks, whatever they held.
use Prim.Native.Nat.{ℕ, zero, suc, ◌+◌, ◌*◌, ◌%◌, ◌<◌, ◌≤◌}
use native.Mathlib.Omega.{arith}
use mathlib.Core.Path.{◌≡◌, refl, sym, ap, subst, ◌∙◌}
use mathlib.Core.List.{List, [], ◌∷◌}
use mathlib.Core.Logic.{◌≢◌}
use lib.ListN.{length, get_or}
use Rattle.words.specs.Bytes.{are_lanes}
use Rattle.words.specs.Memory.{AreWords}
use Rattle.bank_spec.specs.Registers.{bank, half_at}
use Rattle.bank_spec.specs.Access.{next, port, refusal, read_answer, write_answer}
use Rattle.bank_spec.specs.InPlainWords.{after, counted, writes, words_read}
use Rattle.bank_spec.specs.declared.Banks.{Banks}
use Rattle.bank_spec.specs.declared.BankPort.{BankPort}
use Rattle.bank_spec.proofs.Places.{reads_back, others_stay}
use Rattle.bank_spec.proofs.IndexOrder.{in_halves}
use Rattle.bank_spec.proofs.SixteenAccesses.{sixteen_return}

-- ---- one access of sixteen bits

-- A read of sixteen bits is done: it hands out what is at its place, leaves the registers, and steps the index.
pub read_is : (p : BankPort) →
    let o = read_answer p 3 in
    (o.number ≡ 0) × (o.word ≡ half_at p.banks (p.index % 16)) × (o.port.banks ≡ p.banks) × (o.port.index ≡ (p.index + 1) % 16)
unfolding read_answer refusal are_lanes
read_is p = (refl, refl, refl, omega arith)

-- A write of sixteen bits is done: it hands out nothing, and steps the index.
pub write_is : (p : BankPort) (w : ℕ) →
    let o = write_answer p 3 w in (o.number ≡ 0) × (o.word ≡ 0) × (o.port.index ≡ (p.index + 1) % 16)
unfolding write_answer refusal are_lanes
write_is p w = (refl, refl, omega arith)

module _ (p : BankPort) (w : ℕ) (l : w < 65536) where
  -- After a write of a word its place reads back what was written.
  pub written_there : half_at (write_answer p 3 w).port.banks (p.index % 16) ≡ w
  unfolding write_answer refusal are_lanes
  written_there = reads_back p.banks (p.index % 16) w l

  -- After a write of a word no place but its own is changed.
  pub nowhere_else : (j : ℕ) → j < 16 → j ≢ p.index % 16 → half_at (write_answer p 3 w).port.banks j ≡ half_at p.banks j
  unfolding write_answer refusal are_lanes
  nowhere_else j h d = others_stay p.banks (p.index % 16) w j l (omega arith) h (λ e. d (sym e))

-- ---- a row of writes, and a row of reads

-- Places that a row of writes does not come to keep what they held.
passed_by : (p : BankPort) (ws : List ℕ) → AreWords ws → (j : ℕ) → j < 16 →
    ((k : ℕ) → k < length ws → j ≢ (p.index + k) % 16) → half_at (after p (writes ws)).banks j ≡ half_at p.banks j
unfolding write_answer refusal are_lanes
passed_by p [] a j h d = refl
passed_by p (w ∷ ws) a j h d =
    passed_by (write_answer p 3 w).port ws (λ k. a (suc k)) j h (λ k l e. d (suc k) (omega (arith, l)) (omega (arith, e)))
    ∙ nowhere_else p w (a 0) j h (λ e. d 0 (omega arith) (omega (arith, e)))

-- A row of up to sixteen writes puts each word at the place that the index comes to, and there it stays.
pub row_written : (p : BankPort) (ws : List ℕ) → AreWords ws → length ws ≤ 16 → (k : ℕ) → k < length ws →
    half_at (after p (writes ws)).banks ((p.index + k) % 16) ≡ get_or ws k 0
unfolding write_answer refusal are_lanes
row_written p [] a s k h = absurd (omega arith)
row_written p (w ∷ ws) a s zero h =
    passed_by (write_answer p 3 w).port ws (λ k. a (suc k)) ((p.index + 0) % 16) (omega arith) (λ k l e. omega (arith, l, e, s))
    ∙ ap (half_at (write_answer p 3 w).port.banks) (omega arith)
    ∙ written_there p w (a 0)
row_written p (w ∷ ws) a s (suc k) h =
    ap (half_at (after (write_answer p 3 w).port (writes ws)).banks) (omega arith)
    ∙ row_written (write_answer p 3 w).port ws (λ k. a (suc k)) (omega (arith, s)) k (omega (arith, h))

-- A row of reads hands out what is at the places that the index comes to.
row_read : (p : BankPort) (ws : List ℕ) → ((k : ℕ) → k < length ws → half_at p.banks ((p.index + k) % 16) ≡ get_or ws k 0) →
    words_read p (length ws) ≡ ws
unfolding read_answer refusal are_lanes
row_read p [] h = refl
row_read p (w ∷ ws) h =
    let rest = row_read (port p.banks (next p.index)) ws (λ k l. ap (half_at p.banks) (then k) ∙ h (suc k) (omega (arith, l))) in
    λ j. (ap (half_at p.banks) first ∙ h 0 (omega arith)) j ∷ rest j
  where
    first : p.index % 16 ≡ (p.index + 0) % 16
    first = omega arith

    then : (k : ℕ) → (next p.index + k) % 16 ≡ (p.index + suc k) % 16
    then k = omega arith

all_counted : (ws : List ℕ) → counted (writes ws) ≡ length ws
all_counted [] = refl
all_counted (w ∷ ws) = rw (all_counted ws) (omega arith)

-- Sixteen words that are written, wherever the index stands, are handed out in their order by the next sixteen reads.
pub written_and_read : (p : BankPort) (ws : List ℕ) → AreWords ws → length ws ≡ 16 → words_read (after p (writes ws)) 16 ≡ ws
written_and_read p ws a e =
    subst (λ (n : ℕ). words_read (after p (writes ws)) n ≡ ws) e
    (row_read (after p (writes ws)) ws (λ k l. ap (half_at (after p (writes ws)).banks) (returned k) ∙
    row_written p ws a (omega (arith, e)) k l))
  where
    returned : (k : ℕ) → ((after p (writes ws)).index + k) % 16 ≡ (p.index + k) % 16
    returned k = rw (sixteen_return p (writes ws) (all_counted ws ∙ e)) (omega arith)

-- ---- all four banks set

module _ (b : Banks) (ws : List ℕ) (a : AreWords ws) (e : length ws ≡ 16) where
  abbrev word : ℕ → ℕ
  word k = get_or ws k 0

  abbrev set_banks : Banks
  set_banks = (after (port b 0) (writes ws)).banks

  holds_word : (k : ℕ) → k < 16 → half_at set_banks k ≡ word k
  holds_word k h = ap (half_at set_banks) (omega arith) ∙ row_written (port b 0) ws a (omega (arith, e)) k (omega (arith, h, e))

  two : (i : ℕ) → suc i < 16 → half_at set_banks (suc i) * 65536 + half_at set_banks i ≡ word (suc i) * 65536 + word i
  two i h j = holds_word (suc i) h j * 65536 + holds_word i (omega (arith, h)) j

  -- Sixteen writes from index 0 on set all four banks, whatever they held: the words are the compare values of banks 0 to 3, then their
  -- masks, each the low half first.
  pub set_up :
      (after (port b 0) (writes ws)).banks ≡
      record {
        bank0 = bank (word 1 * 65536 + word 0) (word 9 * 65536 + word 8);
        bank1 = bank (word 3 * 65536 + word 2) (word 11 * 65536 + word 10);
        bank2 = bank (word 5 * 65536 + word 4) (word 13 * 65536 + word 12);
        bank3 = bank (word 7 * 65536 + word 6) (word 15 * 65536 + word 14);
      }
  set_up =
      let v = in_halves set_banks in
      λ j. record {
        bank0 = bank ((v.0 ∙ two 0 (omega arith)) j) ((v.1 ∙ two 8 (omega arith)) j);
        bank1 = bank ((v.2 ∙ two 2 (omega arith)) j) ((v.3 ∙ two 10 (omega arith)) j);
        bank2 = bank ((v.4 ∙ two 4 (omega arith)) j) ((v.5 ∙ two 12 (omega arith)) j);
        bank3 = bank ((v.6 ∙ two 6 (omega arith)) j) ((v.7 ∙ two 14 (omega arith)) j);
      }
