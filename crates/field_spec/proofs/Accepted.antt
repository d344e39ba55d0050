-- The tests of `refusal` in its order, by cases; and what they say of a field that is accepted.
use Prim.Native.Nat.{ℕ, ◌≤◌, ◌<◌}
use native.Mathlib.Omega.{arith}
use mathlib.Core.Path.{◌≡◌, refl}
use mathlib.Core.Bool.{Bool, true, false, cond, ◌||◌}
use mathlib.Core.Logic.{◌↔◌, ◌≢◌}
use lib.Dec.{ltb, leb}
use borrow.Author.Tests.{ltb-true, ltb-false, leb-true, leb-false}
use Rattle.std.proofs.lemmas.Bool.{or_parts}
use Rattle.words.specs.declared.BitAddress.{BitAddress}
use Rattle.field_spec.specs.Count.{last_word, touched}
use Rattle.field_spec.specs.Answers.{no_size, refusal, Accepted}

-- v is the number for a memory of so many words and a field of n bits that touches t words, l the last of them
pub record Tested (words n t l v : ℕ) : Type 0 where
  pub listed : (v ≤ 6) × (v ≢ 2) × (v ≢ 3)
  pub over : v ≡ 1 ↔ 32768 < words
  pub small : words ≤ 32768 → n < 1 → v ≡ 4
  pub large : words ≤ 32768 → 32 < n → v ≡ 4
  pub no_size : v ≡ 4 → (words ≤ 32768) × (1 ≤ n → 32 < n)
  pub too_wide : v ≡ 5 ↔ (words ≤ 32768) × (1 ≤ n) × (n ≤ 32) × (3 < t)
  pub missing : v ≡ 6 ↔ (words ≤ 32768) × (1 ≤ n) × (n ≤ 32) × (t ≤ 3) × (words ≤ l)
  pub done : v ≡ 0 ↔ (words ≤ 32768) × (1 ≤ n) × (n ≤ 32) × (t ≤ 3) × (l < words)

-- `refusal` gives the number that its tests come to, by the memory, the size, how many words the field touches and the last of them
-- (`Tested`).
pub tested : (words : ℕ) (a : BitAddress) (n : ℕ) → Tested words n (touched a n) (last_word a n).0 (refusal words a n)
unfolding refusal no_size
tested words a n = go (touched a n) (last_word a n).0 (ltb 32768 words) (ltb n 1) (ltb 32 n) _ _ refl refl refl refl refl
  where
    go : (k l : ℕ) (over small large wide gone : Bool) → ltb 32768 words ≡ over → ltb n 1 ≡ small → ltb 32 n ≡ large
        → ltb 3 k ≡ wide → leb words l ≡ gone
        → Tested words n k l (cond over 1 (cond (small || large) 4 (cond wide 5 (cond gone 6 0))))
    go k l true small large wide gone p q r s t = omega (arith, ltb-true 32768 words p)
    go k l false true large wide gone p q r s t = omega (arith, ltb-false 32768 words p, ltb-true n 1 q)
    go k l false false true wide gone p q r s t = omega (arith, ltb-false 32768 words p, ltb-false n 1 q, ltb-true 32 n r)
    go k l false false false true gone p q r s t =
        omega (arith, ltb-false 32768 words p, ltb-false n 1 q, ltb-false 32 n r, ltb-true 3 k s)
    go k l false false false false true p q r s t =
        omega (arith, ltb-false 32768 words p, ltb-false n 1 q, ltb-false 32 n r, ltb-false 3 k s, leb-true words l t)
    go k l false false false false false p q r s t =
        omega (arith, ltb-false 32768 words p, ltb-false n 1 q, ltb-false 32 n r, ltb-false 3 k s, leb-false words l t)

-- Where no refusal applies to a field, the memory is short enough, the size is one of 1 to 32, and the last word is in memory.
pub none_applies : (words : ℕ) (a : BitAddress) (n : ℕ) → refusal words a n ≡ 0 → Accepted words a n
none_applies words a n e =
    let t = (tested words a n).done.0 e in
    record { few = t.0; some = t.1; most = t.2; there = t.4 }

-- A size that is none of those refused with 4 is one of 1 to 32.
pub sized : (n : ℕ) → no_size n ≡ false → (1 ≤ n) × (n ≤ 32)
unfolding no_size
sized n e =
    let b = or_parts (ltb n 1) (ltb 32 n) e in
    (ltb-false n 1 b.0, ltb-false 32 n b.1)
