-- Putting an accepted field in, in one word, in two and in three: its parts, put in one after the other, are the field, and the
-- cycles are the sum over its words.
use Prim.Native.Nat.{ℕ, ◌+◌, ◌-◌, ◌*◌, ◌/◌, ◌%◌, ◌^◌, ◌≤◌, ◌<◌}
use native.Mathlib.Nat.{div-one}
use native.Mathlib.Omega.{arith}
use mathlib.Core.Path.{◌≡◌, refl, sym, ap, ap₂, ◌∙◌}
use mathlib.Core.Bool.{Bool, true, false, ◌&&◌}
use mathlib.Core.List.{List}
use mathlib.Core.Logic.{◌≢◌, ⊎_elim}
use lib.Dec.{leb, eqb}
use lib.ListN.{length, length-set}
use borrow.Author.Tests.{le-leb, lt-leb, leb-true, eq-eqb, ne_eqb}
use Rattle.std.proofs.lemmas.Bool.{cases_eq}
use Rattle.words.specs.Addresses.{word_at}
use Rattle.words.specs.declared.BitAddress.{BitAddress}
use Rattle.words.specs.declared.WordNumber.{WordNumber}
use Rattle.field_spec.specs.Field.{with_field}
use Rattle.field_spec.specs.Count.{touched, wholly_covered, put_cost, put_cycles}
use Rattle.field_spec.proofs.Steps.{put_part}
use Rattle.field_spec.proofs.Sums.{sum_of_one, sum_of_two}
use Rattle.field_spec.specs.Answers.{Accepted}
use Rattle.field.specs.Parts.{Scattered, with_part}

-- ---- the cost of a word

-- Putting in has at most two cycles in a word.
pub put_little : (whole : Bool) → put_cost whole ≤ 2
unfolding put_cost
put_little true = omega arith
put_little false = omega arith

module _ (a : BitAddress) (n : ℕ) (w : WordNumber) where
  -- The field begins no later than the word, and ends no sooner.
  whole : a.0 ≤ w.0 * 16 → w.0 * 16 + 16 ≤ a.0 + n → wholly_covered a n w ≡ true
  unfolding wholly_covered
  whole h l = rw (le-leb a.0 (w.0 * 16) h, le-leb (w.0 * 16 + 16) (a.0 + n) l)

  -- It begins later, or ends sooner.
  partial : (a.0 ≤ w.0 * 16 → a.0 + n < w.0 * 16 + 16) → wholly_covered a n w ≡ false
  unfolding wholly_covered
  partial h = go (leb a.0 (w.0 * 16)) refl
    where
      go : (b : Bool) → leb a.0 (w.0 * 16) ≡ b → b && leb (w.0 * 16 + 16) (a.0 + n) ≡ false
      go false e = refl
      go true e = rw (lt-leb (w.0 * 16 + 16) (a.0 + n) (h (leb-true _ _ e)))

  -- By how many bits k of the field lie in it.
  cost_by : (k : ℕ) → (k ≡ 16 → (a.0 ≤ w.0 * 16) × (w.0 * 16 + 16 ≤ a.0 + n))
      → (k ≢ 16 → a.0 ≤ w.0 * 16 → a.0 + n < w.0 * 16 + 16) → put_cost (wholly_covered a n w) ≡ put_cost (eqb k 16)
  cost_by k f g =
      ap put_cost
      (⊎_elim (λ e. whole (f e).0 (f e).1 ∙ sym (eq-eqb k 16 e)) (λ d. partial (g d) ∙ sym (ne_eqb k 16 d)) (cases_eq k 16))

-- ---- the cycles

-- The word that lies k words after the field's first.
abbrev later : BitAddress → ℕ → WordNumber
later a k = record { 0 = (word_at a).0 + k }

module _ (a : BitAddress) (n : ℕ) where
  abbrev cost : WordNumber → ℕ
  cost w = put_cost (wholly_covered a n w)

  cycles_of_one : touched a n ≡ 1 → put_cycles a n ≡ cost (word_at a)
  unfolding put_cycles
  cycles_of_one t = rw (t, sum_of_one cost (word_at a))

  cycles_of_two : touched a n ≡ 2 → put_cycles a n ≡ cost (word_at a) + cost (later a 1)
  unfolding put_cycles
  cycles_of_two t = rw (t, sum_of_two cost (word_at a) 1 1, sum_of_one cost (word_at a), sum_of_one cost (later a 1))

  cycles_of_three : touched a n ≡ 3 → put_cycles a n ≡ cost (word_at a) + cost (later a 1) + cost (later a 2)
  unfolding put_cycles
  cycles_of_three t =
      rw (
        t,
        sum_of_two cost (word_at a) 2 1,
        sum_of_two cost (word_at a) 1 1,
        sum_of_one cost (word_at a),
        sum_of_one cost (later a 1),
        sum_of_one cost (later a 2),
      )

-- ---- the memory

-- A memory with a part put in is as long.
pub part_length : (m : List ℕ) (w o k v d : ℕ) → length (with_part m w o k v d) ≡ length m
unfolding with_part
part_length m w o k v d = length-set m w _

-- The low bits of what is left of a value beyond its d low bits are the value's from bit d on.
pub rest_of_value : (m : List ℕ) (w o k v d : ℕ) → with_part m w o k (v / 2 ^ d) 0 ≡ with_part m w o k v d
unfolding with_part
rest_of_value m w o k v d = rw (div-one (v / 2 ^ d))

module _ (m : List ℕ) (a : BitAddress) (v : ℕ) where
  -- With d bits put in, the field goes on at bit o of word w: with k bits more put in there, e are.
  next_part : (M : List ℕ) (w o k d e : ℕ) → M ≡ with_field m a d v → a.0 + d ≡ w * 16 + o → o + k ≤ 16 → w < length m → d + k ≡ e
      → with_part M w o k v d ≡ with_field m a e v
  unfolding with_part
  next_part M w o k d e q p l h s = rw q (sym (put_part m a d w o p v k l h) ∙ ap (λ (x : ℕ). with_field m a x v) s)

  first_part : (k : ℕ) → a.0 % 16 + k ≤ 16 → (word_at a).0 < length m
      → with_part m (word_at a).0 (a.0 % 16) k v 0 ≡ with_field m a k v
  unfolding with_field
  first_part k l h = next_part m (word_at a).0 (a.0 % 16) k 0 k refl (omega arith) l h (omega arith)

-- ---- the field

-- The bit of its first word that it begins with.
abbrev from : BitAddress → ℕ
from a = a.0 % 16

module _ (m : List ℕ) (a : BitAddress) (n v : ℕ) (h : Accepted (length m) a n) where
  -- An accepted field that ends in its first word is put in by one part, its n bits; one cycle if these are all 16, else two.
  pub in_one : from a + n ≤ 16 → Scattered m a n v (put_cost (eqb n 16)) (with_part m (word_at a).0 (from a) n v 0)
  unfolding touched
  in_one l =
      let s = h.some in
      let t = h.there in
      record {
        count = sym (cycles_of_one a n (omega arith)
            ∙ cost_by a n (word_at a) n (λ e. (omega arith, omega arith)) (λ d z. omega arith));
        memory = first_part m a v n l (omega arith);
      }

  -- An accepted field that ends in its second word is put in by two parts, the first word's upper bits and the second's lower ones; for
  -- each, one cycle if it is all 16 bits, else two.
  pub in_two : 16 < from a + n → from a + n ≤ 32
      → Scattered m a n v (put_cost (eqb (16 - from a) 16) + put_cost (eqb (from a + n - 16) 16))
      (with_part (with_part m (word_at a).0 (from a) (16 - from a) v 0) ((word_at a).0 + 1) 0 (from a + n - 16) v (16 - from a))
  unfolding touched
  in_two l u =
      let t = h.there in
      record {
        count = sym (cycles_of_two a n (omega arith)
            ∙ ap₂ (λ (x y : ℕ). x + y)
            (cost_by a n (word_at a) (16 - from a) (λ e. (omega arith, omega arith)) (λ d z. omega arith))
            (cost_by a n (later a 1) (from a + n - 16) (λ e. (omega arith, omega arith)) (λ d z. omega arith)));
        memory = next_part m a v _ ((word_at a).0 + 1) 0 (from a + n - 16) (16 - from a) n
            (first_part m a v (16 - from a) (omega arith) (omega arith)) (omega arith) (omega arith) (omega arith) (omega arith);
      }

  -- An accepted field that ends in its third word is put in by three parts, the first word's upper bits, all of the second and the third's
  -- lower ones, with five cycles.
  pub in_three : 32 < from a + n
      → Scattered m a n v 5
      (with_part
      (with_part (with_part m (word_at a).0 (from a) (16 - from a) v 0) ((word_at a).0 + 1) 0 16 v (16 - from a))
      ((word_at a).0 + 2) 0 (from a + n - 32) v (16 - from a + 16))
  unfolding touched put_cost
  in_three l =
      let s = h.most in
      let t = h.there in
      record {
        count = sym (cycles_of_three a n (omega arith)
            ∙ rw (
              partial a n (word_at a) (λ z. omega arith),
              whole a n (later a 1) (omega arith) (omega arith),
              partial a n (later a 2) (λ z. omega arith),
            ));
        memory = next_part m a v _ ((word_at a).0 + 2) 0 (from a + n - 32) (16 - from a + 16) n
            (next_part m a v _ ((word_at a).0 + 1) 0 16 (16 - from a) (16 - from a + 16)
            (first_part m a v (16 - from a) (omega arith) (omega arith)) (omega arith) (omega arith) (omega arith) (omega arith))
            (omega arith) (omega arith) (omega arith) (omega arith);
      }
