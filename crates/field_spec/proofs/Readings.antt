-- What the definitions of a field say, bit by bit: bit i of a field is memory bit address + i; putting in makes memory bit
-- address + i the value's bit i, and changes no other bit. Each law goes by induction on the field's bits.
use Prim.Native.Nat.{ℕ, zero, suc, ◌+◌, ◌*◌, ◌/◌, ◌%◌, ◌^◌, ◌≤◌, ◌<◌}
use native.Mathlib.Nat.{add_comm, mod-one}
use native.Mathlib.Numerals.{add-one}
use native.Mathlib.Omega.{arith}
use mathlib.Core.Path.{◌≡◌, refl, sym, ap, ◌∙◌}
use mathlib.Core.Bool.{Bool, true, false, cond}
use mathlib.Core.List.{List}
use mathlib.Core.Logic.{⊎_elim, ◌≢◌}
use lib.ListN.{length, get_or, set, length-set}
use lib.Seq.{set_out, get_or-set_same, get_or-set_other, set-get_or}
use Rattle.words.specs.Addresses.{address, word_at}
use Rattle.words.specs.Bytes.{bit}
use Rattle.words.specs.Memory.{AreWords}
use Rattle.words.specs.declared.BitAddress.{BitAddress}
use Rattle.std.proofs.lemmas.Bool.{cases_eq, cases_lt}
use Rattle.words.proofs.Bits.{bit_above, bit_of_remainder, one_bit_more}
use Rattle.field_spec.specs.Field.{bits_after, memory_bit, with_bit, set_memory_bit, field_at, with_field}
use Rattle.field_spec.specs.InPlainWords.{Covers}
use Rattle.field_spec.proofs.OneBit.{top_is, rest_is, bit_made, bit_kept, bit_as_it_is, bit_fits}

-- ---- one bit of memory

module _ (m : List ℕ) (b : BitAddress) (w o : ℕ) (e : b.0 ≡ w * 16 + o) (l : o < 16) where
  -- Memory bit 16 w + o is bit o of word w.
  pub bit_in : memory_bit m b ≡ bit (get_or m w 0) o
  unfolding memory_bit
  bit_in =
      let q : b.0 / 16 ≡ w = omega arith in
      let r : b.0 % 16 ≡ o = omega arith in
      rw (q, r)

  -- Making memory bit 16 w + o a value makes bit o of word w that value.
  pub set_bit_in : (v : Bool) → set_memory_bit m b v ≡ set m w (with_bit (get_or m w 0) o v)
  unfolding set_memory_bit
  set_bit_in v =
      let q : b.0 / 16 ≡ w = omega arith in
      let r : b.0 % 16 ≡ o = omega arith in
      rw (q, r)

module _ (m : List ℕ) (b : BitAddress) where
  -- A bit of a word in memory is made what is asked.
  pub made : (v : Bool) → (word_at b).0 < length m → memory_bit (set_memory_bit m b v) b ≡ v
  unfolding memory_bit set_memory_bit
  made v h =
      let w : ℕ = get_or m (b.0 / 16) 0 in
      rw (get_or-set_same m (b.0 / 16) (with_bit w (b.0 % 16) v) 0 h) (bit_made w (b.0 % 16) v)

  -- Making a memory bit what is asked changes no other bit.
  pub kept : (v : Bool) (c : BitAddress) → c.0 ≢ b.0 → memory_bit (set_memory_bit m b v) c ≡ memory_bit m c
  unfolding memory_bit set_memory_bit
  kept v c d =
      let w : ℕ = b.0 / 16 in
      let x : ℕ = with_bit (get_or m w 0) (b.0 % 16) v in
      ⊎_elim
      (λ e. ⊎_elim
      (λ l. ap (λ (k : ℕ). bit (get_or (set m w x) k 0) (c.0 % 16)) e
      ∙ ap (λ (y : ℕ). bit y (c.0 % 16)) (get_or-set_same m w x 0 l)
      ∙ bit_kept (get_or m w 0) (b.0 % 16) v (c.0 % 16) (λ f. d (omega (arith, e, f)))
      ∙ ap (λ (k : ℕ). bit (get_or m k 0) (c.0 % 16)) (sym e))
      (λ l. rw (set_out m w x l))
      (cases_lt w (length m)))
      (λ n. rw (get_or-set_other m w (c.0 / 16) x 0 n))
      (cases_eq (c.0 / 16) w)

  -- A bit made what it is changes nothing.
  pub as_it_is : set_memory_bit m b (memory_bit m b) ≡ m
  unfolding memory_bit set_memory_bit
  as_it_is = rw (bit_as_it_is (get_or m (b.0 / 16) 0) (b.0 % 16), set-get_or)

-- ---- the field's size

add_weight : (b : Bool) (x n : ℕ) → x < 2 ^ n → x + cond b (2 ^ n) 0 < 2 ^ suc n
add_weight true x n h = omega arith
add_weight false x n h = omega arith

-- A field of n bits is a number of n bits.
pub field_fits : (m : List ℕ) (a : BitAddress) (n : ℕ) → field_at m a n < 2 ^ n
unfolding field_at
field_fits m a zero = omega arith
field_fits m a (suc n) = add_weight (memory_bit m (bits_after a n)) (field_at m a n) n (field_fits m a n)

-- ---- taking out

-- Bit i of a field is memory bit address + i.
pub field_bit : (m : List ℕ) (a : BitAddress) (n i : ℕ) → i < n → bit (field_at m a n) i ≡ memory_bit m (address (a.0 + i))
unfolding field_at
field_bit m a zero i l = absurd (omega arith)
field_bit m a (suc n) i l =
    let f : ℕ = field_at m a n in
    let t : Bool = memory_bit m (bits_after a n) in
    rw (add_comm f (cond t (2 ^ n) 0))
    (⊎_elim
    (λ e. rw e (top_is n f (field_fits m a n) t))
    (λ d. let k : i < n = omega (arith, d) in
    sym (bit_of_remainder (cond t (2 ^ n) 0 + f) n i k)
    ∙ ap (λ (x : ℕ). bit x i) (rest_is n f (field_fits m a n) t) ∙ field_bit m a n i k)
    (cases_eq i n))

-- A field has no bit beyond its size.
pub field_bit_beyond : (m : List ℕ) (a : BitAddress) (n i : ℕ) → n ≤ i → bit (field_at m a n) i ≡ false
field_bit_beyond m a n i l = bit_above n (field_fits m a n) l

-- A field whose bits are those of v is v modulo 2^n.
pub field_from_bits : (m : List ℕ) (a : BitAddress) (n v : ℕ) → ((i : ℕ) → i < n → memory_bit m (bits_after a i) ≡ bit v i)
    → field_at m a n ≡ v % 2 ^ n
unfolding field_at
field_from_bits m a zero v h = sym (mod-one v)
field_from_bits m a (suc n) v h =
    rw (field_from_bits m a n v (λ i l. h i (omega (arith, l))), h n (omega arith), ← add-one n, one_bit_more v n) (omega arith)

-- ---- putting in

set_length : (m : List ℕ) (b : BitAddress) (v : Bool) → length (set_memory_bit m b v) ≡ length m
unfolding set_memory_bit
set_length m b v = length-set m (b.0 / 16) _

-- No putting in changes the memory's length.
pub put_length : (m : List ℕ) (a : BitAddress) (n v : ℕ) → length (with_field m a n v) ≡ length m
unfolding with_field
put_length m a zero v = refl
put_length m a (suc n) v = set_length (with_field m a n v) (bits_after a n) _ ∙ put_length m a n v

-- Putting in makes memory bit address + i the value's bit i, where its word is in memory.
pub put_bit : (m : List ℕ) (a : BitAddress) (n v i : ℕ) → i < n → (word_at (address (a.0 + i))).0 < length m
    → memory_bit (with_field m a n v) (address (a.0 + i)) ≡ bit v i
unfolding with_field
put_bit m a zero v i l h = absurd (omega arith)
put_bit m a (suc n) v i l h =
    ⊎_elim
    (λ e. rw e (made (with_field m a n v) (bits_after a n) (bit v n) (rw put_length (rw e at h))))
    (λ d. kept (with_field m a n v) (bits_after a n) (bit v n) (bits_after a i) (λ f. d (omega (arith, f)))
    ∙ put_bit m a n v i (omega (arith, d)) h)
    (cases_eq i n)

-- Putting in changes no bit outside the field.
pub put_elsewhere : (m : List ℕ) (a : BitAddress) (n v : ℕ) (b : BitAddress) → (Covers a n b → ⊥)
    → memory_bit (with_field m a n v) b ≡ memory_bit m b
unfolding with_field
put_elsewhere m a zero v b d = refl
put_elsewhere m a (suc n) v b d =
    kept (with_field m a n v) (bits_after a n) (bit v n) b (λ e. d (record { from = omega (arith, e); to = omega (arith, e) }))
    ∙ put_elsewhere m a n v b (λ h. d (record { from = h.from; to = omega (arith, h.to) }))

-- ---- words stay words

set_words : (m : List ℕ) (b : BitAddress) (v : Bool) → AreWords m → AreWords (set_memory_bit m b v)
unfolding set_memory_bit
set_words m b v h i =
    let w : ℕ = b.0 / 16 in
    let x : ℕ = with_bit (get_or m w 0) (b.0 % 16) v in
    ⊎_elim
    (λ e. ⊎_elim
    (λ l. rw e (rw (get_or-set_same m w x 0 l) (bit_fits (get_or m w 0) (b.0 % 16) 16 v (h w) (omega arith))))
    (λ l. rw (set_out m w x l) (h i))
    (cases_lt w (length m)))
    (λ n. rw (get_or-set_other m w i x 0 n) (h i))
    (cases_eq i w)

-- Putting in leaves a memory of sixteen-bit words one of sixteen-bit words.
pub put_words : (m : List ℕ) (a : BitAddress) (n v : ℕ) → AreWords m → AreWords (with_field m a n v)
unfolding with_field
put_words m a zero v h = h
put_words m a (suc n) v h = set_words (with_field m a n v) (bits_after a n) (bit v n) (put_words m a n v h)
