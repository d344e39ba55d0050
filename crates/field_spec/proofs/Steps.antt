-- The part of a field that lies in one word, put in at once: n bits of that word from bit o on are the field's next n bits.
-- By induction on n, a bit at a time.
use Prim.Native.Nat.{ℕ, zero, suc, ◌+◌, ◌*◌, ◌/◌, ◌%◌, ◌^◌, ◌≤◌, ◌<◌}
use native.Mathlib.Nat.{add-zero, add-suc, mod-one}
use native.Mathlib.Numerals.{add-one}
use native.Mathlib.Omega.{arith}
use mathlib.Core.Path.{◌≡◌}
use mathlib.Core.List.{List}
use lib.ListN.{length, get_or, set}
use lib.Seq.{get_or-set_same, set-set, set-get_or}
use Rattle.words.specs.Bytes.{bit}
use Rattle.words.specs.declared.BitAddress.{BitAddress}
use Rattle.words.proofs.Bits.{bit_of_quotient}
use Rattle.field_spec.specs.Field.{bits_after, with_field}
use Rattle.field_spec.specs.WithBits.{with_bits}
use Rattle.field_spec.proofs.Readings.{set_bit_in, put_length}
use Rattle.field_spec.proofs.WordBits.{no_bits, next_bit}

module _ (m : List ℕ) (a : BitAddress) (d w o : ℕ) (e : a.0 + d ≡ w * 16 + o) where
  -- Putting in d + n bits is putting in d of them and then replacing n bits of the word, from its bit o on, by the value's next n.
  pub put_part : (v n : ℕ) → o + n ≤ 16 → w < length m
      → with_field m a (d + n) v ≡ set (with_field m a d v) w (with_bits (get_or (with_field m a d v) w 0) o n (v / 2 ^ d % 2 ^ n))
  unfolding with_field
  put_part v zero l h = rw (add-zero d, mod-one (v / 2 ^ d), no_bits, set-get_or)
  put_part v (suc n) l h =
      let M : List ℕ = with_field m a d v in
      let x : ℕ = get_or M w 0 in
      let y : ℕ = with_bits x o n (v / 2 ^ d % 2 ^ n) in
      let inside : w < length M = rw (put_length m a d v) h in
      let here = set_bit_in (set M w y) (bits_after a (d + n)) w (o + n) (omega arith) (omega arith) (bit v (d + n)) in
      rw (
        add-suc d n,
        put_part v n (omega arith) h,
        here,
        get_or-set_same M w y 0 inside,
        set-set,
        ← bit_of_quotient v d n,
        next_bit,
        add-one n,
      )
