-- A record is carried out by one of the three calls: a delivery on the first places of its string and of the lists, which then come back;
-- or a fresh start or the end, which leave the lists.
use Prim.Native.Nat.{ℕ, ◌+◌, ◌-◌, min}
use native.Mathlib.Omega.{arith}
use mathlib.Core.Path.{◌≡◌, ap, ◌∙◌}
use mathlib.Core.Bool.{true, false}
use mathlib.Core.List.{List, ◌++◌}
use lib.ListN.{length, take, drop, length-take}
use Rattle.transcript_spec.specs.Lists.{Lists, lists, size}
use Rattle.transcript_spec.proofs.LentLists.{Lends}
use Rattle.stream_spec.specs.Stream.{streamed, delivery_answer, lists_after, end_answer, TookDelivery}
use Rattle.stream_spec.specs.declared.Stream.{Stream}
use Rattle.stream_spec.specs.declared.Streamed.{Streamed}
use Rattle.stream_trial.specs.Record.{byte, is_start, delivers, number, started_at, string_lent, lists_lent, lists_returned}
use Rattle.stream_trial.specs.CarriedOut.{delivered_answer, delivered_lists, Delivered, answer_from, lists_from, CarriedOut}

-- ---- a delivery

-- What code delivers of the string, m bytes from byte 12 on, is what the record says.
pub delivers_string : (b : List ℕ) {m : ℕ} → m ≡ min (byte b 1) 24 → take (12 + m - 12) (drop 12 b) ≡ string_lent b
delivers_string b {m} e = let f : 12 + m - 12 ≡ min (byte b 1) 24 = omega arith in ap (λ (n : ℕ). take n (drop 12 b)) f

-- A lent part has as many places as are lent.
pub places_counted : (b : ℕ) {k : ℕ} (l : List ℕ) → k ≡ min b (length l) → k ≡ length (take k l)
places_counted b {k} l e = simp length-take (omega arith)

-- what code lends of four lists, so many places of each, and the lists when these come back as `part`
abbrev parts : ℕ → ℕ → ℕ → ℕ → Lists → Lists
parts k r n w l = lists (take k l.kinds) (take r l.registers) (take n l.lanes) (take w l.words)

abbrev put_back : ℕ → ℕ → ℕ → ℕ → Lists → Lists → Lists
put_back k r n w l part =
    lists (part.kinds ++ drop k l.kinds) (part.registers ++ drop r l.registers) (part.lanes ++ drop n l.lanes)
    (part.words ++ drop w l.words)

-- The call on the lent parts, which then come back, is the record's delivery.
pub delivered :
    {st : Stream} {b s : List ℕ} {l : Lists} {k r n w : ℕ} {o : Streamed} {part : Lists} →
    s ≡ string_lent b → Lends (byte b 2) (byte b 3) (byte b 4) (byte b 5) l k r n w → TookDelivery st s (parts k r n w l) o part →
    Delivered st b l o (put_back k r n w l part)
unfolding delivered_answer delivered_lists
delivered {st} {b} {s} {l} {k} {r} {n} {w} {o} {part} e y t =
    record {
      answer = t.answer ∙ (λ i. delivery_answer st (e i) (size (lent_parts i)));
      lists = comes_back ∙ ap (lists_returned b l) (t.lists ∙ (λ i. lists_after st (e i) (lent_parts i)));
    }
  where
    lent_parts : parts k r n w l ≡ lists_lent b l
    lent_parts i = parts (y.of_kinds i) (y.of_registers i) (y.of_lanes i) (y.of_words i) l

    comes_back : put_back k r n w l part ≡ lists_returned b l part
    comes_back i = put_back (y.of_kinds i) (y.of_registers i) (y.of_lanes i) (y.of_words i) l part

-- ---- a record, whichever of the three it is
module _ {st : Stream} {b : List ℕ} {l : Lists} {o : Streamed} {l' : Lists} where
  -- A record of a fresh start is carried out by a stream that begins at the record's number, with answer 0, and the lists as they were.
  pub by_start : is_start b ≡ true → o ≡ streamed 0 0 0 (started_at (number b)) → l' ≡ l → CarriedOut st b l o l'
  unfolding answer_from lists_from
  by_start s a x = record { answer = rw s a; lists = rw s x }

  -- A record of a delivery is carried out by that delivery.
  pub by_delivery : is_start b ≡ false → delivers b ≡ true → Delivered st b l o l' → CarriedOut st b l o l'
  unfolding answer_from lists_from
  by_delivery s d x = record { answer = rw (s, d) x.answer; lists = rw (s, d) x.lists }

  -- A record of the end is carried out by what the end answers, with the lists as they were.
  pub by_end : is_start b ≡ false → delivers b ≡ false → o ≡ end_answer st → l' ≡ l → CarriedOut st b l o l'
  unfolding answer_from lists_from
  by_end s d a x = record { answer = rw (s, d) a; lists = rw (s, d) x }
