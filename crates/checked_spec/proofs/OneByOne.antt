-- The checked examples of document 01 one by one, in the words of the definitions; their sentences stand in specs/Examples. Each law is
-- read off the table's single statement. What it opens are the words that the table is told with and the port's names for runs of accesses,
-- and not what an access, a field or a grant does.
use Prim.Native.Nat.{ℕ}
use mathlib.Core.Path.{◌≡◌, refl}
use mathlib.Core.Bool.{Bool}
use mathlib.Core.List.{List, [], ◌∷◌}
use lib.IntN.{pos, neg_ℤ}
use Rattle.words.specs.Addresses.{address}
use Rattle.words.specs.Bytes.{lo, bit}
use Rattle.bus.specs.Order.{granted, released}
use Rattle.bus.specs.declared.Bus.{Bus}
use Rattle.registers.specs.Processor.{fresh, processor_writes}
use Rattle.port_spec.specs.Sequences.{save, answer_of, after, answers, ends}
use Rattle.port_spec.specs.Table.{loading, loaded, reading}
use Rattle.port_spec.specs.declared.Access.TheVariants.{Read, Write}
use Rattle.port_spec.specs.declared.Answer.{Answer}
use Rattle.port_spec.specs.declared.Cycle.{Cycle}
use Rattle.port_spec.specs.declared.Cycle.TheVariants.{Inside, Empty}
use Rattle.field_spec.specs.Answers.{taken, taken_signed, put_answer, put_memory}
use Rattle.checked_spec.specs.Acts.{seen, later, replay, replayed, after_all}
use Rattle.checked_spec.specs.Examples.{INCR, INCW, held, hollow, controlled, three_words, all_waiting}
use Rattle.checked_spec.specs.Examples.{row_1, row_2, row_3, row_4, row_5, row_6, row_7, row_8, row_9, row_10, examples}
use Rattle.checked_spec.proofs.Holds.{examples_hold}
use Rattle.checked_spec.proofs.Rows.{step_holds}
use Rattle.checked_spec.proofs.Rows.{same_answer, same_put, same_taken, same_signed, same_grant, same_number, same_look, same_words}

abbrev gave : ℕ → Bool → Cycle → Answer
gave w h c = record { number = 0; word = w; hollow = h; cycle = c }

-- equal answers, one after the other, are equal lists
infixr 67 ◌then◌
◌then◌ : {x y : Answer} {xs ys : List Answer} → x ≡ y → xs ≡ ys → x ∷ xs ≡ y ∷ ys
e then f = cc

-- With memory 1111h, 2222h, 3333h and LBL 0: "INCR 1, pointer loaded with 0: three reads give 1111h, 2222h, 3333h, all held; the third's
-- cycle is empty and the pointer is 30h."
pub K1 :
    let s = loaded (controlled INCR three_words) (address 0) in
    (answers s (reading 3) ≡ gave 0x1111 held Inside ∷ gave 0x2222 held Inside ∷ gave 0x3333 held Empty ∷ []) ×
    ((ends s (reading 3)).registers.pointer.0 ≡ 0x30)
unfolding examples row_1 replayed replay seen later loading reading answers ends bit
K1 =
    let line = step_holds examples_hold 0 in
    (same_answer (line 2) then same_answer (line 3) then same_answer (line 4) then refl, same_look (line 5))

-- After K1: "A fourth read: FFFFh, hollow; pointer 40h."
pub K2 :
    let s = ends (loaded (controlled INCR three_words) (address 0)) (reading 3) in
    (answer_of s (Read 2 3) ≡ gave 0xFFFF hollow Empty) ×
    ((after s (Read 2 3)).registers.pointer.0 ≡ 0x40)
unfolding examples row_1 row_2 replayed replay after_all seen later loading reading ends bit
K2 =
    let line = step_holds examples_hold 1 in
    (same_answer (line 0), same_look (line 1))

-- With K1's memory and LBL 0: "INCW 1, INCR 0, pointer 0: write AAAAh, then two reads give AAAAh and 2222h; pointer 10h."
pub K3 :
    let s = ends (loaded (controlled INCW three_words) (address 0)) (save 2 0xAAAA ∷ []) in
    (answers s (reading 2) ≡ gave 0xAAAA held Inside ∷ gave 0x2222 held Inside ∷ []) ×
    ((ends s (reading 2)).registers.pointer.0 ≡ 0x10)
unfolding examples row_3 replayed replay seen later loading reading answers ends bit
K3 =
    let line = step_holds examples_hold 2 in
    (same_answer (line 3) then same_answer (line 4) then refl, same_look (line 5))

-- With K1's memory and LBL 0: "Pointer FFFFFFF0h, INCR 1: a read leaves pointer 0 and fetches word 0."
pub K4 :
    let s = loaded (controlled INCR three_words) (address 0xFFFFFFF0) in
    let t = after s (Read 2 3) in
    (s.registers.pointer.0 ≡ 0xFFFFFFF0) ×
    (answer_of s (Read 2 3) ≡ gave 0xFFFF hollow Inside) ×
    (t.registers.pointer.0 ≡ 0) ×
    (t.registers.latch ≡ 0x1111)
unfolding examples row_4 replayed replay seen later loading ends bit
K4 =
    let line = step_holds examples_hold 3 in
    (same_look (line 2), same_answer (line 3), same_look (line 4), same_look (line 5))

-- "Low control byte 80h, host writes 0Dh: 0Dh. Host then writes F0h: 08h."
pub K5 :
    let s = after (controlled 0x80 []) (Write 3 1 0x0D) in
    (lo s.registers.control ≡ 0x0D) ×
    (lo (after s (Write 3 1 0xF0)).registers.control ≡ 0x08)
unfolding examples row_5 replayed replay seen later
K5 =
    let line = step_holds examples_hold 4 in
    (same_look (line 1), same_look (line 3))

-- "Low control byte 0Dh, processor writes F0h: F5h."
pub K6 :
    let w = processor_writes (fresh 0x0D) 3 0xF0 in
    (w.number ≡ 0) × (lo w.registers.control ≡ 0xF5)
unfolding examples row_6 replayed replay seen later
K6 =
    let line = step_holds examples_hold 5 in
    (same_number (line 0), same_look (line 1))

-- "Two words, both 0; size 4 at bit 14, value Ah: 8000h, 0002h, four cycles."
pub K7 :
    (put_memory (0 ∷ 0 ∷ []) (address 14) 4 0xA ≡ 0x8000 ∷ 0x0002 ∷ []) ×
    (put_answer 2 (address 14) 4 ≡ record { number = 0; cycles = 4 })
unfolding examples row_7 replayed replay seen later
K7 =
    let line = step_holds examples_hold 6 in
    (same_words (line 1), same_put (line 0))

-- After K7: "That field taken out: 10, signed -6, two cycles."
pub K8 :
    let m = put_memory (0 ∷ 0 ∷ []) (address 14) 4 0xA in
    (taken m (address 14) 4 ≡ record { number = 0; value = 10; cycles = 2 }) ×
    (taken_signed m (address 14) 4 ≡ record { number = 0; value = neg_ℤ (pos 6); cycles = 2 })
unfolding examples row_7 row_8 replayed replay after_all seen later
K8 =
    let line = step_holds examples_hold 7 in
    (same_taken (line 0), same_signed (line 1))

-- "Three words, all 0; size 32 at bit 1, all ones: FFFEh, FFFFh, 0001h, five cycles."
pub K9 :
    (put_memory (0 ∷ 0 ∷ 0 ∷ []) (address 1) 32 0xFFFFFFFF ≡ 0xFFFE ∷ 0xFFFF ∷ 0x0001 ∷ []) ×
    (put_answer 3 (address 1) 32 ≡ record { number = 0; cycles = 5 })
unfolding examples row_9 replayed replay seen later
K9 =
    let line = step_holds examples_hold 8 in
    (same_words (line 1), same_put (line 0))

-- a grant answers this number and this source
abbrev Grants : Bus → ℕ → ℕ → Type 0
Grants b n s = ((granted b).number ≡ n) × ((granted b).source ≡ s)

-- "All five waiting, hold released after its grant: 1, 2, 3, 4, then number 8."
pub K10 :
    let freed = released (granted all_waiting).bus in
    let b = (granted freed.bus).bus in
    let c = (granted b).bus in
    let d = (granted c).bus in
    Grants all_waiting 0 0 × (freed.number ≡ 0) ×
    Grants freed.bus 0 1 × Grants b 0 2 × Grants c 0 3 × Grants d 0 4 × Grants (granted d).bus 8 0
unfolding examples row_10 replayed replay seen later
K10 =
    let line = step_holds examples_hold 9 in (
      same_grant (line 0),
      same_number (line 1),
      same_grant (line 2),
      same_grant (line 3),
      same_grant (line 4),
      same_grant (line 5),
      same_grant (line 6),
    )
