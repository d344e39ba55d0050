-- The packed answer gives back each of its parts, as shifts and masks take them out, and its bits 27 to 63 are 0.
-- The parts fit their bits: a word shown to the host has sixteen, a number is at most 11, a cycle's number at most 2.
use Prim.Native.Nat.{ℕ, ◌+◌, ◌*◌, ◌/◌, ◌%◌, ◌^◌, ◌<◌}
use native.Mathlib.Omega.{arith}
use mathlib.Core.Path.{◌≡◌, refl, sym, ◌∙◌}
use mathlib.Core.Bool.{Bool, true, false, cond}
use mathlib.Core.List.{List}
use mathlib.Core.Logic.{⊎_elim}
use lib.Dec.{eqb}
use borrow.Author.Tests.{eqb-true}
use Rattle.port_spec.specs.declared.Access.{Access}
use Rattle.port_spec.specs.declared.Answer.{Answer}
use Rattle.port_spec.specs.Cycle.{cycle_number}
use Rattle.port_spec.proofs.CycleNumbers.{cycle_below}
use Rattle.port_spec.proofs.Taken.{number_is}
use Rattle.port_spec.proofs.Widths.{access_word}
use Rattle.door_spec.specs.Answer.{packed, refusing}
use Rattle.door_spec.specs.Door.{call_number, outcome_of, call_tells, call_answer}
use Rattle.door_spec.specs.InPlainWords.{number_in}
use Rattle.door_spec.specs.Sequences.{Unpacks}
use Rattle.door_spec.proofs.Numbers.{DoorWhen, numbered, fit_number}

-- ---- parts side by side
module _ (w n h c : ℕ) (p : w < 65536) (q : n < 256) (s : h < 2) (t : c < 4) where
  word_back : (w + 65536 * n + 16777216 * h + 33554432 * c) % 65536 ≡ w
  word_back = omega arith

  number_back : (w + 65536 * n + 16777216 * h + 33554432 * c) / 2 ^ 16 % 256 ≡ n
  number_back = omega arith

  hollow_back : (w + 65536 * n + 16777216 * h + 33554432 * c) / 2 ^ 24 % 2 ≡ h
  hollow_back = omega arith

  cycle_back : (w + 65536 * n + 16777216 * h + 33554432 * c) / 2 ^ 25 % 4 ≡ c
  cycle_back = omega arith

  rest_back : (w + 65536 * n + 16777216 * h + 33554432 * c) / 2 ^ 27 ≡ 0
  rest_back = omega arith

mark_below : (b : Bool) → cond b 1 0 < 2
mark_below true = omega arith
mark_below false = omega arith

-- An answer whose word has 16 bits and whose number has 8 is given back by its packed form.
pub unpacks : (a : Answer) → a.word < 65536 → a.number < 256 → Unpacks (packed a) a
unfolding packed
unpacks a p q =
    let h : ℕ = cond a.hollow 1 0 in
    let c = cycle_number a.cycle in
    let s = mark_below a.hollow in
    let t = cycle_below a.cycle in
    record {
      word = word_back a.word a.number h c p q s t;
      number = number_back a.word a.number h c p q s t;
      hollow = hollow_back a.word a.number h c p q s t;
      cycle = cycle_back a.word a.number h c p q s t;
      rest = rest_back a.word a.number h c p q s t;
    }

-- ---- the answer of a call
module _ (image memory : List ℕ) (a : Access) where
  -- The number answered is the number that applies.
  pub number_told : (call_tells image memory a).number ≡ call_number image memory a
  unfolding call_tells
  number_told = go (eqb (call_number image memory a) 0) refl
    where
      go : (t : Bool) → eqb (call_number image memory a) 0 ≡ t →
          (cond t (outcome_of image memory a).answer (refusing (call_number image memory a))).number ≡ call_number image memory a
      go true e =
          let z = eqb-true (call_number image memory a) 0 e in
          number_is _ _ a ∙ sym (fit_number image memory a ((numbered image memory a).done.0 z).0)
      go false e = refl

  word_told : (call_tells image memory a).word < 65536
  unfolding call_tells
  word_told = go (eqb (call_number image memory a) 0)
    where
      go : (t : Bool) → (cond t (outcome_of image memory a).answer (refusing (call_number image memory a))).word < 65536
      go true = access_word _ _ a
      go false = omega arith

  number_below : (call_tells image memory a).number < 256
  number_below = rw number_told (⊎_elim (λ h. omega arith) (λ h. omega arith) (numbered image memory a).listed)

  -- In the answer of every call, whatever was lent, word, number, mark and cycle stand in their bits, and bits 27 and up are 0.
  pub call_unpacks : Unpacks (call_answer image memory a) (call_tells image memory a)
  call_unpacks = unpacks (call_tells image memory a) word_told number_below

  -- The number in the answer's bits 16-23 is 11 exactly if what is lent has one of the four faults; without one, 1 exactly if memory has
  -- over 65,536 bytes, and 2, 3 and 0 as for the host (`DoorWhen`).
  pub answer_numbered : DoorWhen image memory a (number_in (call_answer image memory a))
  answer_numbered = rw (call_unpacks.number ∙ number_told) (numbered image memory a)
