-- Demand 3: any sequence of sixteen-bit accesses, each done instead as two byte accesses in the order that LBL commands when it
-- begins, ends alike: words read, both marks, memory, registers. There is no condition on the registers named, the memory's
-- length, the pointer or the words.
-- An access is refused on two lanes as on one. One that is accepted goes by `Pairs`: its first byte has no cycle, so the memory
-- stands as it was when the second byte does the whole access's cycle.
use Prim.Native.Nat.{ℕ}
use mathlib.Core.Path.{◌≡◌, refl, sym, ap, ◌∙◌}
use mathlib.Core.Bool.{Bool, true, false, cond}
use mathlib.Core.List.{List, [], ◌∷◌}
use mathlib.Core.Logic.{◌≢◌, ⊎_elim}
use lib.Dec.{eqb}
use borrow.Author.Tests.{eqb-true, eqb-false}
use Rattle.words.specs.Bytes.{are_lanes}
use Rattle.std.proofs.lemmas.Bool.{cases_Bool}
use Rattle.control.specs.Control.{lbl, first_lane, last_lane}
use Rattle.port_spec.specs.Cycle.{carried, memory_after}
use Rattle.port_spec.specs.Host.{begin_access, refusal, number_for, refused, finished, done}
use Rattle.port_spec.specs.Sequences.{Machine, answer_of, after, Sixteen, load, save, on, opening, closing, between, together}
use Rattle.port_spec.specs.Sequences.{answers, ends, byte_answers, byte_ends}
use Rattle.port_spec.specs.declared.Access.{Access}
use Rattle.port_spec.specs.declared.Cycle.TheVariants.{None}
use Rattle.port_spec.specs.declared.Begun.{Begun}
use Rattle.port_spec.specs.declared.Outcome.{Outcome}
use Rattle.port_spec.proofs.Taken.{taken, taken_memory, barred, barred_memory}
use Rattle.port_spec.proofs.Pairs.{Paired, first_of, last_of, begin_pair}

-- The two byte accesses of a, done one after the other from s, against a done whole. The first shows the number and the hollow
-- mark that the whole access shows, and has no cycle; together they answer and end as the whole access does.
pub record Alike (s : Machine) (a : Sixteen) : Type 0 where
  pub first_number : (answer_of s (opening s a)).number ≡ (answer_of s (on 3 a)).number
  pub first_hollow : (answer_of s (opening s a)).hollow ≡ (answer_of s (on 3 a)).hollow
  pub first_cycle : (answer_of s (opening s a)).cycle ≡ None
  pub answer : together (answer_of s (opening s a)) (answer_of (between s a) (closing s a)) ≡ answer_of s (on 3 a)
  pub end : after (between s a) (closing s a) ≡ after s (on 3 a)

-- ---- a register is refused alike on either byte and on both
number_on : (m : List ℕ) (lanes : ℕ) (a : Sixteen) → are_lanes lanes ≡ true → number_for m (on lanes a) ≡ number_for m (on 3 a)
unfolding refusal are_lanes
number_on m lanes (load k) e = rw e
number_on m lanes (save k w) e = rw e

first_named : (b : Bool) → are_lanes (cond b 2 1) ≡ true
unfolding are_lanes
first_named true = refl
first_named false = refl

last_named : (b : Bool) → are_lanes (cond b 1 2) ≡ true
unfolding are_lanes
last_named true = refl
last_named false = refl

module _ (s : Machine) (a : Sixteen) where
  abbrev m : List ℕ
  m = s.memory

  abbrev c : ℕ
  c = s.registers.control

  number_first : number_for m (opening s a) ≡ number_for m (on 3 a)
  number_first = number_on m (first_lane c) a (first_named (lbl c))

  number_last : number_for m (closing s a) ≡ number_for m (on 3 a)
  number_last = number_on m (last_lane c) a (last_named (lbl c))

  -- ---- an access that is accepted
  module _ (z : number_for m (on 3 a) ≡ 0) where
    abbrev b₁ : Begun
    b₁ = first_of s.registers a

    abbrev b₂ : Begun
    b₂ = last_of s.registers a

    abbrev b₃ : Begun
    b₃ = begin_access s.registers (on 3 a)

    q : Paired b₃ b₁ b₂
    q = begin_pair s.registers a

    -- the first byte: no cycle, so the registers stand as begun and the memory as it was
    first_done : done b₁ m ≡ finished b₁ (record { registers = b₁.registers; cycle = None })
    unfolding done carried
    first_done = rw q.no_cycle

    first_memory : memory_after b₁.registers b₁.due m ≡ m
    unfolding memory_after
    first_memory = rw q.no_cycle

    mid : between s a ≡ record { registers = b₁.registers; memory = m }
    unfolding after
    mid =
        let z₁ = number_first ∙ z in
        rw (taken s.registers m (opening s a) z₁, taken_memory s.registers m (opening s a) z₁, first_done, first_memory)

    -- the second byte: the cycle of the whole access, from the registers that the whole access begins
    cycle_last : carried b₂.registers b₂.due m ≡ carried b₃.registers b₃.due m
    cycle_last = rw (q.registers, q.due)

    memory_last : memory_after b₂.registers b₂.due m ≡ memory_after b₃.registers b₃.due m
    memory_last = rw (q.registers, q.due)

    first_answer : answer_of s (opening s a) ≡ (finished b₁ (record { registers = b₁.registers; cycle = None })).answer
    unfolding answer_of
    first_answer = ap (λ (o : Outcome). o.answer) (taken s.registers m (opening s a) (number_first ∙ z) ∙ first_done)

    last_answer : answer_of (between s a) (closing s a) ≡ (done b₂ m).answer
    unfolding answer_of
    last_answer =
        ap (λ (t : Machine). answer_of t (closing s a)) mid ∙
        ap (λ (o : Outcome). o.answer) (taken b₁.registers m (closing s a) (number_last ∙ z))

    whole_answer : answer_of s (on 3 a) ≡ (done b₃ m).answer
    unfolding answer_of
    whole_answer = ap (λ (o : Outcome). o.answer) (taken s.registers m (on 3 a) z)

    last_end : after (between s a) (closing s a) ≡ record {
      registers = (done b₂ m).registers;
      memory = memory_after b₂.registers
          b₂.due m;
    }
    unfolding after
    last_end =
        let z₂ = number_last ∙ z in
        ap (λ (t : Machine). after t (closing s a)) mid ∙
        rw (taken b₁.registers m (closing s a) z₂, taken_memory b₁.registers m (closing s a) z₂)

    whole_end : after s (on 3 a) ≡ record { registers = (done b₃ m).registers; memory = memory_after b₃.registers b₃.due m }
    unfolding after
    whole_end = rw (taken s.registers m (on 3 a) z, taken_memory s.registers m (on 3 a) z)

    alike_taken : Alike s a
    unfolding done
    alike_taken =
        record {
          first_number = rw (first_answer, whole_answer);
          first_hollow = rw (first_answer, whole_answer) q.hollow_first;
          first_cycle = rw first_answer;
          answer = rw (first_answer, last_answer, whole_answer, q.word, q.hollow_last, cycle_last);
          end = last_end ∙ rw (cycle_last, memory_last) (sym whole_end);
        }

  -- ---- an access that is refused
  module _ (n : number_for m (on 3 a) ≢ 0) where
    stays : (x : Access) → number_for m x ≡ number_for m (on 3 a) → after s x ≡ s
    unfolding after
    stays x e =
        let n' : number_for m x ≢ 0 = λ z. n (sym e ∙ z) in
        rw (barred s.registers m x n', barred_memory s.registers m x n')

    refusing : (x : Access) → number_for m x ≡ number_for m (on 3 a) →
        answer_of s x ≡ (refused (number_for m (on 3 a)) s.registers).answer
    unfolding answer_of
    refusing x e = ap (λ (o : Outcome). o.answer) (barred s.registers m x (λ z. n (sym e ∙ z))) ∙ rw e

    alike_barred : Alike s a
    alike_barred =
        let stood = stays (opening s a) number_first in
        let first = refusing (opening s a) number_first in
        let last = refusing (closing s a) number_last in
        let whole = refusing (on 3 a) refl in
        record {
          first_number = rw (first, whole);
          first_hollow = rw (first, whole);
          first_cycle = rw first;
          answer = rw (stood, first, last, whole);
          end = rw stood (stays (closing s a) number_last ∙ sym (stays (on 3 a) refl));
        }

  -- Of every sixteen-bit access done by bytes, the first byte shows the number and the hollow mark of the whole access and has no cycle;
  -- the two answers together are the whole answer (words added, number and both marks of the second); registers and memory end the same.
  pub alike : Alike s a
  alike =
      ⊎_elim (λ e. alike_taken (eqb-true _ _ e)) (λ e. alike_barred (eqb-false _ _ e)) (cases_Bool (eqb (number_for m (on 3 a)) 0))

-- Any sequence of accesses by bytes ends where the whole accesses end.
pub ends_alike : (s : Machine) (l : List Sixteen) → byte_ends s l ≡ ends s l
unfolding byte_ends ends
ends_alike s [] = refl
ends_alike s (a ∷ rest) = rw (alike s a).end (ends_alike (after s (on 3 a)) rest)

-- Any sequence of accesses by bytes answers what the whole accesses answer.
pub answers_alike : (s : Machine) (l : List Sixteen) → byte_answers s l ≡ answers s l
unfolding byte_answers answers
answers_alike s [] = refl
answers_alike s (a ∷ rest) = rw ((alike s a).end, (alike s a).answer, answers_alike (after s (on 3 a)) rest)
