-- Demand 1 for the host's side: the number is one of 0, 1, 2 and 3, each when, and only then; a refusal answers zeros and
-- leaves all as it stood. By cases on the tests of `refusal`, in its order.
use Prim.Native.Nat.{ℕ, ◌<◌, ◌≤◌}
use native.Mathlib.Omega.{arith}
use mathlib.Core.Path.{◌≡◌, refl, ap, ◌∙◌}
use mathlib.Core.Bool.{Bool, true, false, cond}
use mathlib.Core.List.{List}
use mathlib.Core.Logic.{◌↔◌, ◌≢◌}
use lib.Dec.{ltb}
use lib.ListN.{length}
use borrow.Author.Tests.{ltb-true, ltb-false}
use Rattle.words.specs.Bytes.{are_lanes}
use Rattle.words.proofs.Lanes.{lanes_named, lanes_unnamed}
use Rattle.registers.specs.declared.Registers.{Registers}
use Rattle.port_spec.specs.Host.{refusal, register_of, lanes_of, number_for, access, access_memory}
use Rattle.port_spec.specs.declared.Access.{Access}
use Rattle.port_spec.specs.declared.Cycle.TheVariants.{None}
use Rattle.port_spec.specs.declared.Outcome.{Outcome}
use Rattle.port_spec.proofs.Taken.{barred, barred_memory, number_is}

-- "lanes not 1, 2 or 3"
abbrev pub NoLanes : ℕ → Type 0
NoLanes lanes = (lanes ≢ 1) × (lanes ≢ 2) × (lanes ≢ 3)

-- v is the number for a memory of so many words, a register and lanes: at most 3; 1 exactly if there are over 32,768 words; 2 exactly if
-- not, and the register is over 3; 3 exactly if neither, and the lanes are not 1, 2 or 3; 0 exactly otherwise
pub record AccessWhen (words register lanes v : ℕ) : Type 0 where
  pub listed : v ≤ 3
  pub over : v ≡ 1 ↔ 32768 < words
  pub unlisted : v ≡ 2 ↔ (words ≤ 32768) × (3 < register)
  pub no_lanes : v ≡ 3 ↔ (words ≤ 32768) × (register ≤ 3) × NoLanes lanes
  pub done : v ≡ 0 ↔ (words ≤ 32768) × (register ≤ 3) × (1 ≤ lanes) × (lanes ≤ 3)

-- The number that applies is one of 0 to 3, each when, and only then (`AccessWhen`).
pub when : (words register lanes : ℕ) → AccessWhen words register lanes (refusal words register lanes)
unfolding refusal
when n r l = go (ltb 32768 n) (ltb 3 r) (are_lanes l) refl refl refl
  where
    go : (a b c : Bool) → ltb 32768 n ≡ a → ltb 3 r ≡ b → are_lanes l ≡ c → AccessWhen n r l (cond a 1 (cond b 2 (cond c 0 3)))
    go true b c p q e = omega (arith, ltb-true 32768 n p)
    go false true c p q e = omega (arith, ltb-false 32768 n p, ltb-true 3 r q)
    go false false true p q e = omega (arith, ltb-false 32768 n p, ltb-false 3 r q, (lanes_named l).0 e)
    go false false false p q e = omega (arith, ltb-false 32768 n p, ltb-false 3 r q, lanes_unnamed l e)

-- A refused access answers word 0, no mark and no cycle beside its number, and leaves the registers and the memory as they stood.
pub record Refused (r : Registers) (m : List ℕ) (a : Access) : Type 0 where
  pub word : (access r m a).answer.word ≡ 0
  pub hollow : (access r m a).answer.hollow ≡ false
  pub cycle : (access r m a).answer.cycle ≡ None
  pub registers : (access r m a).registers ≡ r
  pub memory : access_memory r m a ≡ m

module _ (r : Registers) (m : List ℕ) (a : Access) where
  -- The number of an access by the host is at most 3: 1 exactly if memory has over 32,768 words; 2 exactly if not, and the register is over
  -- 3; 3 exactly if neither, and the lanes are not 1, 2 or 3; 0 exactly otherwise.
  pub numbered : AccessWhen (length m) (register_of a) (lanes_of a) (access r m a).answer.number
  numbered = rw (number_is r m a) (when (length m) (register_of a) (lanes_of a))

  -- An access with another number than 0 answers word 0, mark false and cycle none, and leaves registers and memory as they stood.
  pub refuses : (access r m a).answer.number ≢ 0 → Refused r m a
  refuses n =
      let e : number_for m a ≢ 0 = λ q. n (number_is r m a ∙ q) in
      let b = barred r m a e in
      record {
        word = ap (λ (o : Outcome). o.answer.word) b;
        hollow = ap (λ (o : Outcome). o.answer.hollow) b;
        cycle = ap (λ (o : Outcome). o.answer.cycle) b;
        registers = ap (λ (o : Outcome). o.registers) b;
        memory = barred_memory r m a e;
      }
