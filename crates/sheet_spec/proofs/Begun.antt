-- When a sheet is begun: exactly if none of the refusals applies that are judged before the port is touched. And in which
-- order those are judged. By the tests of `refusal_before`, in turn.
use Prim.Native.Nat.{ℕ}
use native.Mathlib.Omega.{arith}
use mathlib.Core.Path.{◌≡◌, refl}
use mathlib.Core.Bool.{Bool, true, false, cond}
use lib.Dec.{ltb}
use lib.ListN.{length}
use borrow.Author.Tests.{ltb-false, le-ltb}
use Rattle.words.specs.Bytes.{bit}
use Rattle.words.specs.Memory.{over_limit}
use Rattle.control.specs.Control.{incr}
use Rattle.port_spec.specs.Sequences.{Machine}
use Rattle.sheet_spec.specs.InPlainWords.{time, Begins}
use Rattle.sheet_spec.specs.Sheet.{unknown_rule, out_of_range, strokes_of, refusal_before, number_before}
use Rattle.sheet_spec.specs.declared.TimeStruck.{TimeStruck}
use Rattle.sheet_spec.proofs.Range.{accepted_time, time_accepted}
use Rattle.sheet_spec.proofs.Rule.{accepted_rule, rule_accepted}

-- ---- the order, in numbers

-- the order of the refusals before the port is touched, in numbers: each of the refused calls would be refused for all that is tested after
-- it too
pub record InOrder : Type 0 where
  pub memory : refusal_before 32769 3 (time 13 0 0) 0 0 ≡ 1
  pub unknown : refusal_before 32768 3 (time 13 0 0) 0 0 ≡ 45
  pub unfit : refusal_before 32768 2 (time 13 0 0) 0 0 ≡ 40
  pub short_by_one : refusal_before 32768 1 (time 12 3 14) 28 0 ≡ 41
  pub short_by_two : refusal_before 32768 2 (time 12 3 14) 31 0 ≡ 41
  pub still : refusal_before 32768 2 (time 12 3 14) 32 0 ≡ 46
  -- these two are not refused
  pub begun_by_one : refusal_before 32768 1 (time 12 3 14) 29 0x1000 ≡ 0
  pub begun_by_two : refusal_before 32768 2 (time 12 3 14) 32 0x1000 ≡ 0

-- The refusals before the port is touched, 1, 45, 40, 41 and 46, come in this order, in numbers.
pub in_order : InOrder
unfolding refusal_before unknown_rule out_of_range strokes_of bit
in_order =
    record {
      memory = refl;
      unknown = refl;
      unfit = refl;
      short_by_one = refl;
      short_by_two = refl;
      still = refl;
      begun_by_one = refl;
      begun_by_two = refl;
    }

-- ---- exactly if
module _ (s : Machine) (rule : ℕ) (t : TimeStruck) (room : ℕ) where
  -- A sheet whose memory, rule, time, list and INCR are as they should be is begun, that is not refused with 1, 45, 40, 41 or 46.
  pub begun : Begins s rule t room → number_before s rule t room ≡ 0
  unfolding refusal_before
  begun b = rw (le-ltb _ _ b.size, rule_accepted rule b.known, time_accepted t b.time, le-ltb _ _ b.fits, b.steps)

  -- Of a sheet that is begun, memory has at most 32,768 words, the rule is 1 or 2, the time in range, the list long enough for its strokes,
  -- and INCR set.
  pub begins : number_before s rule t room ≡ 0 → Begins s rule t room
  unfolding refusal_before
  begins e =
      let tests =
      none (over_limit (length s.memory)) (unknown_rule rule) (out_of_range t) (ltb room (strokes_of rule t))
      (incr s.registers.control) e in
      record {
        size = ltb-false _ _ tests.0;
        known = accepted_rule rule tests.1;
        time = accepted_time t tests.2;
        fits = ltb-false _ _ tests.3;
        steps = tests.4;
      }
    where
      none : (over unknown unfit short steps : Bool) →
          ◌≡◌ {A = ℕ} (cond over 1 (cond unknown 45 (cond unfit 40 (cond short 41 (cond steps 0 46))))) 0 →
          (over ≡ false) × (unknown ≡ false) × (unfit ≡ false) × (short ≡ false) × (steps ≡ true)
      none true unknown unfit short steps e = absurd (omega arith)
      none false true unfit short steps e = absurd (omega arith)
      none false false true short steps e = absurd (omega arith)
      none false false false true steps e = absurd (omega arith)
      none false false false false false e = absurd (omega arith)
      none false false false false true e = (refl, refl, refl, refl, refl)
