-- The tuner's bet and the keeper's worry, in one law: a sheet that is not refused before the port is touched passes exactly if its table
-- is whole and its ticks rise. The tuner's last word is a tick like the others, whatever lies after it, memory's end included; and no
-- word beyond memory ever makes a stroke.
-- By `Numbers`, which has the number of every sheet, and `Refused`, which has the list.
use Prim.Native.Nat.{ℕ, suc, ◌+◌, ◌-◌, ◌<◌, ◌≤◌}
use native.Mathlib.Omega.{arith}
use mathlib.Core.Path.{◌≡◌, sym, ap, ◌∙◌}
use mathlib.Core.List.{List}
use mathlib.Core.Logic.{◌↔◌}
use lib.Ieee.{Float}
use lib.ListN.{length, get_or, take, length-take}
use lib.Seq.{get_or-take}
use Rattle.words.specs.Addresses.{word_at}
use Rattle.words.specs.Memory.{AreWords}
use Rattle.words.specs.declared.BitAddress.{BitAddress}
use Rattle.port_spec.specs.Cycle.{standing}
use Rattle.port_spec.specs.Sequences.{Machine, machine}
use Rattle.registers.specs.declared.Registers.{Registers}
use Rattle.tempo_spec.specs.Tempo.{with_times}
use Rattle.sheet_spec.specs.InPlainWords.{PassedIn, Begins, count_word, tick, Rises, Complete}
use Rattle.sheet_spec.specs.InPlainWords.{Verdict, count_missed, tick_missed, passes}
use Rattle.sheet_spec.specs.Reading.{whole}
use Rattle.sheet_spec.specs.Sheet.{strokes_of, ticks_heard, sheet_of, list_after}
use Rattle.sheet_spec.specs.declared.TimeStruck.{TimeStruck}
use Rattle.sheet_spec.proofs.Heard.{tick_told}
use Rattle.sheet_spec.proofs.Moves.{ticks_read}
use Rattle.sheet_spec.proofs.Numbers.{good_memory, numbered}
use Rattle.sheet_spec.proofs.Refused.{passed_fills}
use Rattle.sheet_spec.proofs.Strokes.{few_strokes}

-- the even-tempo times of n strokes by the table in memory, and what the list had after them
abbrev pub struck : List ℕ → BitAddress → ℕ → List Float → List Float
struck m a n l = with_times (tick m a 0) (tick m a (n - 1)) n l

-- what is said of a sheet that passes
pub record Passes (s : Machine) (a : BitAddress) (rule : ℕ) (t : TimeStruck) (l : List Float) : Type 0 where
  pub number : (sheet_of whole s a rule t (length l)).number ≡ 0
  pub shown : (sheet_of whole s a rule t (length l)).rule ≡ rule
  pub strokes : (sheet_of whole s a rule t (length l)).strokes ≡ strokes_of rule t
  pub list : list_after whole s a rule t l ≡ struck s.memory a (strokes_of rule t) l

-- A sheet passes exactly if memory, rule, time, list and INCR are not refused, the count word and all ticks lie in memory with the right
-- count, which is that of the time by the rule, and the ticks rise.
pub passes_exactly : (s : Machine) (a : BitAddress) → PassedIn s a → (rule : ℕ) (t : TimeStruck) (room : ℕ) →
    (sheet_of whole s a rule t room).number ≡ 0 ↔
    Begins s rule t room × Complete s.memory a (strokes_of rule t) × Rises s.memory a (strokes_of rule t)
passes_exactly s a p rule t room =
    (λ z. go ((numbered s a p rule t room 0).0 z), λ w. (numbered s a p rule t room 0).1 (passes w.0 w.1 w.2))
  where
    go : Verdict s a rule t room 0 →
        Begins s rule t room × Complete s.memory a (strokes_of rule t) × Rises s.memory a (strokes_of rule t)
    go (passes b c r) = (b, c, r)

-- a sheet that is not refused before the port is touched
module _ (s : Machine) (a : BitAddress) (rule : ℕ) (t : TimeStruck) (l : List Float) where
  abbrev number : ℕ
  number = (sheet_of whole s a rule t (length l)).number

  abbrev n : ℕ
  n = strokes_of rule t

  -- the tuner's bet and the keeper's worry
  pub record Bet : Type 0 where
    -- the tuner's: if the table lies in memory with the right count and its ticks rise, the sheet passes, the last tick included
    pub tuner : Complete s.memory a n → Rises s.memory a n → Passes s a rule t l
    -- the keeper's: if the count word lies beyond memory, or the count is right and a tick lies beyond memory, it is refused with 42
    pub no_count : length s.memory ≤ (word_at a).0 → number ≡ 42
    pub no_tick : (word_at a).0 < length s.memory → count_word s.memory a ≡ n → length s.memory < (word_at a).0 + suc n →
        number ≡ 42
    -- and both: nothing else passes
    pub nothing_else : number ≡ 0 → Complete s.memory a n × Rises s.memory a n

  module _ (p : PassedIn s a) (b : Begins s rule t (length l)) where
    -- A sheet that is begun passes if its table lies in memory with the right count and its ticks rise: it shows its rule and its strokes,
    -- and the list takes their times.
    pub passing : Complete s.memory a n → Rises s.memory a n → Passes s a rule t l
    passing c r =
        let z = (numbered s a p rule t (length l) 0).1 (passes b c r) in
        let f = passed_fills whole s a rule t l z in
        let told = tick_told s (good_memory s a p rule t (length l) b) b.steps a p.address n c.lies in
        let some = (few_strokes t b.time rule).0 in
        record {
          number = z;
          shown = f.shown;
          strokes = f.strokes;
          list =
              f.list ∙
              ap (λ (x : ℕ). with_times x (get_or (ticks_heard whole s a n) (n - 1) 0) n l) (told 0 (omega arith)) ∙
              ap (λ (x : ℕ). with_times (tick s.memory a 0) x n l) (told (n - 1) (omega arith));
        }

    -- Of a sheet that is not refused for its memory, rule, time, list or INCR. The tuner's: if the count word and every tick lie in memory,
    -- with the right count, and the ticks rise, the sheet passes; the list takes the times from the first tick to the last, that last word
    -- of the table included. The keeper's: if the count word lies beyond memory, or the count is right and a tick lies beyond memory, it is
    -- refused with 42. Both: nothing else passes.
    pub bet : Bet
    bet =
        record {
          tuner = passing;
          no_count = λ h. (numbered s a p rule t (length l) 42).1 (count_missed b h);
          no_tick = λ h e k. (numbered s a p rule t (length l) 42).1 (tick_missed b h e k);
          nothing_else = λ z. let w = (passes_exactly s a p rule t (length l)).0 z in (w.1, w.2);
        }

-- ---- whatever lies after the table: another memory m that has the same words up to the table's last
module _ (s : Machine) (a : BitAddress) (rule : ℕ) (t : TimeStruck) (l : List Float) (p : PassedIn s a) (b : Begins s rule t (length l))
    (m : List ℕ) (w : AreWords m) (size : length m ≤ 32768)
    (same : take ((word_at a).0 + suc (strokes_of rule t)) m ≡ take ((word_at a).0 + suc (strokes_of rule t)) s.memory) where
  abbrev end : ℕ
  end = (word_at a).0 + suc (strokes_of rule t)

  abbrev other : Machine
  other = machine s.registers m

  same_word : (j : ℕ) → j < end → get_or m j 0 ≡ get_or s.memory j 0
  same_word j h = sym (get_or-take end m j 0 h) ∙ ap (λ (x : List ℕ). get_or x j 0) same ∙ get_or-take end s.memory j 0 h

  there : Complete s.memory a (strokes_of rule t) → Complete m a (strokes_of rule t)
  there c =
      let e = sym (length-take end m) ∙ ap length same ∙ length-take end s.memory in
      record { lies = omega (arith, c.lies, e); count = same_word (word_at a).0 (omega arith) ∙ c.count }

  rise_there : Rises s.memory a (strokes_of rule t) → Rises m a (strokes_of rule t)
  rise_there r k h =
      rw (same_word ((word_at a).0 + 1 + k) (omega arith), same_word ((word_at a).0 + 1 + suc k) (omega arith)) (r k h)

  some : 1 ≤ strokes_of rule t
  some = (few_strokes t b.time rule).0

  same_struck : struck m a (strokes_of rule t) l ≡ struck s.memory a (strokes_of rule t) l
  same_struck =
      rw (
        same_word ((word_at a).0 + 1 + 0) (omega (arith, some)),
        same_word ((word_at a).0 + 1 + (strokes_of rule t - 1)) (omega (arith, some)),
      )

  abbrev left : Machine → Registers
  left x = (sheet_of whole x a rule t (length l)).registers

  -- Where a sheet passes, another memory of at most 32,768 words that has the same ones up to the table's last, and whatever after that,
  -- nothing at all included, passes too, with the same strokes and the same list, and leaves the same pointer and HSTCTL: only HSTDATA and
  -- its mark tell what follows.
  pub whatever_follows : Complete s.memory a (strokes_of rule t) → Rises s.memory a (strokes_of rule t) →
      Passes other a rule t l × (list_after whole other a rule t l ≡ list_after whole s a rule t l) ×
      ((left other).pointer ≡ (left s).pointer) × ((left other).control ≡ (left s).control)
  unfolding standing
  whatever_follows c r =
      let here = passing s a rule t l p b c r in
      let q : PassedIn other a = record { words = w; address = p.address } in
      let d : Begins other rule t (length l) =
      record { size = size; known = b.known; time = b.time; fits = b.fits; steps = b.steps } in
      let elsewhere = passing other a rule t l q d (there c) (rise_there r) in
      let x = (ticks_read s a p rule t (length l) b (omega (arith, c.lies)) c.count).0 in
      let y = (ticks_read other a q rule t (length l) d (omega (arith, (there c).lies)) (there c).count).0 in (
        elsewhere,
        elsewhere.list ∙ same_struck ∙ sym here.list,
        ap (λ (z : Registers). z.pointer) y ∙ sym (ap (λ (z : Registers). z.pointer) x),
        ap (λ (z : Registers). z.control) y ∙ sym (ap (λ (z : Registers). z.control) x),
      )
