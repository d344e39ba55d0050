-- When a sheet passes, in the papers' numbers: what must hold is said without the other laws' words `KnownRule`, `InRange`, `Begins`,
-- `Complete` and `Rises`, so that a reader can hold this one law against document 02. By `passes_exactly`, part by part.
use Prim.Native.Nat.{ℕ, suc, ◌+◌, ◌*◌, ◌/◌, ◌^◌, ◌<◌, ◌≤◌}
use mathlib.Core.Path.{◌≡◌, refl, sym, subst}
use mathlib.Core.Bool.{true}
use mathlib.Core.Logic.{inl, inr, ◌↔◌}
use lib.ListN.{length, get_or}
use Rattle.words.specs.declared.BitAddress.{BitAddress}
use Rattle.control.specs.Control.{incr}
use Rattle.port_spec.specs.Sequences.{Machine}
use Rattle.sheet_spec.specs.InPlainWords.{KnownRule, time, Begins, Rises, Complete}
use Rattle.sheet_spec.specs.Reading.{whole}
use Rattle.sheet_spec.specs.Sheet.{strokes_of, sheet_of}
use Rattle.sheet_spec.proofs.Strokes.{by_rule_one, by_rule_two}
use Rattle.sheet_spec.proofs.TheBet.{passes_exactly}

-- a machine, a time and a list of `room` places that are not refused, and at word j a table of n strokes, whole and rising
pub record Good (s : Machine) (j h q m n room : ℕ) : Type 0 where
  pub size : length s.memory ≤ 32768
  pub an_hour : 1 ≤ h
  pub hours : h ≤ 12
  pub quarters : q ≤ 3
  pub minutes : m ≤ 14
  pub fits : n ≤ room
  pub steps : incr s.registers.control ≡ true
  pub lies : j + suc n ≤ length s.memory
  pub count : get_or s.memory j 0 ≡ n
  pub rises : (k : ℕ) → suc k < n → get_or s.memory (j + 1 + k) 0 < get_or s.memory (j + 1 + suc k) 0

-- the memory's numbers are of sixteen bits, and the table's address is one of 32
module _ (s : Machine) (a : BitAddress) (words : (k : ℕ) → get_or s.memory k 0 < 65536) (address : a.0 < 2 ^ 32) (h q m room : ℕ) where
  abbrev passes_by : ℕ → Type 0
  passes_by rule = (sheet_of whole s a rule (time h q m) room).number ≡ 0

  abbrev Table : ℕ → Type 0
  Table n = Good s (a.0 / 16) h q m n room

  module _ (rule : ℕ) (known : KnownRule rule) where
    abbrev strokes : ℕ
    strokes = strokes_of rule (time h q m)

    abbrev InWords : Type 0
    InWords = Begins s rule (time h q m) room × Complete s.memory a strokes × Rises s.memory a strokes

    to : InWords → Table strokes
    to w =
        record {
          size = w.0.size;
          an_hour = w.0.time.an_hour;
          hours = w.0.time.hours;
          quarters = w.0.time.quarters;
          minutes = w.0.time.minutes;
          fits = w.0.fits;
          steps = w.0.steps;
          lies = w.1.lies;
          count = w.1.count;
          rises = w.2;
        }

    from : Table strokes → InWords
    from g = (
      record {
        size = g.size;
        known = known;
        time = record { an_hour = g.an_hour; hours = g.hours; quarters = g.quarters; minutes = g.minutes };
        fits = g.fits;
        steps = g.steps;
      },
      record { lies = g.lies; count = g.count },
      g.rises,
    )

    exactly : (n : ℕ) → strokes ≡ n → passes_by rule ↔ Table n
    exactly n e =
        let law = passes_exactly s a (record { words = words; address = address }) rule (time h q m) room in
        (λ z. subst Table e (to (law.0 z)), λ g. law.1 (from (subst Table (sym e) g)))

  -- By rule 1 a sheet passes exactly if memory, hours, quarters, minutes, list and INCR are not refused, and at word a div 16 lies a whole
  -- and rising table of hours + quarters + minutes strokes, all this written out in numbers (`Good`).
  pub passes_by_one : passes_by 1 ↔ Table (h + q + m)
  passes_by_one = exactly 1 (inl refl) (h + q + m) (by_rule_one (time h q m))

  -- By rule 2 a sheet passes exactly if memory, hours, quarters, minutes, list and INCR are not refused, and at word a div 16 lies a whole
  -- and rising table of hours + 2 times quarters + minutes strokes, all this written out in numbers (`Good`).
  pub passes_by_two : passes_by 2 ↔ Table (h + 2 * q + m)
  passes_by_two = exactly 2 (inr refl) (h + 2 * q + m) (by_rule_two (time h q m))
