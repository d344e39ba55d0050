-- What a record says, by computation: the record whose byte k is k, so that each byte of a number tells its place; and words that are laid.
use Prim.Native.Nat.{ℕ, zero, suc}
use mathlib.Core.Path.{◌≡◌, refl}
use mathlib.Core.Bool.{true, false}
use mathlib.Core.List.{List, [], ◌∷◌, ◌++◌}
use lib.ListN.{replicate}
use Rattle.words.specs.Addresses.{address}
use Rattle.words.specs.Memory.{store_at}
use Rattle.sheet_spec.specs.InPlainWords.{time}
use Rattle.sheet_trial.specs.Record.{number, registers_in, table_in, rule_in, time_in}
use Rattle.sheet_trial.specs.CarriedOut.{laid}

-- n numbers from k on
abbrev counting : ℕ → ℕ → List ℕ
counting k zero = []
counting k (suc n) = k ∷ counting (suc k) n

abbrev own_places : List ℕ
own_places = counting 0 108

-- the same from 1 on, so that n4, the hollow mark, is odd
abbrev hollow_one : List ℕ
hollow_one = counting 1 108

-- n17 is 1, and n18 to n53 are 2524h, 2726h and so on
abbrev from_one : List ℕ
from_one = replicate 34 0 ++ (1 ∷ 0 ∷ counting 36 72)

-- what records say whose bytes tell their places, and words that are laid
pub record Says : Type 0 where
  pub registers :
      registers_in own_places ≡ record { pointer = address 0x03020100; latch = 0x0504; control = 0x0706; hollow = false }
  pub hollow : (registers_in hollow_one).hollow ≡ true
  pub table : table_in own_places ≡ address 0x0d0c0b0a
  pub rule : rule_in own_places ≡ 0x11100f0e
  pub struck : time_in own_places ≡ time 0x15141312 0x19181716 0x1d1c1b1a
  pub places_lent : number own_places 15 ≡ 0x1f1e
  pub words_lent : number own_places 16 ≡ 0x2120
  pub first_laid : number own_places 17 ≡ 0x2322
  -- all that a room of four words has place for
  pub words_laid : laid from_one (replicate 4 9) 36 ≡ 9 ∷ 0x2524 ∷ 0x2726 ∷ 0x2928 ∷ []

-- Registers, table, rule, time and how much is lent are read from the record's bytes at their places, low byte first; and its words are
-- laid into the room as far as this goes.
pub they_say : Says
unfolding store_at laid
they_say =
    record {
      registers = refl;
      hollow = refl;
      table = refl;
      rule = refl;
      struck = refl;
      places_lent = refl;
      words_lent = refl;
      first_laid = refl;
      words_laid = refl;
    }
