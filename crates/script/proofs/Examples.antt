-- Lines of a script and of answers, by computation: which of the 256 bytes are letters, and of what; a line in which each number has its
-- own digits, and six bad ones that differ from it in one byte or in their length; an answer whose parts are all different.
use Prim.Native.Nat.{ℕ, zero, suc}
use mathlib.Core.Path.{◌≡◌, refl, ap}
use mathlib.Core.Bool.{Bool, true, false, cond}
use mathlib.Core.List.{List, [], ◌∷◌, ◌++◌}
use lib.Dec.{eqb}
use lib.ListN.{length, set, replicate, take}
use Rattle.digits.specs.Digits.{is_decimal, value_of, digit_for}
use Rattle.bus.specs.declared.Bus.{Bus}
use Rattle.script.specs.Answers.{digits, bus_number, state_text, line_of, with_line}
use Rattle.script.specs.Script.{digits_from, number_from, has_number, shaped, is_call, call_in, line_in}
use Rattle.script.specs.Script.{in_place_letter, host_letter, processor_letter, field_letter, bus_letter, block_letter}
use Rattle.script.specs.Script.{setting_letter, whole_letter, plain_letter, lent_letter, known}
use Rattle.script.specs.declared.Done.{Done}
use Rattle.std.specs.Prelude.{Some, None}

-- ---- the letters
-- those below n, in their order
abbrev which : (ℕ → Bool) → ℕ → List ℕ
which is zero = []
which is (suc n) = which is n ++ cond (is n) (n ∷ []) []

-- the letters among the 256 bytes, by what they are calls of
pub record Letters : Type 0 where
  -- H, K
  pub in_place : which in_place_letter 256 ≡ 72 ∷ 75 ∷ []
  -- H, K, R, W
  pub host : which host_letter 256 ≡ 72 ∷ 75 ∷ 82 ∷ 87 ∷ []
  -- P, Q
  pub processor : which processor_letter 256 ≡ 80 ∷ 81 ∷ []
  -- F, S, T
  pub field : which field_letter 256 ≡ 70 ∷ 83 ∷ 84 ∷ []
  -- A, B, C
  pub bus : which bus_letter 256 ≡ 65 ∷ 66 ∷ 67 ∷ []
  -- I, O
  pub block : which block_letter 256 ≡ 73 ∷ 79 ∷ []
  -- G, L, N, Z
  pub setting : which setting_letter 256 ≡ 71 ∷ 76 ∷ 78 ∷ 90 ∷ []
  -- D, J, M
  pub whole : which whole_letter 256 ≡ 68 ∷ 74 ∷ 77 ∷ []
  -- A, B, C, G, L, N, P, Q, Z
  pub plain : which plain_letter 256 ≡ 65 ∷ 66 ∷ 67 ∷ 71 ∷ 76 ∷ 78 ∷ 80 ∷ 81 ∷ 90 ∷ []
  -- F, H, I, K, O, R, S, T, W
  pub lent : which lent_letter 256 ≡ 70 ∷ 72 ∷ 73 ∷ 75 ∷ 79 ∷ 82 ∷ 83 ∷ 84 ∷ 87 ∷ []
  -- A, B, C, D, F, G, H, I, J, K, L, M, N, O, P, Q, R, S, T, W, Z
  pub all_known : which known 256 ≡
      65 ∷ 66 ∷ 67 ∷ 68 ∷ 70 ∷ 71 ∷ 72 ∷ 73 ∷ 74 ∷ 75 ∷ 76 ∷ 77 ∷ 78 ∷ 79 ∷ 80 ∷ 81 ∷ 82 ∷ 83 ∷ 84 ∷ 87 ∷ 90 ∷ []

-- Which of the 256 bytes are letters, and of what calls: those that `Letters` lists, and no others.
pub letters : Letters
unfolding
    in_place_letter host_letter processor_letter field_letter bus_letter block_letter setting_letter whole_letter
    plain_letter lent_letter known
letters =
    record {
      in_place = refl;
      host = refl;
      processor = refl;
      field = refl;
      bus = refl;
      block = refl;
      setting = refl;
      whole = refl;
      plain = refl;
      lent = refl;
      all_known = refl;
    }

-- ---- a line of a script
--   W 7A6B5C4D 3E2F1098 89ABCDEF 01234567
abbrev line : List ℕ
line =
    87 ∷ 32 ∷ 55 ∷ 65 ∷ 54 ∷ 66 ∷ 53 ∷ 67 ∷ 52 ∷ 68 ∷ 32 ∷ 51 ∷ 69 ∷ 50 ∷ 70 ∷ 49 ∷ 48 ∷ 57 ∷ 56 ∷
    32 ∷ 56 ∷ 57 ∷ 65 ∷ 66 ∷ 67 ∷ 68 ∷ 69 ∷ 70 ∷ 32 ∷ 48 ∷ 49 ∷ 50 ∷ 51 ∷ 52 ∷ 53 ∷ 54 ∷ 55 ∷ 10 ∷
    []

-- A line says its call, "a letter, then four numbers a, b, c and d", here each with its own digits.
pub says_its_call : line_in line ≡ Some (record { letter = 87; a = 0x7A6B5C4D; b = 0x3E2F1098; c = 0x89ABCDEF; d = 0x01234567 })
unfolding
    line_in is_call shaped has_number digits_from number_from call_in known plain_letter whole_letter lent_letter
    host_letter in_place_letter processor_letter field_letter bus_letter block_letter setting_letter is_decimal value_of
says_its_call = refl

-- One line that says a call, changed in one byte or in its length, is bad: with an unknown letter, a comma for a space, a lower-case digit,
-- another byte at its end, a byte less, a byte more.
pub others_are_bad :
    (line_in (set line 0 88) ≡ None)
    × (line_in (set line 10 44) ≡ None)
    × (line_in (set line 27 102) ≡ None)
    × (line_in (set line 37 32) ≡ None)
    × (line_in (take 37 line) ≡ None)
    × (line_in (line ++ (10 ∷ [])) ≡ None)
unfolding
    line_in is_call shaped has_number digits_from known plain_letter whole_letter lent_letter
    host_letter in_place_letter processor_letter field_letter bus_letter block_letter setting_letter is_decimal value_of
others_are_bad = (refl, refl, refl, refl, refl, refl)

-- ---- a line of answers
abbrev waiting : Bool → Bool → Bool → Bool → Bool → Bus
waiting hold screen dram host processor =
    record { hold = hold; screen = screen; dram = dram; host = host; processor = processor }

-- The bus is printed as a number: "bit s set: source s waits".
pub sources_counted :
    (bus_number (waiting true false false false false) ≡ 1)
    × (bus_number (waiting false true false false false) ≡ 2)
    × (bus_number (waiting false false true false false) ≡ 4)
    × (bus_number (waiting false false false true false) ≡ 8)
    × (bus_number (waiting false false false false true) ≡ 16)
    × (bus_number (waiting true true true true true) ≡ 31)
unfolding bus_number
sources_counted = (refl, refl, refl, refl, refl, refl)

abbrev done : Done
done =
    record {
      state =
          record {
            registers = record { pointer = record { 0 = 0x7FFF0 }; latch = 0x1234; control = 0x9C00; hollow = true };
            bus = waiting true false false true false;
            length = 27;
            size = 8;
          };
      number = 10;
      x = 0x89ABCDEF;
      y = 0x3E2F1098;
    }

--   W 0A 89ABCDEF 3E2F1098 0007FFF0 1234 9C00 1 09
abbrev answer : List ℕ
answer =
    87 ∷ 32 ∷ 48 ∷ 65 ∷ 32 ∷ 56 ∷ 57 ∷ 65 ∷ 66 ∷ 67 ∷ 68 ∷ 69 ∷ 70 ∷ 32 ∷ 51 ∷ 69 ∷ 50 ∷ 70 ∷ 49 ∷
    48 ∷ 57 ∷ 56 ∷ 32 ∷ 48 ∷ 48 ∷ 48 ∷ 55 ∷ 70 ∷ 70 ∷ 70 ∷ 48 ∷ 32 ∷ 49 ∷ 50 ∷ 51 ∷ 52 ∷ 32 ∷ 57 ∷
    67 ∷ 48 ∷ 48 ∷ 32 ∷ 49 ∷ 32 ∷ 48 ∷ 57 ∷ 10 ∷
    []

-- "a line of exactly 47 bytes for each call": an answer's line fills a place of 47 bytes, whatever stood there, and leaves one of 46 or 48.
pub prints_its_answer :
    ((l : List ℕ) → length l ≡ 47 → with_line l 87 done ≡ answer)
    × (with_line (replicate 46 0) 87 done ≡ replicate 46 0)
    × (with_line (replicate 48 0) 87 done ≡ replicate 48 0)
unfolding with_line line_of state_text digits digit_for bus_number
prints_its_answer = (λ l e. ap (λ (n : ℕ). cond (eqb n 47) answer l) e, refl, refl)
