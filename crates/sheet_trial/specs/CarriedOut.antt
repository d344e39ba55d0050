-- A record carried out: crates/sheet_trial/src/main.rt.
--   laid b room k             the room with the first k of the record's 36 words laid into it
--   machine_of b room         the registers that the call starts from, with the memory that it is lent
--   list_lent b list          the list that it is lent
--   sheet_from, list_from     what the record answers, and the list that it leaves
--   CarriedOut                these and the room, as the contract of carrying out a record
use Rattle.std.specs.Prelude.{ℕ, zero, suc, ◌+◌, ◌≡◌, List, Float, length}
use Rattle.words.specs.Lent.{lent, given_back}
use Rattle.words.specs.Memory.{store_at}
use Rattle.port_spec.specs.Sequences.{Machine, machine}
use Rattle.sheet_spec.specs.Reading.{whole}
use Rattle.sheet_spec.specs.Sheet.{sheet_of, list_after}
use Rattle.sheet_spec.specs.declared.Sheet.{Sheet}
use Rattle.sheet_trial.specs.Record.{number, registers_in, table_in, rule_in, time_in}

-- "the word number from which on n18 to n53 are laid into the room before the call; those beyond the room's end are dropped"
unfoldable pub laid : List ℕ → List ℕ → ℕ → List ℕ
laid b room zero = room
laid b room (suc k) = store_at (laid b room k) (record { 0 = number b 17 + k }) (number b (18 + k))

-- ---- the record b, on a room and a list: "how many .. are lent; above .. it counts as .."
abbrev pub machine_of : List ℕ → List ℕ → Machine
machine_of b room = machine (registers_in b) (lent (number b 16) (laid b room 36))

abbrev pub list_lent : List ℕ → List Float → List Float
list_lent b list = lent (number b 15) list

unfoldable pub sheet_from : List ℕ → List ℕ → List Float → Sheet
sheet_from b room list = sheet_of whole (machine_of b room) (table_in b) (rule_in b) (time_in b) (length (list_lent b list))

unfoldable pub list_from : List ℕ → List ℕ → List Float → List Float
list_from b room list =
    given_back (number b 15) list (list_after whole (machine_of b room) (table_in b) (rule_in b) (time_in b) (list_lent b list))

-- what a record leaves: its sheet, the room with the record's words, and the list
pub record CarriedOut (b room : List ℕ) (list : List Float) (o : Sheet) (room' : List ℕ) (list' : List Float) : Type 0 where
  pub answer : o ≡ sheet_from b room list
  pub room_left : room' ≡ laid b room 36
  pub list_left : list' ≡ list_from b room list
