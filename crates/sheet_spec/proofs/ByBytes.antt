-- Demand 3 for sheets: with each access done instead as two byte accesses, in the order that LBL commands when it begins, a sheet comes
-- out the same. There is no condition on the memory, the registers, the table, the rule or the time.
-- A sheet is made of what its accesses answer and where they end, and those are alike (crate port_spec, `Alike`).
use Prim.Native.Nat.{ℕ}
use mathlib.Core.Path.{◌≡◌}
use mathlib.Core.List.{List}
use lib.Ieee.{Float}
use Rattle.words.specs.declared.BitAddress.{BitAddress}
use Rattle.port_spec.specs.Sequences.{Machine}
use Rattle.port_spec.specs.Table.{loading}
use Rattle.port_spec.proofs.Alike.{answers_alike, ends_alike}
use Rattle.sheet_spec.specs.Reading.{whole, by_bytes, table_read}
use Rattle.sheet_spec.specs.Sheet.{strokes_of, made, read_number, read_sheet, read_list, sheet_of, list_after}
use Rattle.sheet_spec.specs.declared.TimeStruck.{TimeStruck}

module _ (s : Machine) (a : BitAddress) (n : ℕ) where
  -- A reader whose accesses are each done as two byte accesses is told the same.
  pub told_alike : table_read by_bytes s a n ≡ table_read whole s a n
  unfolding table_read
  told_alike = rw (ends_alike s (loading s.registers.control a), answers_alike _ _)

  -- A reader whose accesses are each done as two byte accesses makes the same accesses.
  pub made_alike : made by_bytes s a n ≡ made whole s a n
  unfolding made
  made_alike = rw told_alike

  -- A reader whose accesses are each done as two byte accesses leaves the same registers and memory.
  pub moves_alike : by_bytes.ended s (made by_bytes s a n) ≡ whole.ended s (made whole s a n)
  moves_alike = rw made_alike (ends_alike s (made whole s a n))

  read_alike : (rule : ℕ) → read_sheet by_bytes s a n rule ≡ read_sheet whole s a n rule
  unfolding read_sheet read_number
  read_alike rule = rw (told_alike, moves_alike)

  read_list_alike : (l : List Float) → read_list by_bytes s a n l ≡ read_list whole s a n l
  unfolding read_list read_number
  read_list_alike l = rw told_alike

module _ (s : Machine) (a : BitAddress) (rule : ℕ) (t : TimeStruck) where
  -- A sheet whose accesses are each done as two byte accesses answers the same, and leaves the same registers, whatever the memory, the
  -- registers, the table, the rule and the time.
  pub sheet_alike : (room : ℕ) → sheet_of by_bytes s a rule t room ≡ sheet_of whole s a rule t room
  unfolding sheet_of
  sheet_alike room = rw (read_alike s a (strokes_of rule t) rule)

  -- A sheet whose accesses are each done as two byte accesses leaves the same list.
  pub list_alike : (l : List Float) → list_after by_bytes s a rule t l ≡ list_after whole s a rule t l
  unfolding list_after
  list_alike l = rw (read_list_alike s a (strokes_of rule t) l)
