-- A block of no words changes nothing, wherever it is put: "Count 0 to 4,096", and a refusal changes nothing either.
use Prim.Native.Nat.{ℕ}
use mathlib.Core.Path.{◌≡◌, sym, ap, ◌∙◌}
use mathlib.Core.List.{List}
use mathlib.Core.Logic.{⊎_elim}
use native.Mathlib.Nat.{add-zero}
use lib.ListN.{take-append-drop}
use Rattle.std.proofs.lemmas.Bool.{cases_eq}
use Rattle.registers.specs.declared.Registers.{Registers}
use Rattle.port_spec.specs.Sequences.{answers, ends}
use Rattle.port_spec.specs.Table.{reading}
use Rattle.block_spec.specs.Block.{block_number, tally, block_read, list_after, block_write, memory_left}
use Rattle.block_spec.proofs.Numbers.{read_taken, list_taken, write_taken, memory_taken}
use Rattle.block_spec.proofs.Numbers.{read_barred, list_barred, write_barred, memory_barred}

module _ (r : Registers) (m l : List ℕ) (place : ℕ) where
  abbrev number : ℕ
  number = block_number m l place 0

  -- A block read of no words counts nothing and leaves the registers.
  pub nothing_read : block_read r m l place 0 ≡ record { number = number; hollows = 0; registers = r }
  unfolding reading answers ends tally
  nothing_read =
      ⊎_elim
      (λ e. read_taken r m l place 0 e ∙ ap (λ (n : ℕ). record { number = n; hollows = 0; registers = r }) (sym e))
      (read_barred r m l place 0)
      (cases_eq number 0)

  -- A block read of no words leaves every place of the list.
  pub list_kept : list_after r m l place 0 ≡ l
  unfolding reading answers
  list_kept =
      ⊎_elim
      (λ e. list_taken r m l place 0 e ∙ rw (add-zero place) (take-append-drop place l))
      (list_barred r m l place 0)
      (cases_eq number 0)

  -- A block write of no words counts nothing and leaves the registers.
  pub nothing_written : block_write r m l place 0 ≡ record { number = number; empties = 0; registers = r }
  unfolding answers ends tally
  nothing_written =
      ⊎_elim
      (λ e. write_taken r m l place 0 e ∙ ap (λ (n : ℕ). record { number = n; empties = 0; registers = r }) (sym e))
      (write_barred r m l place 0)
      (cases_eq number 0)

  -- A block write of no words leaves the memory.
  pub memory_kept : memory_left r m l place 0 ≡ m
  unfolding ends
  memory_kept = ⊎_elim (memory_taken r m l place 0) (memory_barred r m l place 0) (cases_eq number 0)
