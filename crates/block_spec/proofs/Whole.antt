-- An accepted block, from what its accesses leave: what the two calls end with.
use Prim.Native.Nat.{ℕ}
use mathlib.Core.Path.{◌≡◌, sym, ap, ◌∙◌}
use mathlib.Core.List.{List}
use Rattle.registers.specs.declared.Registers.{Registers}
use Rattle.port_spec.specs.Sequences.{machine, answers}
use Rattle.port_spec.specs.Table.{reading}
use Rattle.block_spec.specs.Block.{block_number, list_part, with_list_part, writing, hollows_in, empties_in, ReadBlock, WrittenBlock}
use Rattle.block_spec.specs.Parts.{ReadInto, WrittenFrom}
use Rattle.block_spec.specs.declared.Run.{Run}
use Rattle.block_spec.proofs.Numbers.{read_taken, list_taken, write_taken, memory_taken}

module _ (r : Registers) (m l : List ℕ) (place count : ℕ) (e : block_number m l place count ≡ 0) (o : Run) where
  -- An accepted block whose reads leave o and hand out the words ws is a block read that answers as o says, with ws in the list's part.
  pub read_block : (ws : List ℕ) → ReadInto (machine r m) count o ws →
      ReadBlock r m l place count (record { number = 0; hollows = o.tallied; registers = o.registers })
      (with_list_part l place count ws)
  read_block ws a =
      record {
        outcome =
            ap (λ (n : ℕ). record { number = 0; hollows = n; registers = o.registers }) a.tallied ∙
            ap (λ (q : Registers). record { number = 0; hollows = hollows_in (answers (machine r m) (reading count)); registers = q })
            a.registers ∙
            sym (read_taken r m l place count e);
        list = ap (with_list_part l place count) a.words ∙ sym (list_taken r m l place count e);
      }

  -- An accepted block whose writes leave o and the memory m' is a block write that answers as o says and leaves m'.
  pub write_block : (m' : List ℕ) → WrittenFrom (machine r m) (list_part l place count) o m' →
      WrittenBlock r m l place count (record { number = 0; empties = o.tallied; registers = o.registers }) m'
  write_block m' a =
      let writes = writing (list_part l place count) in
      record {
        outcome =
            ap (λ (n : ℕ). record { number = 0; empties = n; registers = o.registers }) a.tallied ∙
            ap (λ (q : Registers). record { number = 0; empties = empties_in (answers (machine r m) writes); registers = q })
            a.registers ∙
            sym (write_taken r m l place count e);
        memory = a.memory ∙ sym (memory_taken r m l place count e);
      }
