-- Demand 1 for blocks: the number is 0, 1 or 10, each when, and only then; a refusal counts nothing and leaves registers, list and
-- memory as they stood. By cases on the tests of `block_refusal`, in its order.
use Prim.Native.Nat.{ℕ, ◌+◌, ◌<◌, ◌≤◌}
use native.Mathlib.Omega.{arith}
use mathlib.Core.Path.{◌≡◌, refl, sym, ap, ◌∙◌}
use mathlib.Core.Bool.{Bool, true, false, cond, ◌||◌}
use mathlib.Core.List.{List}
use mathlib.Core.Logic.{◌⊎◌, inl, inr, ⊎_elim, ◌↔◌, ◌≢◌}
use lib.Dec.{ltb}
use lib.ListN.{length}
use borrow.Author.Tests.{ltb-true, ltb-false, eq-eqb, ne_eqb}
use Rattle.std.proofs.lemmas.Bool.{cases_eq}
use Rattle.registers.specs.declared.Registers.{Registers}
use Rattle.port_spec.specs.Sequences.{machine, words_in, Sixteen, answers, ends}
use Rattle.port_spec.specs.Table.{reading}
use Rattle.block_spec.specs.Block.{block_refusal, block_number, list_part, with_list_part, writing, hollows_in, empties_in}
use Rattle.block_spec.specs.Block.{block_read, list_after, block_write, memory_left}
use Rattle.block_spec.specs.declared.BlockRead.{BlockRead}
use Rattle.block_spec.specs.declared.BlockWrite.{BlockWrite}

-- v is the number for a memory of so many words, a list of so many places, a place and a count: 1 exactly if there are over 32,768 words;
-- 10 exactly if not, and the count is over 4,096 or place plus count over the list's length; 0 exactly otherwise
pub record BlockWhen (words room place count v : ℕ) : Type 0 where
  pub listed : (v ≡ 0) ⊎ ((v ≡ 1) ⊎ (v ≡ 10))
  pub over : v ≡ 1 ↔ 32768 < words
  pub unfit : v ≡ 10 ↔ (words ≤ 32768) × ((4096 < count) ⊎ (room < place + count))
  pub done : v ≡ 0 ↔ (words ≤ 32768) × (count ≤ 4096) × (place + count ≤ room)

-- The number that applies is 0, 1 or 10, each when, and only then (`BlockWhen`).
pub when : (words room place count : ℕ) → BlockWhen words room place count (block_refusal words room place count)
unfolding block_refusal
when n l p k = go (ltb 32768 n) (ltb 4096 k) (ltb l (p + k)) refl refl refl
  where
    go : (a b c : Bool) → ltb 32768 n ≡ a → ltb 4096 k ≡ b → ltb l (p + k) ≡ c → BlockWhen n l p k (cond a 1 (cond (b || c) 10 0))
    go true b c x y z =
        let h = ltb-true 32768 n x in
        record {
          listed = inr (inl refl);
          over = (λ _. h, λ _. refl);
          unfit = (λ e. absurd (omega arith), λ w. absurd (omega arith));
          done = (λ e. absurd (omega arith), λ w. absurd (omega arith));
        }
    go false true c x y z =
        let h = ltb-false 32768 n x in
        let m = ltb-true 4096 k y in
        record {
          listed = inr (inr refl);
          over = (λ e. absurd (omega arith), λ w. absurd (omega arith));
          unfit = (λ _. (h, inl m), λ _. refl);
          done = (λ e. absurd (omega arith), λ w. absurd (omega arith));
        }
    go false false true x y z =
        let h = ltb-false 32768 n x in
        let m = ltb-true l (p + k) z in
        record {
          listed = inr (inr refl);
          over = (λ e. absurd (omega arith), λ w. absurd (omega arith));
          unfit = (λ _. (h, inr m), λ _. refl);
          done = (λ e. absurd (omega arith), λ w. absurd (omega arith));
        }
    go false false false x y z =
        let h = ltb-false 32768 n x in
        let few = ltb-false 4096 k y in
        let fits = ltb-false l (p + k) z in
        record {
          listed = inl refl;
          over = (λ e. absurd (omega arith), λ w. absurd (omega arith));
          unfit = (λ e. absurd (omega arith), λ w. absurd (⊎_elim (λ q. omega arith) (λ q. omega arith) w.1));
          done = (λ _. (h, few, fits), λ _. refl);
        }

module _ (r : Registers) (m l : List ℕ) (place count : ℕ) where
  abbrev number : ℕ
  number = block_number m l place count

  -- ---- a block that is accepted is its accesses
  module _ (e : number ≡ 0) where
    abbrev writes : List Sixteen
    writes = writing (list_part l place count)

    -- An accepted block read answers 0, the hollow words that its single reads hand out, counted, and the registers where they end.
    pub read_taken : block_read r m l place count ≡
        record {
          number = 0;
          hollows = hollows_in (answers (machine r m) (reading count));
          registers = (ends (machine r m) (reading count)).registers;
        }
    unfolding block_read
    read_taken = rw (eq-eqb _ _ e)

    -- The list after an accepted block read has in its part the words that the single reads hand out.
    pub list_taken : list_after r m l place count ≡ with_list_part l place count (words_in (answers (machine r m) (reading count)))
    unfolding list_after
    list_taken = rw (eq-eqb _ _ e)

    -- An accepted block write answers 0, the stores of its single writes that fell empty, counted, and the registers where they end.
    pub write_taken : block_write r m l place count ≡
        record { number = 0; empties = empties_in (answers (machine r m) writes); registers = (ends (machine r m) writes).registers }
    unfolding block_write
    write_taken = rw (eq-eqb _ _ e)

    -- The memory after an accepted block write is that where the single writes end.
    pub memory_taken : memory_left r m l place count ≡ (ends (machine r m) writes).memory
    unfolding memory_left
    memory_taken = rw (eq-eqb _ _ e)

  -- ---- a block that is refused
  module _ (n : number ≢ 0) where
    -- A refused block read answers its number, counts nothing, and leaves the registers.
    pub read_barred : block_read r m l place count ≡ record { number = number; hollows = 0; registers = r }
    unfolding block_read
    read_barred = rw (ne_eqb _ _ n)

    -- A refused block read leaves every place of the list.
    pub list_barred : list_after r m l place count ≡ l
    unfolding list_after
    list_barred = rw (ne_eqb _ _ n)

    -- A refused block write answers its number, counts nothing, and leaves the registers.
    pub write_barred : block_write r m l place count ≡ record { number = number; empties = 0; registers = r }
    unfolding block_write
    write_barred = rw (ne_eqb _ _ n)

    -- A refused block write leaves the memory.
    pub memory_barred : memory_left r m l place count ≡ m
    unfolding memory_left
    memory_barred = rw (ne_eqb _ _ n)

  -- ---- the number answered
  -- A block read answers the number that applies.
  pub read_number : (block_read r m l place count).number ≡ number
  read_number =
      ⊎_elim
      (λ e. ap (λ (o : BlockRead). o.number) (read_taken e) ∙ sym e)
      (λ n. ap (λ (o : BlockRead). o.number) (read_barred n))
      (cases_eq number 0)

  -- A block write answers the number that applies.
  pub write_number : (block_write r m l place count).number ≡ number
  write_number =
      ⊎_elim
      (λ e. ap (λ (o : BlockWrite). o.number) (write_taken e) ∙ sym e)
      (λ n. ap (λ (o : BlockWrite). o.number) (write_barred n))
      (cases_eq number 0)

  -- The number of a block read is 0, 1 or 10: 1 exactly if memory has over 32,768 words; 10 exactly if not, and the count is over 4,096 or
  -- place plus count over the list's length; 0 exactly otherwise.
  pub read_numbered : BlockWhen (length m) (length l) place count (block_read r m l place count).number
  read_numbered = rw read_number (when (length m) (length l) place count)

  -- The number of a block write is 0, 1 or 10: 1 exactly if memory has over 32,768 words; 10 exactly if not, and the count is over 4,096 or
  -- place plus count over the list's length; 0 exactly otherwise.
  pub write_numbered : BlockWhen (length m) (length l) place count (block_write r m l place count).number
  write_numbered = rw write_number (when (length m) (length l) place count)
