-- Blocks: document 01, 'Blocks and the two doors' and number 10 of 'Numbers returned'.
--   block_refusal, block_number        number 1 or 10, or 0 where neither applies
--   list_part l place count            the words of a list's part
--   with_list_part l place count ws    the list with its part become ws
--   writing ws                         two-lane writes of register 2, one for each word
--   counted, tally f xs                a yes as a number, and to how many of the answers xs f says yes
--   is_empty                           the cycle of a store that was dropped
--   hollows_in, empties_in             how many of the answers are hollow, or fell empty
--   block_read, list_after             a block read: its outcome, and the list
--   block_write, memory_left           a block write: its outcome, and the memory
--   ReadBlock, WrittenBlock            these, as the contracts of the two calls
use Rattle.std.specs.Prelude.{ℕ, ◌+◌, Bool, true, false, cond, ◌||◌, List, [], ◌∷◌, ◌++◌, map, ◌≡◌, eqb, ltb, length, take, drop}
use Rattle.words.specs.Memory.{over_limit}
use Rattle.registers.specs.declared.Registers.{Registers}
use Rattle.port_spec.specs.Sequences.{machine, Sixteen, save, answers, ends, words_in}
use Rattle.port_spec.specs.Table.{reading}
use Rattle.port_spec.specs.declared.Answer.{Answer}
use Rattle.port_spec.specs.declared.Cycle.{Cycle}
use Rattle.port_spec.specs.declared.Cycle.TheVariants.{None, Inside, Empty}
use Rattle.block_spec.specs.declared.BlockRead.{BlockRead}
use Rattle.block_spec.specs.declared.BlockWrite.{BlockWrite}

-- "1 memory over 32,768 words; 10 block count over 4,096, or place plus count over the list's length", tested in this order
unfoldable pub block_refusal : ℕ → ℕ → ℕ → ℕ → ℕ
block_refusal words room place count =
    cond (over_limit words) 1
    (cond (ltb 4096 count || ltb room (place + count)) 10 0)

abbrev pub block_number : List ℕ → List ℕ → ℕ → ℕ → ℕ
block_number m l place count = block_refusal (length m) (length l) place count

-- ---- a part of the caller's list, "from a given place"

abbrev pub list_part : List ℕ → ℕ → ℕ → List ℕ
list_part l place count = take count (drop place l)

-- "List places outside the stretch stay"
abbrev pub with_list_part : List ℕ → ℕ → ℕ → List ℕ → List ℕ
with_list_part l place count ws = take place l ++ (ws ++ drop (place + count) l)

-- ---- the accesses: `reading n` of crate port_spec is a count of two-lane reads of register 2

-- "a block write takes its words from such a stretch"
abbrev pub writing : List ℕ → List Sixteen
writing ws = map (save 2) ws

-- ---- what their answers say

-- a yes counts one
abbrev pub counted : Bool → ℕ
counted b = cond b 1 0

unfoldable pub tally : (Answer → Bool) → List Answer → ℕ
tally f [] = 0
tally f (x ∷ rest) = counted (f x) + tally f rest

-- "The answer counts the hollow words handed out"
abbrev pub hollows_in : List Answer → ℕ
hollows_in xs = tally (λ x. x.hollow) xs

abbrev pub is_empty : Cycle → Bool
is_empty None = false
is_empty Inside = false
is_empty Empty = true

-- "or the stores that fell empty"
abbrev pub empties_in : List Answer → ℕ
empties_in xs = tally (λ x. is_empty x.cycle) xs

-- ---- a block read: "a count of two-lane reads of register 2 into a stretch of the caller's list, from a given place"

unfoldable pub block_read : Registers → List ℕ → List ℕ → ℕ → ℕ → BlockRead
block_read r m l place count =
    cond (eqb (block_number m l place count) 0)
    (record {
      number = 0;
      hollows = hollows_in (answers (machine r m) (reading count));
      registers = (ends (machine r m) (reading count)).registers;
    })
    (record { number = block_number m l place count; hollows = 0; registers = r })

unfoldable pub list_after : Registers → List ℕ → List ℕ → ℕ → ℕ → List ℕ
list_after r m l place count =
    cond (eqb (block_number m l place count) 0)
    (with_list_part l place count (words_in (answers (machine r m) (reading count))))
    l

-- what a block read leaves: its outcome and the list
pub record ReadBlock (r : Registers) (m l : List ℕ) (place count : ℕ) (o : BlockRead) (l' : List ℕ) : Type 0 where
  pub outcome : o ≡ block_read r m l place count
  pub list : l' ≡ list_after r m l place count

-- ---- a block write

unfoldable pub block_write : Registers → List ℕ → List ℕ → ℕ → ℕ → BlockWrite
block_write r m l place count =
    cond (eqb (block_number m l place count) 0)
    (record {
      number = 0;
      empties = empties_in (answers (machine r m) (writing (list_part l place count)));
      registers = (ends (machine r m) (writing (list_part l place count))).registers;
    })
    (record { number = block_number m l place count; empties = 0; registers = r })

unfoldable pub memory_left : Registers → List ℕ → List ℕ → ℕ → ℕ → List ℕ
memory_left r m l place count =
    cond (eqb (block_number m l place count) 0)
    (ends (machine r m) (writing (list_part l place count))).memory
    m

-- what a block write leaves: its outcome and the memory
pub record WrittenBlock (r : Registers) (m l : List ℕ) (place count : ℕ) (o : BlockWrite) (m' : List ℕ) : Type 0 where
  pub outcome : o ≡ block_write r m l place count
  pub memory : m' ≡ memory_left r m l place count
