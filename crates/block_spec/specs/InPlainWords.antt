-- A block place by place, in plain words: what its laws say of it.
--   kth_read s k        what the k-th single read answers, counted from 0
--   kth_write s ws k    what the k-th single write answers, of the words ws
--   number_below n f    for how many k below n f says yes
--   Fits l place n      a block of n words that its list does not refuse
use Rattle.std.specs.Prelude.{ℕ, zero, suc, ◌+◌, ◌≤◌, Bool, List, length, get_or, take}
use Rattle.port_spec.specs.Sequences.{Machine, answer_of, ends}
use Rattle.port_spec.specs.Table.{reading}
use Rattle.port_spec.specs.declared.Access.TheVariants.{Read, Write}
use Rattle.port_spec.specs.declared.Answer.{Answer}
use Rattle.block_spec.specs.Block.{writing, counted}

-- after the k reads before it, one by one
abbrev pub kth_read : Machine → ℕ → Answer
kth_read s k = answer_of (ends s (reading k)) (Read 2 3)

-- after the k writes before it, one by one
abbrev pub kth_write : Machine → List ℕ → ℕ → Answer
kth_write s ws k = answer_of (ends s (writing (take k ws))) (Write 2 3 (get_or ws k 0))

unfoldable pub number_below : ℕ → (ℕ → Bool) → ℕ
number_below zero f = 0
number_below (suc n) f = counted (f 0) + number_below n (λ k. f (suc k))

abbrev pub Fits : List ℕ → ℕ → ℕ → Type 0
Fits l place n = (n ≤ 4096) × (place + n ≤ length l)
