-- A run of accesses in two parts: the first, then the second from where the first ended. What they answer is joined.
-- By the accesses of the first part, one after the other.
use Prim.Native.Nat.{ℕ, zero, suc, ◌+◌, ◌≤◌}
use native.Mathlib.Nat.{zero-add, suc-add}
use native.Mathlib.Omega.{arith}
use mathlib.Core.Path.{◌≡◌, refl, ap, ◌∙◌}
use mathlib.Core.List.{List, [], ◌∷◌, ◌++◌}
use lib.ListN.{length, take, length-map}
use Rattle.port_spec.specs.Sequences.{Machine, Sixteen, load, on, answer_of, after, answers, ends, words_in}
use Rattle.port_spec.specs.Table.{reading}
use Rattle.port_spec.specs.declared.Answer.{Answer}
use Rattle.port_spec.specs.declared.Access.TheVariants.{Read}
use Rattle.port_spec.proofs.DataRegister.{read_keeps_memory}

-- ---- any accesses
-- Of a run of accesses in two parts the second goes on from where the first ended.
pub ends_join : (s : Machine) (xs ys : List Sixteen) → ends s (xs ++ ys) ≡ ends (ends s xs) ys
unfolding ends
ends_join s [] ys = refl
ends_join s (x ∷ xs) ys = ends_join (after s (on 3 x)) xs ys

-- Of a run of accesses in two parts the answers of the second come after those of the first.
pub answers_join : (s : Machine) (xs ys : List Sixteen) → answers s (xs ++ ys) ≡ answers s xs ++ answers (ends s xs) ys
unfolding answers ends
answers_join s [] ys = refl
answers_join s (x ∷ xs) ys = ap (λ (l : List Answer). answer_of s (on 3 x) ∷ l) (answers_join (after s (on 3 x)) xs ys)

-- There is an answer to each access.
pub answers_length : (s : Machine) (xs : List Sixteen) → length (answers s xs) ≡ length xs
unfolding answers
answers_length s [] = refl
answers_length s (x ∷ xs) = ap suc (answers_length (after s (on 3 x)) xs)

-- ---- reads
-- n + k reads are n reads and then k.
pub reading_join : (n k : ℕ) → reading (n + k) ≡ reading n ++ reading k
unfolding reading
reading_join zero k = ap reading (zero-add k)
reading_join (suc n) k = ap reading (suc-add n k) ∙ ap (λ (l : List Sixteen). load 2 ∷ l) (reading_join n k)

-- n reads are n accesses.
pub reading_length : (n : ℕ) → length (reading n) ≡ n
unfolding reading
reading_length zero = refl
reading_length (suc n) = ap suc (reading_length n)

-- Of n reads the first k answer what k reads do.
pub reads_front : (s : Machine) (k n : ℕ) → k ≤ n → answers s (reading k) ≡ take k (answers s (reading n))
unfolding reading answers
reads_front s zero n h = refl
reads_front s (suc k) zero h = absurd (omega arith)
reads_front s (suc k) (suc n) h =
    ap (λ (l : List Answer). answer_of s (Read 2 3) ∷ l) (reads_front (after s (Read 2 3)) k n (omega arith))

-- Reads leave the memory.
pub reads_keep_memory : (s : Machine) (n : ℕ) → (ends s (reading n)).memory ≡ s.memory
unfolding reading ends after
reads_keep_memory s zero = refl
reads_keep_memory s (suc n) =
    reads_keep_memory (after s (Read 2 3)) n ∙ read_keeps_memory s.registers s.memory 2 3

-- n reads hand out n words.
pub filled_length : (s : Machine) (n : ℕ) → length (words_in (answers s (reading n))) ≡ n
filled_length s n = length-map (answers s (reading n)) (λ x. x.word) ∙ answers_length s (reading n) ∙ reading_length n
