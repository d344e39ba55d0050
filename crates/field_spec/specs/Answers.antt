-- The answers of the field calls, for every input: document 01, 'Fields' and 'Numbers returned'.
--   no_size n               a field can't have n bits
--   refusal words a n       number 1, 4, 5 or 6, or 0 where none applies, for a memory of so many words
--   Accepted words a n      a field that is accepted by a memory of so many words
--   done_taking m a n       what taking out an accepted field answers
--   taken m a n             what taking out answers
--   taken_signed m a n      what taking out signed answers
--   put_answer words a n    what putting in answers
--   put_memory m a n v      the memory after putting in
use Rattle.std.specs.Prelude.{ℕ, ◌≤◌, ◌<◌, Bool, cond, ◌||◌, List, ◌≡◌, eqb, ltb, leb, ℤ, pos, length}
use Rattle.words.specs.Memory.{over_limit}
use Rattle.words.specs.declared.BitAddress.{BitAddress}
use Rattle.field_spec.specs.Field.{field_at, with_field, signed}
use Rattle.field_spec.specs.Count.{last_word, touched, take_cycles, put_cycles}
use Rattle.field_spec.specs.declared.Taken.{Taken}
use Rattle.field_spec.specs.declared.Put.{Put}

-- "field size not 1 to 32"
unfoldable pub no_size : ℕ → Bool
no_size n = ltb n 1 || ltb 32 n

-- "1 memory over 32,768 words; 4 field size not 1 to 32; 5 field touches more than three words; 6 a touched word isn't in memory",
-- tested in this order (if any touched word isn't in memory, the last isn't)
unfoldable pub refusal : ℕ → BitAddress → ℕ → ℕ
refusal words a n =
    cond (over_limit words) 1
    (cond (no_size n) 4
    (cond (ltb 3 (touched a n)) 5
    (cond (leb words (last_word a n).0) 6 0)))

pub record Accepted (words : ℕ) (a : BitAddress) (n : ℕ) : Type 0 where
  pub few : words ≤ 32768
  pub some : 1 ≤ n
  pub most : n ≤ 32
  pub there : (last_word a n).0 < words

-- ---- "The answer counts memory cycles"; "A refusal returns zeros"

abbrev pub done_taking : List ℕ → BitAddress → ℕ → Taken ℕ
done_taking m a n = record { number = 0; value = field_at m a n; cycles = take_cycles a n }

unfoldable pub taken : List ℕ → BitAddress → ℕ → Taken ℕ
taken m a n =
    cond (eqb (refusal (length m) a n) 0) (done_taking m a n)
    (record { number = refusal (length m) a n; value = 0; cycles = 0 })

unfoldable pub taken_signed : List ℕ → BitAddress → ℕ → Taken ℤ
taken_signed m a n =
    cond (eqb (refusal (length m) a n) 0) (record { number = 0; value = signed n (field_at m a n); cycles = take_cycles a n })
    (record { number = refusal (length m) a n; value = pos 0; cycles = 0 })

unfoldable pub put_answer : ℕ → BitAddress → ℕ → Put
put_answer words a n =
    cond (eqb (refusal words a n) 0) (record { number = 0; cycles = put_cycles a n })
    (record { number = refusal words a n; cycles = 0 })

-- "nothing lent or passed on changes" in a refusal
unfoldable pub put_memory : List ℕ → BitAddress → ℕ → ℕ → List ℕ
put_memory m a n v = cond (eqb (refusal (length m) a n) 0) (with_field m a n v) m

-- what putting in leaves: its answer and the memory
pub record PutIn (m : List ℕ) (a : BitAddress) (n v : ℕ) (r : Put) (m' : List ℕ) : Type 0 where
  pub answer : r ≡ put_answer (length m) a n
  pub memory : m' ≡ put_memory m a n v
