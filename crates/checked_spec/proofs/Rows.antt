-- A table that holds, row by row and step by step. Rows and steps are counted from 0.
--   row t n, line e i    the n-th row of a table; what must come out of the i-th step of an example
use Prim.Native.Nat.{ℕ}
use mathlib.Core.Path.{◌≡◌, ap, sym, ◌∙◌}
use mathlib.Core.List.{List, [], map}
use lib.IntN.{ℤ}
use lib.ListN.{get_or, get_or-map}
use Rattle.port_spec.specs.Deeds.{woken}
use Rattle.port_spec.specs.declared.Answer.{Answer}
use Rattle.field_spec.specs.declared.Put.{Put}
use Rattle.field_spec.specs.declared.Taken.{Taken}
use Rattle.checked_spec.specs.Acts.{Seen, Step, Example, ◌⇒◌, memory, replay, replayed}
use Rattle.checked_spec.specs.Acts.{answered, put_in, taken_out, taken_out_signed, granted_to, number, is, words}
use Rattle.checked_spec.specs.Examples.{at_rest}

-- what stands for a row or a step that a table does not have
abbrev no_steps : Example
no_steps = record { start = at_rest (woken []); steps = [] }

abbrev no_step : Step
no_step = memory ⇒ words []

-- the n-th row of a table, or one without steps where it has none
abbrev pub row : List Example → ℕ → Example
row t n = get_or t n no_steps

-- what comes out of the i-th step of a row
abbrev pub line : Example → ℕ → Seen
line e i = (get_or e.steps i no_step).what

-- The n-th row of a table that holds is what the definitions make of it.
pub row_holds : {t : List Example} → map replayed t ≡ t → (n : ℕ) → replayed (row t n) ≡ row t n
unfolding replayed replay
row_holds {t} holds n = sym (get_or-map replayed t n no_steps) ∙ ap (λ (x : List Example). row x n) holds

-- What comes out of the i-th step of the n-th row of a table that holds is what the definitions make of it.
pub step_holds : {t : List Example} → map replayed t ≡ t → (n i : ℕ) → line (replayed (row t n)) i ≡ line (row t n) i
step_holds holds n i = ap (λ (e : Example). line e i) (row_holds holds n)

-- ---- lines

-- Two lines that tell an answer to the host are equal only if the answers are.
pub same_answer : {x y : Answer} → answered x ≡ answered y → x ≡ y
same_answer e = cc

-- Two lines that tell the answer to a putting in are equal only if the answers are.
pub same_put : {x y : Put} → put_in x ≡ put_in y → x ≡ y
same_put e = cc

-- Two lines that tell the answer to a taking out are equal only if the answers are.
pub same_taken : {x y : Taken ℕ} → taken_out x ≡ taken_out y → x ≡ y
same_taken e = cc

-- Two lines that tell the answer to a taking out as signed are equal only if the answers are.
pub same_signed : {x y : Taken ℤ} → taken_out_signed x ≡ taken_out_signed y → x ≡ y
same_signed e = cc

-- Two lines that tell a grant are equal only if its number and source are.
pub same_grant : {m n s t : ℕ} → granted_to m s ≡ granted_to n t → (m ≡ n) × (s ≡ t)
same_grant e = (cc, cc)

-- Two lines that tell a number returned are equal only if the numbers are.
pub same_number : {m n : ℕ} → number m ≡ number n → m ≡ n
same_number e = cc

-- Two lines that tell what is looked at are equal only if that is.
pub same_look : {m n : ℕ} → is m ≡ is n → m ≡ n
same_look e = cc

-- Two lines that tell the words of memory are equal only if the words are.
pub same_words : {x y : List ℕ} → words x ≡ words y → x ≡ y
same_words e = cc
