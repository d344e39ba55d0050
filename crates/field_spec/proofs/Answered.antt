-- The answer to a field that is accepted, and to one that is refused.
use Prim.Native.Nat.{ℕ}
use mathlib.Core.Path.{◌≡◌}
use mathlib.Core.List.{List}
use mathlib.Core.Logic.{◌≢◌}
use lib.IntN.{pos}
use lib.ListN.{length}
use borrow.Author.Tests.{ne_eqb}
use Rattle.words.specs.declared.BitAddress.{BitAddress}
use Rattle.field_spec.specs.Field.{field_at, with_field, signed}
use Rattle.field_spec.specs.Count.{take_cycles, put_cycles}
use Rattle.field_spec.specs.Answers.{refusal, taken, taken_signed, put_answer, put_memory}

module _ (m : List ℕ) (a : BitAddress) (n : ℕ) where
  module _ (e : refusal (length m) a n ≡ 0) where
    -- Where the field is accepted, taking it out answers number 0, the field and its cycles.
    pub taken_done : taken m a n ≡ record { number = 0; value = field_at m a n; cycles = take_cycles a n }
    unfolding taken
    taken_done = rw e

    -- Where the field is accepted, taking it out as signed answers number 0, its signed reading and its cycles.
    pub signed_done : taken_signed m a n ≡ record { number = 0; value = signed n (field_at m a n); cycles = take_cycles a n }
    unfolding taken_signed
    signed_done = rw e

    -- Where the field is accepted, putting one in answers number 0 and its cycles.
    pub put_done : put_answer (length m) a n ≡ record { number = 0; cycles = put_cycles a n }
    unfolding put_answer
    put_done = rw e

    -- Where the field is accepted, putting one in leaves the memory with the field put in.
    pub memory_done : (v : ℕ) → put_memory m a n v ≡ with_field m a n v
    unfolding put_memory
    memory_done v = rw e

  module _ (e : refusal (length m) a n ≢ 0) where
    -- Where the field is refused, taking it out answers the number that applies, and zeros.
    pub taken_refused : taken m a n ≡ record { number = refusal (length m) a n; value = 0; cycles = 0 }
    unfolding taken
    taken_refused = rw (ne_eqb _ _ e)

    -- Where the field is refused, taking it out as signed answers the number that applies, and zeros.
    pub signed_refused : taken_signed m a n ≡ record { number = refusal (length m) a n; value = pos 0; cycles = 0 }
    unfolding taken_signed
    signed_refused = rw (ne_eqb _ _ e)

    -- Where the field is refused, putting one in answers the number that applies, and no cycles.
    pub put_refused : put_answer (length m) a n ≡ record { number = refusal (length m) a n; cycles = 0 }
    unfolding put_answer
    put_refused = rw (ne_eqb _ _ e)

    -- Where the field is refused, putting one in leaves the memory as it stood, whatever the value.
    pub memory_refused : (v : ℕ) → put_memory m a n v ≡ m
    unfolding put_memory
    memory_refused v = rw (ne_eqb _ _ e)
