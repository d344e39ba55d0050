-- What the contract of putting in promises, said of any outcome that `PutIn` allows: the number when and only then, the cycles, the
-- memory bit by bit, what a refusal leaves, and what two calls, one after the other or on values alike, leave.
-- `AfterPut` says what the next taking out answers.
use Prim.Native.Nat.{ℕ, ◌+◌, ◌%◌, ◌^◌, ◌<◌}
use mathlib.Core.Path.{◌≡◌, sym, ap, ◌∙◌}
use mathlib.Core.List.{List}
use mathlib.Core.Logic.{◌≢◌}
use lib.ListN.{length}
use Rattle.words.specs.Addresses.{address}
use Rattle.words.specs.Bytes.{bit}
use Rattle.words.specs.declared.BitAddress.{BitAddress}
use Rattle.field_spec.specs.Field.{memory_bit}
use Rattle.field_spec.specs.Count.{put_cycles}
use Rattle.field_spec.specs.InPlainWords.{Covers}
use Rattle.field_spec.specs.Answers.{taken, put_memory, PutIn}
use Rattle.field_spec.specs.declared.Put.{Put}
use Rattle.field_spec.proofs.Answered.{put_done}
use Rattle.field_spec.proofs.Numbers.{FieldWhen, put_number, numbered}
use Rattle.field_spec.proofs.RoundTrips.{put_after_taken, put_modulo}
use Rattle.field_spec.proofs.AfterPut.{then_bit, then_elsewhere, then_as_it_stood}

module _ {m m' : List ℕ} {a : BitAddress} {n v : ℕ} {r : Put} (p : PutIn m a n v r m') where
  -- Putting in answers one of 0, 1, 4, 5 and 6, each when, and only then (`FieldWhen`).
  pub put_returns_number : FieldWhen (length m) a n r.number
  put_returns_number = rw p.answer (numbered m a n).2

  -- Refused, putting in counts no cycle and leaves the memory.
  pub refused_call : r.number ≢ 0 → (r.cycles ≡ 0) × (m' ≡ m)
  refused_call = then_as_it_stood p

  -- a putting in that is done
  module _ (z : r.number ≡ 0) where
    -- Done, putting in counts one cycle for each word wholly covered, and two for each word partly covered.
    pub counts_cycles : r.cycles ≡ put_cycles a n
    counts_cycles =
        ap (λ (s : Put). s.cycles)
        (p.answer ∙ put_done m a n (sym (ap (λ (s : Put). s.number) p.answer ∙ put_number m a n) ∙ z))

    -- Done, putting in makes memory bit address + i the value's bit i for each bit of the field, and leaves every other bit.
    pub leaves_each_bit :
        ((i : ℕ) → i < n → memory_bit m' (address (a.0 + i)) ≡ bit v i)
        × ((b : BitAddress) → (Covers a n b → ⊥) → memory_bit m' b ≡ memory_bit m b)
    leaves_each_bit = (then_bit p z, then_elsewhere p)

-- What was taken out, put in again, leaves the memory.
pub put_back : {m m' : List ℕ} {a : BitAddress} {n : ℕ} {r : Put} → PutIn m a n (taken m a n).value r m' → m' ≡ m
put_back {m} {m'} {a} {n} p = p.memory ∙ put_after_taken m a n

-- Two values that are the same modulo 2^size, put in, give the same answer and leave the same memory.
pub put_alike_modulo : {m m' m'' : List ℕ} {a : BitAddress} {n v w : ℕ} {r s : Put} → PutIn m a n v r m' → PutIn m a n w s m'' →
    v % 2 ^ n ≡ w % 2 ^ n → (r ≡ s) × (m' ≡ m'')
put_alike_modulo {m} {m'} {m''} {a} {n} {v} {w} p q e = (
  p.answer ∙ sym q.answer,
  p.memory ∙ put_modulo m a n v ∙ ap (λ (x : ℕ). put_memory m a n x) e ∙ sym (put_modulo m a n w) ∙ sym q.memory,
)
