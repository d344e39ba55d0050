-- What a call of putting in leaves, said of its outcome: r is what it answered and m' the memory after it.
use Prim.Native.Nat.{ℕ, ◌+◌, ◌%◌, ◌^◌, ◌<◌}
use native.Mathlib.Omega.{arith}
use mathlib.Core.Path.{◌≡◌, refl, sym, ap, ◌∙◌}
use mathlib.Core.List.{List}
use mathlib.Core.Logic.{⊎_elim, ◌≢◌}
use lib.ListN.{length}
use Rattle.words.specs.Addresses.{address}
use Rattle.words.specs.Bytes.{bit}
use Rattle.words.specs.Memory.{AreWords}
use Rattle.words.specs.declared.BitAddress.{BitAddress}
use Rattle.std.proofs.lemmas.Bool.{cases_eq}
use Rattle.field_spec.specs.Field.{memory_bit}
use Rattle.field_spec.specs.Count.{take_cycles}
use Rattle.field_spec.specs.InPlainWords.{Covers}
use Rattle.field_spec.proofs.Readings.{put_length, put_bit, put_elsewhere, put_words}
use Rattle.field_spec.specs.Answers.{refusal, taken, PutIn}
use Rattle.field_spec.specs.declared.Put.{Put}
use Rattle.field_spec.proofs.Accepted.{none_applies}
use Rattle.field_spec.proofs.Answered.{memory_done, memory_refused}
use Rattle.field_spec.proofs.Numbers.{put_number, refused_put}
use Rattle.field_spec.proofs.RoundTrips.{taken_after_put}

module _ {m m' : List ℕ} {a : BitAddress} {n v : ℕ} {r : Put} (p : PutIn m a n v r m') where
  number_is : r.number ≡ refusal (length m) a n
  number_is = ap (λ (s : Put). s.number) p.answer ∙ put_number m a n

  -- If putting in said done, memory bit address + i is the value's bit i, for each bit of the field.
  pub then_bit : r.number ≡ 0 → (i : ℕ) → i < n → memory_bit m' (address (a.0 + i)) ≡ bit v i
  then_bit e i l =
      let z : refusal (length m) a n ≡ 0 = sym number_is ∙ e in
      rw (p.memory, memory_done m a n z v) (put_bit m a n v i l (omega (arith, l, (none_applies (length m) a n z).there)))

  -- After putting in, done or refused, no bit outside the field has changed.
  pub then_elsewhere : (b : BitAddress) → (Covers a n b → ⊥) → memory_bit m' b ≡ memory_bit m b
  then_elsewhere b h =
      ⊎_elim
      (λ z. rw (p.memory, memory_done m a n z v) (put_elsewhere m a n v b h))
      (λ d. rw (p.memory, memory_refused m a n d v))
      (cases_eq (refusal (length m) a n) 0)

  -- After putting in, done or refused, a memory of sixteen-bit words is one still, and has as many as before.
  pub then_words : AreWords m → AreWords m' × (length m' ≡ length m)
  then_words w =
      ⊎_elim
      (λ z. rw (p.memory, memory_done m a n z v) (put_words m a n v w, put_length m a n v))
      (λ d. rw (p.memory, memory_refused m a n d v) (w, refl))
      (cases_eq (refusal (length m) a n) 0)

  -- If putting in said done, the next taking out of the same field answers the value, modulo 2^size.
  pub then_taken : r.number ≡ 0 → taken m' a n ≡ record { number = 0; value = v % 2 ^ n; cycles = take_cycles a n }
  then_taken e = rw p.memory (taken_after_put m a n v (sym number_is ∙ e))

  -- If putting in said another number than 0, it counted no cycle and left the memory as it stood.
  pub then_as_it_stood : r.number ≢ 0 → (r.cycles ≡ 0) × (m' ≡ m)
  then_as_it_stood d =
      let s = refused_put m a n (λ q. d (ap (λ (s : Put). s.number) p.answer ∙ q)) in
      (ap (λ (s : Put). s.cycles) p.answer ∙ s.0, p.memory ∙ s.1 v)
