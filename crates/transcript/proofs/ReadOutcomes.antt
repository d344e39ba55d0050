-- What the reader answers and leaves: a refusal with the lists as they were, or the entries put into them.
use Prim.Native.Nat.{ℕ, ◌≤◌, ◌<◌}
use native.Mathlib.Omega.{arith}
use mathlib.Core.Path.{◌≡◌, sym, ap, ◌∙◌}
use mathlib.Core.List.{List}
use mathlib.Core.Logic.{◌≢◌, ⊎_elim}
use lib.ListN.{length}
use borrow.Author.Tests.{lt-ltb, eq-eqb, ne_eqb}
use Rattle.std.proofs.lemmas.Bool.{cases_eq, cases_lt}
use Rattle.transcript_spec.specs.Lists.{Lists, size, with_each}
use Rattle.transcript_spec.specs.Reading.{fresh, entries_read, refusal_read, read_answer, lists_after, ReadTranscript}
use Rattle.transcript_spec.specs.declared.Part.{Part}
use Rattle.transcript_spec.specs.declared.Transcribed.{Transcribed}
use Rattle.transcript_spec.proofs.Filled.{each_fits}
use Rattle.transcript_scan.specs.Scan.{scanned, read_on}
use Rattle.transcript_scan.specs.declared.scanning.Scanned.{Scanned}
use Rattle.transcript.specs.ReaderParts.{answer_for}

-- The answer is right that follows from a scan and from the room of the shortest list.
pub right_answer : {o : Transcribed} {found : Scanned} (s : List ℕ) (room : ℕ) → o ≡ answer_for found room →
    found ≡ scanned s → o ≡ read_answer s room
unfolding read_answer answer_for
right_answer s room e is = e ∙ ap (λ (f : Scanned). answer_for f room) is

module _ (s : List ℕ) (room : ℕ) where
  -- more entries than have room: a number, that of a bad record or 24
  number_if_more : room < length (entries_read s) → (read_answer s room).number ≢ 0
  unfolding read_answer
  number_if_more more e =
      ⊎_elim
      (λ good.
      let never : ◌≡◌ {A = ℕ} 24 0 = rw (eq-eqb (refusal_read s) 0 good, lt-ltb room (length (entries_read s)) more) at e in omega arith)
      (λ bad. bad (rw (ne_eqb (refusal_read s) 0 bad) at e)) (cases_eq (refusal_read s) 0)

  -- what is accepted has room
  all_fit : (read_answer s room).number ≡ 0 → length (entries_read s) ≤ room
  all_fit e =
      ⊎_elim (λ more. omega (arith, number_if_more more e)) (λ fits. fits) (cases_lt room (length (entries_read s)))

module _ (s : List ℕ) (l : Lists) {o : Transcribed} (right : o ≡ read_answer s (size l)) where
  number_is : o.number ≡ (read_answer s (size l)).number
  number_is = ap (λ (x : Transcribed). x.number) right

  -- With a refusal, the reader leaves the lists as they were.
  pub nothing_put : o.number ≢ 0 → ReadTranscript s l o l
  unfolding lists_after
  nothing_put h = record { answer = right; lists = rw (ne_eqb (read_answer s (size l)).number 0 (λ z. h (number_is ∙ z))) }

  -- Without a refusal, the reader puts the entries into the lists' first places, and all of them fit.
  pub all_put : {l' : Lists} → o.number ≡ 0 → l' ≡ with_each l 0 (entries_read s) → ReadTranscript s l o l'
  unfolding lists_after
  all_put good e =
      let accepted = sym number_is ∙ good in
      record {
        answer = right;
        lists =
            rw (eq-eqb (read_answer s (size l)).number 0 accepted)
            (e ∙ each_fits (entries_read s) l (all_fit s (size l) accepted));
      }

module _ {s : List ℕ} {l : Lists} {o : Transcribed} {room : ℕ} (e : o ≡ read_answer s room) (is : room ≡ size l) where
  -- With a refusal, by the room that was counted, the reader leaves the lists as they were.
  pub left_as_they_were : o.number ≢ 0 → ReadTranscript s l o l
  left_as_they_were = nothing_put s l (e ∙ ap (read_answer s) is)

  -- Without a refusal, by the room that was counted, the entries of a string that is read from a fresh start are put into the lists.
  pub filled : {l' : Lists} {p : Part} → o.number ≡ 0 → l' ≡ with_each l 0 (read_on p s).got → p ≡ fresh → ReadTranscript s l o l'
  filled good put is_fresh = all_put s l (e ∙ ap (read_answer s) is) good (rw is_fresh at put)
