-- What the two calls leave, by their answer: where it is not that of a call that is done, what they were lent stays.
use Prim.Native.Nat.{ℕ, ◌≤◌}
use native.Mathlib.Omega.{arith}
use mathlib.Core.Path.{◌≡◌, refl, sym, ap, ◌∙◌}
use mathlib.Core.Bool.{false}
use mathlib.Core.List.{List}
use lib.ListN.{length}
use Rattle.std.specs.Prelude.{Result, Ok, Err}
use Rattle.transcript_spec.specs.Lists.{Lists, size, entries_in, over, with_entries}
use Rattle.transcript_lines.specs.Lines.{text_of, AllHaveLines}
use Rattle.transcript_lines.specs.Taking.{Taking, taking, take_answer, is_taken, lists_after, TookLines}
use Rattle.transcript_lines.specs.Putting.{first_unsayable, written_if_fits, put_answer, is_written, text_after, PutLines}
use Rattle.transcript_lines.specs.declared.NotTaken.{NotTaken}
use Rattle.transcript_lines.specs.declared.NotTaken.TheVariants.{BadLine, NoPlaces}
use Rattle.transcript_lines.specs.declared.NotPut.{NotPut}
use Rattle.transcript_lines.specs.declared.NotPut.TheVariants.{Unsayable, NoBytes}
use Rattle.transcript_lines.proofs.TakenLines.{nothing_there}
use Rattle.transcript_lines.proofs.TakeAnswers.{then_taken, take_answers}
use Rattle.transcript_lines.proofs.PutAnswers.{put_answers}

-- ---- lines are taken

not_taken : (e : NotTaken) → is_taken (Err e) ≡ false
not_taken (BadLine n) = refl
not_taken NoPlaces = refl

module _ (t : List ℕ) (l : Lists) {room : ℕ} {o : Result ℕ NotTaken} (r : room ≡ size l) (a : o ≡ take_answer t room) where
  take_is : o ≡ take_answer t (size l)
  take_is = a ∙ ap (take_answer t) r

  -- With a bad line, or too few places, `take_lines` leaves the lists as they were.
  pub refused_take : {e : NotTaken} → o ≡ Err e → TookLines t l o l
  unfolding lists_after
  refused_take {e} is = record { answer = take_is; lists = rw (sym take_is, is, not_taken e) refl }

  module _ {n : ℕ} (e : o ≡ Ok n) where
    -- Where `take_lines` is done, the entries of the lines have places.
    pub taken_room : length (taking t).entries ≤ size l
    taken_room =
        let m = (take_answers t (size l) (Ok n)).0 (sym take_is ∙ e) in
        let all = ap (λ (x : Taking). length x.entries) (then_taken m.0 nothing_there) in
        omega (arith, all, m.0.count, m.1)

    -- Where `take_lines` is done and the entries of the lines take the lists' first places, what it leaves is as its contract says.
    pub done_take : {l' : Lists} → l' ≡ with_entries (taking t).entries l → TookLines t l o l'
    unfolding lists_after
    done_take p = record { answer = take_is; lists = rw (sym take_is, ap is_taken e) p }

-- ---- lines are put

not_written : (e : NotPut) → is_written (Err e) ≡ false
not_written (Unsayable k) = refl
not_written NoBytes = refl

module _ (l : Lists) (out : List ℕ) {done o : Result ℕ NotPut} (f : done ≡ written_if_fits (length (text_of (entries_in l))) (length out))
    (a : o ≡ first_unsayable 0 (entries_in l) done) where
  put_is : o ≡ put_answer (entries_in l) (length out)
  unfolding put_answer
  put_is = a ∙ ap (first_unsayable 0 (entries_in l)) f

  -- Where no line can say an entry, or the lines do not fit, `put_lines` leaves the bytes as they were.
  pub refused_put : {e : NotPut} → o ≡ Err e → PutLines l out o out
  unfolding text_after
  refused_put {e} is = record { answer = put_is; text = rw (sym put_is, is, not_written e) refl }

  module _ {n : ℕ} (e : o ≡ Ok n) where
    -- Where `put_lines` is done, a line can say each entry, and the lines have room.
    pub written_room : AllHaveLines (entries_in l) × (length (text_of (entries_in l)) ≤ length out)
    written_room =
        let m = (put_answers (entries_in l) (length out) (Ok n)).0 (sym put_is ∙ e) in
        (m.0, omega (arith, m.1, m.2))

    -- Where `put_lines` is done and the lines take the first bytes, what it leaves is as its contract says.
    pub done_put : {out' : List ℕ} → out' ≡ over (text_of (entries_in l)) out → PutLines l out o out'
    unfolding text_after
    done_put p = record { answer = put_is; text = rw (sym put_is, ap is_written e) p }
