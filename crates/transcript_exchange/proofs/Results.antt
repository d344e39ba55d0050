-- What the two calls leave, by what was judged: an input that is not turned leaves all that was lent; the calls that fill the lists and the
-- output of one that is are made on the lists' first places, which hold the entries.
use Prim.Native.Nat.{ℕ}
use mathlib.Core.Path.{◌≡◌, refl, sym, ap, ◌∙◌, subst}
use mathlib.Core.Bool.{false}
use mathlib.Core.List.{List}
use lib.ListN.{length}
use borrow.Author.Tests.{eq-eqb}
use Rattle.std.specs.Prelude.{Result, Ok, Err}
use Rattle.transcript_spec.specs.InPlainWords.{first_places}
use Rattle.transcript_spec.specs.Lists.{Lists, size, entries_in}
use Rattle.transcript_spec.specs.Reading.{entries_read, read_answer, ReadTranscript}
use Rattle.transcript_spec.specs.Reading as read
use Rattle.transcript_spec.specs.Writing.{write_answer, bytes_after, WroteTranscript}
use Rattle.transcript_spec.specs.declared.Entry.{Entry}
use Rattle.transcript_spec.specs.declared.Transcribed.{Transcribed}
use Rattle.transcript_spec.proofs.Columns.{entries_columns}
use Rattle.transcript_spec.proofs.Promised.{reader_done}
use Rattle.transcript_lines.specs.Lines.{text_of}
use Rattle.transcript_lines.specs.Putting.{is_written, text_after, PutLines}
use Rattle.transcript_lines.specs.Taking.{taking, take_answer, TookLines}
use Rattle.transcript_lines.specs.Taking as lines
use Rattle.transcript_lines.specs.declared.NotPut.{NotPut}
use Rattle.transcript_lines.specs.declared.NotTaken.{NotTaken}
use Rattle.transcript_lines.proofs.ThereAndBack.{took_entries}
use Rattle.transcript_exchange.specs.Turning.{not_turned, by_answer, by_taken, entries_written, done_if_fits, bytes_turned, lines_turned, is_done}
use Rattle.transcript_exchange.specs.Turning.{ToBytes, ToLines}
use Rattle.transcript_exchange.specs.declared.NotTurned.{NotTurned}
use Rattle.transcript_exchange.proofs.Done.{none_refused, LinesDone, lines_are_done}

-- ---- lines to bytes
module _ (t : List ℕ) (l : Lists) (out : List ℕ) where
  left_alone : {o : Result ℕ NotTurned} → o ≡ bytes_turned t (size l) (length out) → is_done o ≡ false → ToBytes t l out o l out
  left_alone answer d = record { answer = answer; lists = rw d refl; output = rw d refl }

  -- x: what taking the lines will answer
  module _ {room : ℕ} {x : Result ℕ NotTaken} (r : room ≡ size l) (a : x ≡ take_answer t room) where
    turned_is : bytes_turned t (size l) (length out) ≡ by_taken x (entries_written (taking t).entries (length out))
    unfolding bytes_turned
    turned_is =
        ap (λ (y : Result ℕ NotTaken). by_taken y (entries_written (taking t).entries (length out))) (sym (a ∙ ap (take_answer t) r))

    -- A bad line, or more lines than have places, changes nothing that was lent.
    pub lines_not_taken : {e : NotTaken} → x ≡ Err e → ToBytes t l out (Err (not_turned e)) l out
    lines_not_taken e =
        left_alone (sym (turned_is ∙ ap (λ (y : Result ℕ NotTaken). by_taken y (entries_written (taking t).entries (length out))) e)) refl

    module _ {n : ℕ} {o : Result ℕ NotTurned} (e : x ≡ Ok n) (w : o ≡ entries_written (taking t).entries (length out)) where
      answer_is : o ≡ bytes_turned t (size l) (length out)
      answer_is = w ∙ sym (turned_is ∙ ap (λ (y : Result ℕ NotTaken). by_taken y (entries_written (taking t).entries (length out))) e)

      -- An access without a record, or a transcript that does not fit, changes nothing that was lent.
      pub accesses_refused : {f : NotTurned} → o ≡ Err f → ToBytes t l out o l out
      accesses_refused f = left_alone answer_is (ap is_done f)

      -- The lines are taken where nothing is refused.
      module _ {y : Result ℕ NotTaken} {l' : Lists} (p : TookLines t l y l') where
        took : TookLines t l (Ok n) l'
        took = subst (λ (z : Result ℕ NotTaken). TookLines t l z l') (p.answer ∙ sym (a ∙ ap (take_answer t) r) ∙ e) p

        -- Where nothing is refused, the lines are taken and the transcript of their entries is written, what is left is as the contract
        -- says.
        pub bytes_done : {m : ℕ} {out' : List ℕ} {b : Transcribed} → o ≡ Ok m → WroteTranscript (first_places n l') out b out' →
            ToBytes t l out o l' out'
        unfolding bytes_after lines.lists_after
        bytes_done {m} {out'} d q =
            let es = (taking t).entries in
            let z = (none_refused (write_answer es (length out)) (Ok (write_answer es (length out)).count) m (sym w ∙ d)).0 in
            record {
              answer = answer_is;
              lists = took.lists ∙ rw (sym took.answer, d) refl;
              output =
                  q.bytes
                  ∙ ap (λ (v : List Entry). bytes_after v out) (took_entries took).1
                  ∙ rw (eq-eqb (write_answer es (length out)).number 0 z, d) refl;
            }

-- ---- bytes to lines
module _ (s : List ℕ) (l : Lists) (out : List ℕ) {room : ℕ} {a : Transcribed} {x o : Result ℕ NotTurned}
    (r : room ≡ size l) (b : a ≡ read_answer s room) (f : x ≡ done_if_fits (length (text_of (entries_read s))) (length out))
    (w : o ≡ by_answer a x) where
  lines_answer : o ≡ lines_turned s (size l) (length out)
  unfolding lines_turned
  lines_answer =
      w ∙ ap (λ (y : Transcribed). by_answer y x) (b ∙ ap (read_answer s) r) ∙ ap (by_answer (read_answer s (size l))) f

  -- A transcript that is refused, or whose lines do not fit, changes nothing.
  pub lines_refused : {e : NotTurned} → o ≡ Err e → ToLines s l out o l out
  lines_refused e = record { answer = lines_answer; lists = rw e refl; output = rw e refl }

  -- The transcript is read where nothing is refused.
  module _ {m : ℕ} (d : o ≡ Ok m) {c : Transcribed} {l' : Lists} (p : ReadTranscript s l c l') where
    all : LinesDone s (size l) (length out) m
    all = lines_are_done (sym lines_answer ∙ d)

    same_answer : c ≡ a
    same_answer = p.answer ∙ sym (b ∙ ap (read_answer s) r)

    accepted : c.number ≡ 0
    accepted = ap (λ (y : Transcribed). y.number) p.answer ∙ all.read

    -- Where nothing is refused, the transcript is read and the lines of its entries are put, what is left is as the contract says.
    pub lines_done : {out' : List ℕ} {q : Result ℕ NotPut} → PutLines (first_places a.count l') out q out' → ToLines s l out o l' out'
    unfolding read.lists_after text_after
    lines_done {out'} {q} v =
        let es = entries_read s in
        let e : entries_in (first_places a.count l') ≡ es =
        ap (λ (y : Transcribed). entries_in (first_places y.count l')) (sym same_answer)
        ∙ ap entries_in (reader_done p accepted).entries ∙ entries_columns es in
        record {
          answer = lines_answer;
          lists = p.lists ∙ rw (eq-eqb (read_answer s (size l)).number 0 all.read, d) refl;
          output = v.text ∙ ap (λ (y : List Entry). text_after y out) e ∙ rw (ap is_written all.put, d) refl;
        }
