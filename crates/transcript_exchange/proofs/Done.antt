-- What is known of an input that is turned: how it was turned.
use Prim.Native.Nat.{ℕ, ◌≤◌}
use native.Mathlib.Omega.{arith}
use mathlib.Core.Path.{◌≡◌, refl, sym, ap, ◌∙◌, subst}
use mathlib.Core.Bool.{Bool, true, false, cond}
use mathlib.Core.List.{List}
use mathlib.Core.Logic.{⊎_elim, ◌≢◌}
use lib.Dec.{eqb}
use lib.ListN.{length}
use borrow.Author.Tests.{eq-eqb, ne_eqb, lt-ltb, le-ltb}
use Rattle.std.specs.Prelude.{Result, Ok, Err}
use Rattle.std.proofs.lemmas.Bool.{cases_eq, cases_lt}
use Rattle.transcript_spec.specs.Format.{transcript_of}
use Rattle.transcript_spec.specs.InPlainWords.{AllGood, Sound, Written, ReadAs}
use Rattle.transcript_spec.specs.InPlainWords as plain
use Rattle.transcript_spec.specs.Reading.{entries_read, read_answer}
use Rattle.transcript_spec.specs.Writing.{write_answer}
use Rattle.transcript_spec.specs.declared.Entry.{Entry}
use Rattle.transcript_spec.specs.declared.Transcribed.{Transcribed}
use Rattle.transcript_spec.proofs.OneEncoding.{good_entries}
use Rattle.transcript_spec.proofs.ReadExactly.{reads_exactly, sound_exactly}
use Rattle.transcript_spec.proofs.ThroughRecords.{bad_record_number}
use Rattle.transcript_spec.proofs.WrittenExactly.{bad_number, writes_exactly}
use Rattle.transcript_lines.specs.Lines.{text_of}
use Rattle.transcript_lines.specs.Putting.{put_answer}
use Rattle.transcript_lines.specs.Taking.{taking, take_answer}
use Rattle.transcript_lines.specs.declared.NotTaken.{NotTaken}
use Rattle.transcript_lines.proofs.GoodEntries.{all_sayable}
use Rattle.transcript_lines.proofs.PutAnswers.{put_answers}
use Rattle.transcript_exchange.specs.Turning.{by_answer, by_taken, entries_written, done_if_fits, bytes_turned, lines_turned, is_done}
use Rattle.transcript_exchange.specs.declared.NotTurned.{NotTurned}
use Rattle.transcript_exchange.specs.declared.NotTurned.TheVariants.{Refused, TooMany}

-- ---- what an answer means

-- An answer with number 0 means what is done where nothing is refused.
pub answer_done : (o : Transcribed) (x : Result ℕ NotTurned) → o.number ≡ 0 → by_answer o x ≡ x
unfolding by_answer
answer_done o x z = rw (eq-eqb o.number 0 z)

refused_not_done : (o : Transcribed) (x : Result ℕ NotTurned) → o.number ≢ 0 → is_done (by_answer o x) ≡ false
unfolding by_answer
refused_not_done o x d =
    rw (ne_eqb o.number 0 d) (either (eqb o.number 24))
  where
    either : (t : Bool) → is_done (cond t (Err TooMany) (Err (Refused o.number o.place))) ≡ false
    either true = refl
    either false = refl

-- An answer that means that an input is turned refuses nothing.
pub none_refused : (o : Transcribed) (x : Result ℕ NotTurned) (k : ℕ) → by_answer o x ≡ Ok k → (o.number ≡ 0) × (x ≡ Ok k)
none_refused o x k e =
    ⊎_elim
    (λ z. (z, sym (answer_done o x z) ∙ e))
    (λ d.
    let never : true ≡ false = sym (ap is_done e) ∙ refused_not_done o x d in
    let no : ◌≡◌ {A = ℕ} 0 1 = cc in
    absurd (omega arith))
    (cases_eq o.number 0)

-- ---- lines to bytes

-- what is known of a text that is turned into k bytes: its lines are taken, its entries good, and their transcript fits
pub record BytesDone (t : List ℕ) (room out k : ℕ) : Type 0 where
  pub lines : ℕ
  pub taken : take_answer t room ≡ Ok lines
  pub good : AllGood (taking t).entries
  pub count : k ≡ length (transcript_of (taking t).entries)
  pub fits : k ≤ out

accepted_all : (es : List Entry) (out : ℕ) {a : Transcribed} → Written es out a → a.number ≡ 0 →
    AllGood es × (a.count ≡ length (transcript_of es)) × (a.count ≤ out)
accepted_all es out (plain.Written.done g h) z = (g, refl, h)
accepted_all es out (plain.Written.too_small g h) z = absurd (omega arith)
accepted_all es out (plain.Written.bad_entry xs ys {e} {n} q g b) z = absurd (bad_number e n b z)

of_taken : (x : Result ℕ NotTaken) (w : Result ℕ NotTurned) (k : ℕ) → by_taken x w ≡ Ok k → ((n : ℕ) × (x ≡ Ok n)) × (w ≡ Ok k)
of_taken (Ok n) w k e = ((n, refl), e)
of_taken (Err x) w k e = let no : ◌≡◌ {A = ℕ} 0 1 = cc in absurd (omega arith)

-- Of a text that is turned, the lines are taken, the entries are good, and their transcript has so many bytes and fits.
pub bytes_are_done : {t : List ℕ} {room out k : ℕ} → bytes_turned t room out ≡ Ok k → BytesDone t room out k
unfolding bytes_turned
bytes_are_done {t} {room} {out} {k} e =
    let es = (taking t).entries in
    let a = write_answer es out in
    let x = of_taken (take_answer t room) (entries_written es out) k e in
    let y = none_refused a (Ok a.count) k x.1 in
    let z = accepted_all es out ((writes_exactly es out a).0 refl) y.0 in
    let c : a.count ≡ k = cc in
    record { lines = x.0.0; taken = x.0.1; good = z.0; count = sym c ∙ z.1; fits = omega arith }

-- ---- bytes to lines

-- what is known of a string that is turned into k bytes of lines: it is good records with places, and their lines fit
pub record LinesDone (s : List ℕ) (room out k : ℕ) : Type 0 where
  pub read : (read_answer s room).number ≡ 0
  pub sound : Sound s (entries_read s)
  pub places : length (entries_read s) ≤ room
  pub count : k ≡ length (text_of (entries_read s))
  pub fits : k ≤ out
  pub put : put_answer (entries_read s) out ≡ Ok k

-- what is accepted is good records, and there are places for their entries
read_all : (s : List ℕ) (room : ℕ) {a : Transcribed} → ReadAs s room a → a.number ≡ 0 →
    Sound s (entries_read s) × (length (entries_read s) ≤ room)
read_all s room (plain.ReadAs.done {es} q h) z =
    let e = ((sound_exactly s es).0 q).1 in
    (subst (Sound s) (sym e) q, omega (arith, ap length e))
read_all s room (plain.ReadAs.too_small q h) z = absurd (omega arith)
read_all s room (plain.ReadAs.bad_record {es} {t} {u} {n} e q b) z = absurd (bad_record_number u n b z)

-- Where what has n bytes is found to fit a room, and k are counted, n is k, and no more than the room.
pub fitted : (n room k : ℕ) → done_if_fits n room ≡ Ok k → (n ≡ k) × (n ≤ room)
fitted n room k e =
    ⊎_elim
    (λ h. let over : (Err TooMany) ≡ Ok k = rw (lt-ltb room n h) at e in let no : ◌≡◌ {A = ℕ} 0 1 = cc in absurd (omega arith))
    (λ h. (same (rw (le-ltb room n h) at e), h))
    (cases_lt room n)
  where
    same : ◌≡◌ {A = Result ℕ NotTurned} (Ok n) (Ok k) → n ≡ k
    same q = cc

-- A string that is turned is good records with places for their entries, whose lines have so many bytes and fit, and are written.
pub lines_are_done : {s : List ℕ} {room out k : ℕ} → lines_turned s room out ≡ Ok k → LinesDone s room out k
unfolding lines_turned
lines_are_done {s} {room} {out} {k} e =
    let es = entries_read s in
    let x = none_refused (read_answer s room) (done_if_fits (length (text_of es)) out) k e in
    let f = fitted (length (text_of es)) out k x.1 in
    let a = read_all s room ((reads_exactly s room (read_answer s room)).0 refl) x.0 in
    record {
      read = x.0;
      sound = a.0;
      places = a.1;
      count = sym f.0;
      fits = omega (arith, f.0, f.1);
      put =
          (put_answers es out (Ok k)).1
          (all_sayable es (good_entries a.0), sym f.0, omega (arith, f.0, f.1));
    }
