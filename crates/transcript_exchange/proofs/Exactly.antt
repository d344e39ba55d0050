-- Each answer of the two calls is given exactly if what it says is so (`BytesAs`, `LinesAs`): a row decides the answer, and one row or
-- another always holds, since it does for taking lines, for the writer and for the reader.
use Prim.Native.Nat.{ℕ, ◌<◌, ◌≤◌}
use native.Mathlib.Omega.{arith}
use mathlib.Core.Path.{◌≡◌, refl, sym, ap, ◌∙◌, subst}
use mathlib.Core.List.{List, [], append-nil}
use mathlib.Core.Logic.{⊎_elim, ◌↔◌}
use lib.ListN.{length}
use borrow.Author.Tests.{ne_eqb, lt-ltb, le-ltb}
use Rattle.std.specs.Prelude.{Result, Ok, Err}
use Rattle.std.proofs.lemmas.Bool.{cases_lt}
use Rattle.transcript_spec.specs.Format.{transcript_of}
use Rattle.transcript_spec.specs.InPlainWords.{Sound, Written, ReadAs}
use Rattle.transcript_spec.specs.InPlainWords as bytes
use Rattle.transcript_spec.specs.Reading.{entries_read, read_answer}
use Rattle.transcript_spec.specs.Writing.{refused, accepted, write_answer}
use Rattle.transcript_spec.specs.declared.Entry.{Entry}
use Rattle.transcript_spec.specs.declared.Transcribed.{Transcribed}
use Rattle.transcript_spec.proofs.BadNumbers.{record_number}
use Rattle.transcript_spec.proofs.ReadExactly.{reads_exactly, sound_exactly}
use Rattle.transcript_spec.proofs.WrittenExactly.{writes_exactly}
use Rattle.transcript_lines.specs.Lines.{text_of}
use Rattle.transcript_lines.specs.Taking.{Taking, taking, take_answer}
use Rattle.transcript_lines.specs.declared.NotTaken.{NotTaken}
use Rattle.transcript_lines.specs.declared.NotTaken.TheVariants as taken
use Rattle.transcript_lines.proofs.TakeAnswers.{TakeMeans, take_answers}
use Rattle.transcript_lines.proofs.TakenLines.{taken_back}
use Rattle.transcript_exchange.specs.InNumbers.{turned_numbers, case_of}
use Rattle.transcript_exchange.specs.InPlainWords.{LinesOf, BytesAs, LinesAs}
use Rattle.transcript_exchange.specs.InPlainWords as plain
use Rattle.transcript_exchange.specs.Turning.{by_answer, by_taken, entries_written, done_if_fits, bytes_turned, lines_turned}
use Rattle.transcript_exchange.specs.declared.NotTurned.{NotTurned}
use Rattle.transcript_exchange.specs.declared.NotTurned.TheVariants.{Refused, TooMany}
use Rattle.transcript_exchange.proofs.Done.{answer_done}
use Rattle.transcript_exchange.proofs.Entries.{entry_range, all_written, bad_written}

fits : (n room : ℕ) → n ≤ room → done_if_fits n room ≡ Ok n
fits n room h = rw (le-ltb room n h)

does_not_fit : (n room : ℕ) → room < n → done_if_fits n room ≡ Err TooMany
does_not_fit n room h = rw (lt-ltb room n h)

-- ---- an answer and its numbers
-- the numbers a are those of the answer x, and tell its case
pub record Told (x : Result ℕ NotTurned) (a : Transcribed) : Type 0 where
  pub numbers : turned_numbers x ≡ a
  pub case : x ≡ case_of a

tell : {x y : Result ℕ NotTurned} {a : Transcribed} → x ≡ y → Told y a → Told x a
tell e k = record { numbers = ap turned_numbers e ∙ k.numbers; case = e ∙ k.case }

told_refused : (n k : ℕ) → 2 ≤ n → n ≤ 23 → Told (Err (Refused n k)) (refused n k)
told_refused n k least most =
    let a = ne_eqb n 0 (λ z. omega (arith, z, least)) in
    let b = ne_eqb n 24 (λ z. omega (arith, z, most)) in
    let c = ne_eqb n 27 (λ z. omega (arith, z, most)) in
    record { numbers = refl; case = rw (a, b, c) refl }

told_done : (n : ℕ) → Told (Ok n) (accepted n)
told_done n = record { numbers = refl; case = refl }

told_too_many : Told (Err TooMany) (refused 24 0)
told_too_many = record { numbers = refl; case = refl }

-- ---- lines to bytes
module _ (t : List ℕ) (room out : ℕ) where
  -- by what taking the lines answers
  by_lines : (x : Result ℕ NotTaken) → TakeMeans t room x → bytes_turned t room out ≡ by_taken x (entries_written (taking t).entries out)
  unfolding bytes_turned
  by_lines x m = ap (λ (y : Result ℕ NotTaken). by_taken y (entries_written (taking t).entries out)) ((take_answers t room x).1 m)

  module _ {es : List Entry} (all : LinesOf t es) where
    lines : taking t ≡ record { entries = es; left = [] }
    lines = ap taking all.is ∙ taken_back es all.says

    by_entries : length es ≤ room → bytes_turned t room out ≡ entries_written es out
    by_entries h =
        by_lines (Ok (length es))
        (record { entries = es; is = all.is ∙ sym (append-nil (text_of es)); says = all.says; count = refl }, h)
        ∙ ap (λ (y : Taking). entries_written y.entries out) lines

    too_many_lines : room < length es → bytes_turned t room out ≡ Err TooMany
    too_many_lines h =
        by_lines (Err taken.NoPlaces)
        (length es, record { entries = es; is = all.is ∙ sym (append-nil (text_of es)); says = all.says; count = refl }, h)

  bytes_told : (a : Transcribed) → BytesAs t room out a → Told (bytes_turned t room out) a
  bytes_told _ (plain.BytesAs.bad_line {k} b) = tell (by_lines (Err (taken.BadLine k)) b) (record { numbers = refl; case = refl })
  bytes_told _ (plain.BytesAs.no_places all h) = tell (too_many_lines all h) told_too_many
  bytes_told _ (plain.BytesAs.no_record xs ys {e} {n} all h is g b) =
      let r = entry_range b in
      tell (by_entries all h ∙ ap (λ (y : List Entry). entries_written y out) is ∙ bad_written xs ys e n out g b)
      (told_refused n (length xs) r.0 (omega (arith, r.1)))
  bytes_told _ (plain.BytesAs.no_room {es} all h g k) =
      tell (by_entries all h ∙ all_written es out g ∙ does_not_fit (length (transcript_of es)) out k) told_too_many
  bytes_told _ (plain.BytesAs.done {es} all h g k) =
      tell (by_entries all h ∙ all_written es out g ∙ fits (length (transcript_of es)) out k) (told_done _)

  -- by what the writer answers
  by_writer : {es : List Entry} {b : Transcribed} → LinesOf t es → length es ≤ room → Written es out b →
      (a : Transcribed) × BytesAs t room out a
  by_writer all h (bytes.Written.done g k) = (_, plain.BytesAs.done all h g k)
  by_writer all h (bytes.Written.too_small g k) = (_, plain.BytesAs.no_room all h g k)
  by_writer all h (bytes.Written.bad_entry xs ys is g b) = (_, plain.BytesAs.no_record xs ys all h is g b)

  bytes_as : (x : Result ℕ NotTaken) → TakeMeans t room x → (a : Transcribed) × BytesAs t room out a
  bytes_as (Ok n) m =
      let es = m.0.entries in
      by_writer (record { is = m.0.is ∙ append-nil (text_of es); says = m.0.says }) (omega (arith, m.0.count, m.1))
      ((writes_exactly es out (write_answer es out)).0 refl)
  bytes_as (Err (taken.BadLine k)) m = (_, plain.BytesAs.bad_line m)
  bytes_as (Err taken.NoPlaces) m =
      let es = m.1.entries in
      let all : LinesOf t es = record { is = m.1.is ∙ append-nil (text_of es); says = m.1.says } in
      let more : room < length es = omega (arith, m.1.count, m.2) in
      (_, plain.BytesAs.no_places all more)

  some_bytes : (a : Transcribed) × BytesAs t room out a
  some_bytes = bytes_as (take_answer t room) ((take_answers t room (take_answer t room)).0 refl)

  -- What becomes of a text is a, in numbers, exactly if a's row of `BytesAs` holds.
  pub bytes_exactly : (a : Transcribed) → turned_numbers (bytes_turned t room out) ≡ a ↔ BytesAs t room out a
  bytes_exactly a = (
    λ e. subst (BytesAs t room out) (sym (bytes_told some_bytes.0 some_bytes.1).numbers ∙ e) some_bytes.1,
    λ w. (bytes_told a w).numbers,
  )

  -- The numbers of what becomes of a text tell its case.
  pub bytes_case : bytes_turned t room out ≡ case_of (turned_numbers (bytes_turned t room out))
  bytes_case = let k = bytes_told some_bytes.0 some_bytes.1 in k.case ∙ ap case_of (sym k.numbers)

-- ---- bytes to lines
module _ (s : List ℕ) (room out : ℕ) where
  by_reader : {b : Transcribed} → ReadAs s room b →
      lines_turned s room out ≡ by_answer b (done_if_fits (length (text_of (entries_read s))) out)
  unfolding lines_turned
  by_reader {b} r = ap (λ (y : Transcribed). by_answer y (done_if_fits (length (text_of (entries_read s))) out))
      ((reads_exactly s room b).1 r)

  by_records : {es : List Entry} → Sound s es → length es ≤ room → lines_turned s room out ≡ done_if_fits (length (text_of es)) out
  by_records {es} q h =
      by_reader (bytes.ReadAs.done q h)
      ∙ answer_done (accepted (length es)) _ refl
      ∙ ap (λ (y : List Entry). done_if_fits (length (text_of y)) out) ((sound_exactly s es).0 q).1

  refused_is : (n k : ℕ) (x : Result ℕ NotTurned) → 2 ≤ n → n ≤ 23 → by_answer (refused n k) x ≡ Err (Refused n k)
  unfolding by_answer
  refused_is n k x least most = rw (ne_eqb n 0 (λ z. omega (arith, z, least)), ne_eqb n 24 (λ z. omega (arith, z, most)))

  too_many_records : (x : Result ℕ NotTurned) → by_answer (refused 24 0) x ≡ Err TooMany
  unfolding by_answer
  too_many_records x = refl

  lines_told : (a : Transcribed) → LinesAs s room out a → Told (lines_turned s room out) a
  lines_told _ (plain.LinesAs.bad_record {es} {t} {u} {n} e q b) =
      let r = record_number b in
      let least : 2 ≤ n = omega (arith, r.0) in
      tell (by_reader (bytes.ReadAs.bad_record e q b) ∙ refused_is n (length t) _ least r.1) (told_refused n (length t) least r.1)
  lines_told _ (plain.LinesAs.no_places q h) = tell (by_reader (bytes.ReadAs.too_small q h) ∙ too_many_records _) told_too_many
  lines_told _ (plain.LinesAs.no_room {es} q h k) = tell (by_records q h ∙ does_not_fit (length (text_of es)) out k) told_too_many
  lines_told _ (plain.LinesAs.done {es} q h k) = tell (by_records q h ∙ fits (length (text_of es)) out k) (told_done _)

  lines_as : {b : Transcribed} → ReadAs s room b → (a : Transcribed) × LinesAs s room out a
  lines_as (bytes.ReadAs.done {es} q h) =
      ⊎_elim
      (λ k. (_, plain.LinesAs.no_room q h k))
      (λ k. (_, plain.LinesAs.done q h k))
      (cases_lt out (length (text_of es)))
  lines_as (bytes.ReadAs.too_small q h) = (_, plain.LinesAs.no_places q h)
  lines_as (bytes.ReadAs.bad_record e q b) = (_, plain.LinesAs.bad_record e q b)

  some_lines : (a : Transcribed) × LinesAs s room out a
  some_lines = lines_as ((reads_exactly s room (read_answer s room)).0 refl)

  -- What becomes of a string is a, in numbers, exactly if a's row of `LinesAs` holds.
  pub lines_exactly : (a : Transcribed) → turned_numbers (lines_turned s room out) ≡ a ↔ LinesAs s room out a
  lines_exactly a = (
    λ e. subst (LinesAs s room out) (sym (lines_told some_lines.0 some_lines.1).numbers ∙ e) some_lines.1,
    λ w. (lines_told a w).numbers,
  )

  -- The numbers of what becomes of a string tell its case.
  pub lines_case : lines_turned s room out ≡ case_of (turned_numbers (lines_turned s room out))
  lines_case = let k = lines_told some_lines.0 some_lines.1 in k.case ∙ ap case_of (sym k.numbers)
