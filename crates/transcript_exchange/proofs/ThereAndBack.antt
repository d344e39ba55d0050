-- There and back: lines that were turned into a transcript come back from it as they were, and so does a transcript from its lines.
use Prim.Native.Nat.{ℕ, ◌≤◌}
use native.Mathlib.Omega.{arith}
use mathlib.Core.Path.{◌≡◌, refl, sym, ap, ◌∙◌, subst}
use mathlib.Core.List.{List, [], append-nil}
use lib.ListN.{length, take, drop}
use lib.Seq.{take_at}
use borrow.Author.Tests.{le-ltb}
use Rattle.std.specs.Prelude.{Result, Ok}
use Rattle.words.specs.Bytes.{AreBytes}
use Rattle.transcript_spec.specs.Format.{transcript_of}
use Rattle.transcript_spec.specs.InPlainWords.{Sound}
use Rattle.transcript_spec.specs.InPlainWords as plain
use Rattle.transcript_spec.specs.Lists.{Lists, size}
use Rattle.transcript_spec.specs.Reading.{entries_read}
use Rattle.transcript_spec.specs.Writing.{accepted}
use Rattle.transcript_spec.specs.declared.Transcribed.{Transcribed}
use Rattle.transcript_spec.proofs.OneEncoding.{transcript_sound, sound_is}
use Rattle.transcript_spec.proofs.ReadExactly.{reads_exactly, sound_exactly}
use Rattle.transcript_spec.proofs.WrittenExactly.{writes_exactly}
use Rattle.transcript_lines.specs.Lines.{text_of}
use Rattle.transcript_lines.specs.Taking.{Taking, taking, take_answer}
use Rattle.transcript_lines.specs.declared.NotTaken.{NotTaken}
use Rattle.transcript_lines.proofs.GoodEntries.{all_sayable}
use Rattle.transcript_lines.proofs.TakeAnswers.{take_answers, then_taken}
use Rattle.transcript_lines.proofs.TakenLines.{taken_back, nothing_there}
use Rattle.transcript_exchange.specs.Turning.{by_answer, by_taken, entries_written, done_if_fits, bytes_turned, lines_turned}
use Rattle.transcript_exchange.specs.Turning.{output_left, ToBytes, ToLines}
use Rattle.transcript_exchange.specs.declared.NotTurned.{NotTurned}
use Rattle.transcript_exchange.proofs.Done.{bytes_are_done, lines_are_done}

-- the output's first bytes, where it is done
first_bytes : (n : ℕ) (o : Result ℕ NotTurned) (text out : List ℕ) {out' : List ℕ} → out' ≡ output_left o text out → o ≡ Ok n →
    length text ≡ n → take n out' ≡ text
first_bytes n o text out e d c =
    ap (take n) (e ∙ ap (λ (x : Result ℕ NotTurned). output_left x text out) d) ∙ take_at text (drop (length text) out) n c

-- ---- lines, a transcript, lines
module _ {t out out' : List ℕ} {l l' : Lists} {n : ℕ} (p : ToBytes t l out (Ok n) l' out') where
  -- Lines that were turned into a transcript come back from it, exactly, with as many places and room for them.
  pub lines_come_back : {k k' : Lists} {text text' : List ℕ} {o : Result ℕ NotTurned} → ToLines (take n out') k text o k' text' →
      size l ≤ size k → length t ≤ length text → (o ≡ Ok (length t)) × (take (length t) text' ≡ t)
  unfolding lines_turned by_answer
  lines_come_back {k} {text = text} {o = o} q places room =
      let done = bytes_are_done (sym p.answer) in
      let es = (taking t).entries in
      let m = (take_answers t (size l) (Ok done.lines)).0 done.taken in
      let same : es ≡ m.0.entries = ap (λ (x : Taking). x.entries) (then_taken m.0 nothing_there) in
      let lines : text_of es ≡ t = ap text_of same ∙ sym (m.0.is ∙ append-nil (text_of m.0.entries)) in
      let bytes : take n out' ≡ transcript_of es = first_bytes n (Ok n) (transcript_of es) out p.output refl (sym done.count) in
      let sound : Sound (take n out') es = subst (λ (s : List ℕ). Sound s es) (sym bytes) (transcript_sound es done.good) in
      let read : entries_read (take n out') ≡ es = ((sound_exactly (take n out') es).0 sound).1 in
      let text_is : text_of (entries_read (take n out')) ≡ t = ap text_of read ∙ lines in
      let few : length es ≤ size k = omega (arith, ap length same, m.0.count, m.1) in
      let accept = (reads_exactly (take n out') (size k) (accepted (length es))).1 (plain.ReadAs.done sound few) in
      let answer : o ≡ Ok (length t) =
      q.answer
      ∙ ap (λ (a : Transcribed). by_answer a (done_if_fits (length (text_of (entries_read (take n out')))) (length text))) accept
      ∙ ap (λ (u : List ℕ). done_if_fits (length u) (length text)) text_is
      ∙ rw (le-ltb (length text) (length t) room) refl in
      (answer, first_bytes (length t) o (text_of (entries_read (take n out'))) text q.output answer (ap length text_is) ∙ text_is)

-- ---- a transcript, lines, a transcript
module _ {s out out' : List ℕ} {l l' : Lists} {n : ℕ} (b : AreBytes s) (p : ToLines s l out (Ok n) l' out') where
  -- A transcript that was turned into lines comes back from them, exactly, with as many places and room for it.
  pub bytes_come_back : {k k' : Lists} {bytes bytes' : List ℕ} {o : Result ℕ NotTurned} → ToBytes (take n out') k bytes o k' bytes' →
      size l ≤ size k → length s ≤ length bytes → (o ≡ Ok (length s)) × (take (length s) bytes' ≡ s)
  unfolding bytes_turned by_answer
  bytes_come_back {k} {bytes = bytes} {o = o} q places room =
      let done = lines_are_done (sym p.answer) in
      let es = entries_read s in
      let whole = sound_is s es b done.sound in
      let says = all_sayable es whole.0 in
      let text : take n out' ≡ text_of es = first_bytes n (Ok n) (text_of es) out p.output refl (sym done.count) in
      let all : taking (take n out') ≡ record { entries = es; left = [] } = ap taking text ∙ taken_back es says in
      let lines = (take_answers (take n out') (size k) (Ok (length es))).1
      (record { entries = es; is = text ∙ sym (append-nil (text_of es)); says = says; count = refl }, omega (arith, done.places)) in
      let room_there : length (transcript_of es) ≤ length bytes = omega (arith, ap length whole.1) in
      let accept = (writes_exactly es (length bytes) (accepted (length (transcript_of es)))).1 (plain.Written.done whole.0 room_there) in
      let answer : o ≡ Ok (length s) =
      q.answer
      ∙ ap (λ (x : Taking). by_taken (take_answer (take n out') (size k)) (entries_written x.entries (length bytes))) all
      ∙ ap (λ (x : Result ℕ NotTaken). by_taken x (entries_written es (length bytes))) lines
      ∙ ap (λ (a : Transcribed). by_answer a (Ok a.count)) accept
      ∙ ap (λ (x : List ℕ). Ok (length x)) (sym whole.1) in
      let bytes_are : transcript_of (taking (take n out')).entries ≡ s =
      ap (λ (x : Taking). transcript_of x.entries) all ∙ sym whole.1 in (
        answer,
        first_bytes (length s) o (transcript_of (taking (take n out')).entries) bytes q.output answer (ap length bytes_are) ∙ bytes_are,
      )
