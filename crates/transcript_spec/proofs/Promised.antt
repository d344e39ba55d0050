-- What the contracts of writer and reader promise, said of any outcome that they allow: each answer when and only then, what a refusal
-- leaves, what an accepted call leaves, and the round trips between the two calls.
use Prim.Native.Nat.{ℕ, ◌≤◌}
use native.Mathlib.Omega.{arith}
use mathlib.Core.Path.{◌≡◌, refl, sym, ap, ◌∙◌, subst}
use mathlib.Core.Bool.{Bool, cond}
use mathlib.Core.List.{List}
use mathlib.Core.Logic.{◌↔◌, ◌≢◌}
use lib.ListN.{length, take, drop}
use lib.Seq.{take-append_seam, drop-append_seam}
use borrow.Author.Tests.{eq-eqb, ne_eqb}
use Rattle.words.specs.Bytes.{AreBytes}
use Rattle.transcript_spec.specs.Format.{transcript_of}
use Rattle.transcript_spec.specs.InPlainWords.{Sound, Written, ReadAs, first_places, later_places, WroteAll, ReadAll}
use Rattle.transcript_spec.specs.InPlainWords as plain
use Rattle.transcript_spec.specs.Lists.{Lists, size, entries_in, over, columns, with_entries}
use Rattle.transcript_spec.specs.Reading.{entries_read, read_answer, lists_after, ReadTranscript}
use Rattle.transcript_spec.specs.Writing.{accepted, write_answer, bytes_after, WroteTranscript}
use Rattle.transcript_spec.specs.declared.Entry.{Entry}
use Rattle.transcript_spec.specs.declared.Transcribed.{Transcribed}
use Rattle.transcript_spec.proofs.Columns.{length_entries, entries_columns, first_are_columns, columns_first, later_stay}
use Rattle.transcript_spec.proofs.OneEncoding.{transcript_sound, sound_is, one_encoding}
use Rattle.transcript_spec.proofs.ReadExactly.{reads_exactly, sound_exactly}
use Rattle.transcript_spec.proofs.WrittenExactly.{bad_number, writes_exactly}
use Rattle.transcript_spec.proofs.ThroughRecords.{bad_record_number}

-- ---- the writer
module _ {l : Lists} {out out' : List ℕ} {o : Transcribed} (p : WroteTranscript l out o out') where
  abbrev entries : List Entry
  entries = entries_in l

  -- The writer's answer has a row of `Written` that holds of the entries.
  pub writer_answers : Written entries (length out) o
  writer_answers = (writes_exactly entries (length out) o).0 (sym p.answer)

  -- The writer's answer is a exactly if a's row of `Written` holds: all entries are good and fit, all are good and do not fit (24), or an
  -- entry is the first bad one, with its number and its index.
  pub writer_exactly : (a : Transcribed) → o ≡ a ↔ Written entries (length out) a
  writer_exactly a =
      (λ e. subst (Written entries (length out)) e writer_answers, λ w. p.answer ∙ (writes_exactly entries (length out) a).1 w)

  -- A refused writer leaves every byte, and counts none.
  pub writer_refused : o.number ≢ 0 → (out' ≡ out) × (o.count ≡ 0)
  unfolding bytes_after
  writer_refused d = (
    p.bytes
        ∙ ap (λ (t : Bool). cond t (over (transcript_of entries) out) out)
        (ne_eqb (write_answer entries (length out)).number 0 (λ z. d (ap (λ (a : Transcribed). a.number) p.answer ∙ z))),
    counts writer_answers d,
  )
    where
      counts : {a : Transcribed} → Written entries (length out) a → a.number ≢ 0 → a.count ≡ 0
      counts (plain.Written.done g h) d = absurd (d refl)
      counts (plain.Written.too_small g h) d = refl
      counts (plain.Written.bad_entry xs ys q g b) d = refl

  -- Where the writer answers 0, all entries are good; it counts the bytes of their transcript, which fit, and leaves it in the first bytes,
  -- and the later ones as they were.
  pub writer_done : o.number ≡ 0 → WroteAll l out o out'
  unfolding bytes_after
  writer_done z = finish writer_answers z
    where
      left : out' ≡ over (transcript_of entries) out
      left =
          p.bytes
          ∙ ap (λ (t : Bool). cond t (over (transcript_of entries) out) out)
          (eq-eqb (write_answer entries (length out)).number 0 (sym (ap (λ (a : Transcribed). a.number) p.answer) ∙ z))

      finish : {a : Transcribed} → Written entries (length out) a → a.number ≡ 0 → WroteAll l out a out'
      finish (plain.Written.done g h) e =
          record {
            good = g;
            count = refl;
            place = refl;
            fits = h;
            bytes = ap (take (length (transcript_of entries))) left ∙ take-append_seam (transcript_of entries) _;
            rest = ap (drop (length (transcript_of entries))) left ∙ drop-append_seam (transcript_of entries) _;
          }
      finish (plain.Written.too_small g h) e = absurd (omega arith)
      finish (plain.Written.bad_entry xs ys {e} {n} q g b) z = absurd (bad_number e n b z)

-- ---- the reader
module _ {s : List ℕ} {l l' : Lists} {o : Transcribed} (p : ReadTranscript s l o l') where
  -- The reader's answer has a row of `ReadAs` that holds of the string.
  pub reader_answers : ReadAs s (size l) o
  reader_answers = (reads_exactly s (size l) o).0 (sym p.answer)

  -- The reader's answer is a exactly if a's row of `ReadAs` holds: the string is good records, with room for their entries or without it
  -- (24), or good records and then a bad one, with its refusal and its first byte.
  pub reader_exactly : (a : Transcribed) → o ≡ a ↔ ReadAs s (size l) a
  reader_exactly a = (λ e. subst (ReadAs s (size l)) e reader_answers, λ w. p.answer ∙ (reads_exactly s (size l) a).1 w)

  -- A refused reader leaves every place of the four lists, and counts none.
  pub reader_refused : o.number ≢ 0 → (l' ≡ l) × (o.count ≡ 0)
  unfolding lists_after
  reader_refused d = (
    p.lists
        ∙ ap (λ (t : Bool). cond t (with_entries (entries_read s) l) l)
        (ne_eqb (read_answer s (size l)).number 0 (λ z. d (ap (λ (a : Transcribed). a.number) p.answer ∙ z))),
    counts reader_answers d,
  )
    where
      counts : {a : Transcribed} → ReadAs s (size l) a → a.number ≢ 0 → a.count ≡ 0
      counts (plain.ReadAs.done q h) d = absurd (d refl)
      counts (plain.ReadAs.too_small q h) d = refl
      counts (plain.ReadAs.bad_record e q b) d = refl

  -- Where the reader answers 0, the string is good records; it counts their entries, which fit, and leaves these in the lists' first
  -- places, and the later ones as they were.
  pub reader_done : o.number ≡ 0 → ReadAll s l o l'
  unfolding lists_after
  reader_done z = finish reader_answers z
    where
      left : l' ≡ with_entries (entries_read s) l
      left =
          p.lists
          ∙ ap (λ (t : Bool). cond t (with_entries (entries_read s) l) l)
          (eq-eqb (read_answer s (size l)).number 0 (sym (ap (λ (a : Transcribed). a.number) p.answer) ∙ z))

      all : (es : List Entry) → entries_read s ≡ es → Sound s es → length es ≤ size l → ReadAll s l (accepted (length es)) l'
      all es e q h =
          let n : length es ≡ length (entries_read s) = ap length (sym e) in
          record {
            sound = subst (Sound s) (sym e) q;
            count = n;
            place = refl;
            fits = h;
            entries =
                ap (λ (k : ℕ). first_places k l') n ∙ ap (first_places (length (entries_read s))) left
                ∙ first_are_columns (entries_read s) l;
            rest =
                ap (λ (k : ℕ). later_places k l') n ∙ ap (later_places (length (entries_read s))) left
                ∙ later_stay (entries_read s) l ∙ ap (λ (k : ℕ). later_places k l) (sym n);
          }

      finish : {a : Transcribed} → ReadAs s (size l) a → a.number ≡ 0 → ReadAll s l a l'
      finish (plain.ReadAs.done {es} q h) e = all es ((sound_exactly s es).0 q).1 q h
      finish (plain.ReadAs.too_small q h) e = absurd (omega arith)
      finish (plain.ReadAs.bad_record {es} {t} {u} {n} f q b) e = absurd (bad_record_number u n b e)

-- ---- one after the other
-- Reading what was written returns the list, with no refusal, into any lists that have as many places.
pub returned : {l k k' : Lists} {out out' : List ℕ} {o a : Transcribed} → WroteTranscript l out o out' → o.number ≡ 0 →
    ReadTranscript (take o.count out') k a k' → size l ≤ size k →
    (a.number ≡ 0) × (a.count ≡ size l) × (first_places (size l) k' ≡ first_places (size l) l)
returned {l} {k} {k'} {out} {out'} {o} {a} p z q room =
    let w = writer_done p z in
    let es = entries_in l in
    let n : length es ≡ size l = length_entries l 0 (size l) in
    let sound : Sound (take o.count out') es = subst (λ (s : List ℕ). Sound s es) (sym w.bytes) (transcript_sound es w.good) in
    let answer : a ≡ accepted (length es) =
    q.answer ∙ (reads_exactly (take o.count out') (size k) (accepted (length es))).1 (plain.ReadAs.done sound (omega arith)) in
    let r = reader_done q (ap (λ (x : Transcribed). x.number) answer) in
    let count : a.count ≡ size l = ap (λ (x : Transcribed). x.count) answer ∙ n in (
      ap (λ (x : Transcribed). x.number) answer,
      count,
      ap (λ (j : ℕ). first_places j k') (sym count)
          ∙ r.entries
          ∙ ap columns ((sound_exactly (take o.count out') es).0 sound).1
          ∙ columns_first l,
    )

-- Writing what was read without a refusal returns the bytes, into any that are as many.
pub given_back : {s out out' : List ℕ} {l l' : Lists} {o a : Transcribed} → AreBytes s → ReadTranscript s l o l' → o.number ≡ 0 →
    WroteTranscript (first_places o.count l') out a out' → length s ≤ length out →
    (a.number ≡ 0) × (a.count ≡ length s) × (take (length s) out' ≡ s)
given_back {s} {out} {out'} {l} {l'} {o} {a} b p z q room =
    let r = reader_done p z in
    let es = entries_read s in
    let e : entries_in (first_places o.count l') ≡ es = ap entries_in r.entries ∙ entries_columns es in
    let i = sound_is s es b r.sound in
    let answer : a ≡ accepted (length (transcript_of es)) =
    q.answer
    ∙ ap (λ (x : List Entry). write_answer x (length out)) e
    ∙ (writes_exactly es (length out) (accepted (length (transcript_of es)))).1
    (plain.Written.done i.0 (subst (λ (t : List ℕ). length t ≤ length out) i.1 room)) in
    let w = writer_done q (ap (λ (x : Transcribed). x.number) answer) in
    let count : a.count ≡ length s = ap (λ (x : Transcribed). x.count) answer ∙ ap length (sym i.1) in (
      ap (λ (x : Transcribed). x.number) answer,
      count,
      ap (λ (j : ℕ). take j out') (sym count) ∙ w.bytes ∙ ap transcript_of e ∙ sym i.1,
    )

-- One list has one encoding: two strings that are read without a refusal into the same list are the same.
pub one_list_one_string : {s t : List ℕ} {l l' k k' : Lists} {o a : Transcribed} → AreBytes s → AreBytes t →
    ReadTranscript s l o l' → o.number ≡ 0 → ReadTranscript t k a k' → a.number ≡ 0 →
    first_places o.count l' ≡ first_places a.count k' → s ≡ t
one_list_one_string {s} {t} b c p y q z e =
    let x = reader_done p y in
    let w = reader_done q z in
    let same : entries_read s ≡ entries_read t =
    sym (entries_columns (entries_read s)) ∙ ap entries_in (sym x.entries ∙ e ∙ w.entries) ∙ entries_columns (entries_read t) in
    one_encoding s t (entries_read t) b c (subst (Sound s) same x.sound) w.sound
