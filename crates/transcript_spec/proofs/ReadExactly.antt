-- Demand 1 for the reader: its answer is o exactly if the string, in plain words and record by record, says so (`ReadAs`). A row of that
-- table decides the answer; and one row or another always holds, since every string divides.
use Prim.Native.Nat.{ℕ}
use native.Mathlib.Nat.{zero-add}
use mathlib.Core.Path.{◌≡◌, sym, ap, ◌∙◌, subst}
use mathlib.Core.Bool.{Bool, cond}
use mathlib.Core.List.{List, [], ◌++◌, append-nil}
use mathlib.Core.Logic.{⊎_elim, ◌↔◌}
use lib.Dec.{eqb}
use lib.ListN.{length}
use borrow.Author.Tests.{lt-ltb, le-ltb, ne_eqb}
use Rattle.std.proofs.lemmas.Bool.{cases_lt}
use Rattle.transcript_spec.specs.InPlainWords.{Sound, BadRecord, ReadAs}
use Rattle.transcript_spec.specs.InPlainWords as plain
use Rattle.transcript_spec.specs.Reading.{Reading, start, feeds, ended, entries_read, place_read, refusal_read, read_answer}
use Rattle.transcript_spec.specs.Writing.{refused, accepted, accepted_if_fits}
use Rattle.transcript_spec.specs.declared.Entry.{Entry}
use Rattle.transcript_spec.specs.declared.Transcribed.{Transcribed}
use Rattle.transcript_spec.proofs.ThroughRecords.{between, adds_entries, Stopped, stops_at}
use Rattle.transcript_spec.proofs.Divided.{Divided, all_good, then_bad, divided}

-- ---- what is read of a sound string, and of one with a bad record
-- A string of good records is read to its end, as their entries.
pub reads_sound : (s : List ℕ) (es : List Entry) → Sound s es → feeds start s ≡ between es (length s)
unfolding feeds
reads_sound s es q =
    ap (feeds start) (sym (append-nil s)) ∙ adds_entries [] 0 s [] es q ∙ ap (between es) (zero-add (length s))

-- A bad record behind good ones stops the reader: its refusal, the place where it begins, and the entries of the good ones before it.
pub reads_bad : (s t u : List ℕ) (es : List Entry) (n : ℕ) → s ≡ t ++ u → Sound t es → BadRecord u n →
    Stopped es (length t) n (feeds start s)
reads_bad s t u es n e q b =
    subst (Stopped es (length t) n)
    (sym (ap (feeds start) e ∙ adds_entries [] 0 t u es q ∙ ap (λ (i : ℕ). feeds (between es i) u) (zero-add (length t))))
    (stops_at es (length t) u n b)

-- ---- the answer
module _ (s : List ℕ) (room : ℕ) where
  answers_sound : (es : List Entry) → Sound s es → read_answer s room ≡ accepted_if_fits (length es) room
  unfolding read_answer
  answers_sound es q =
      ap (λ (a : Reading). cond (eqb (ended a) 0) (accepted_if_fits (length a.got) room) (refused (ended a) a.from))
      (reads_sound s es q)

  says : (o : Transcribed) → ReadAs s room o → read_answer s room ≡ o
  unfolding read_answer
  says _ (plain.ReadAs.done {es} q h) =
      answers_sound es q ∙ ap (λ (t : Bool). cond t (refused 24 0) (accepted (length es))) (le-ltb room (length es) h)
  says _ (plain.ReadAs.too_small {es} q h) =
      answers_sound es q ∙ ap (λ (t : Bool). cond t (refused 24 0) (accepted (length es))) (lt-ltb room (length es) h)
  says _ (plain.ReadAs.bad_record {es} {t} {u} {n} e q b) =
      let x = reads_bad s t u es n e q b in
      ap (λ (k : ℕ). cond (eqb k 0) (accepted_if_fits (length (entries_read s)) room) (refused k (place_read s))) x.refusal
      ∙ ap (λ (z : Bool). cond z (accepted_if_fits (length (entries_read s)) room) (refused n (place_read s))) (ne_eqb n 0 x.refuses)
      ∙ ap (refused n) x.place

  -- ---- one row or another always holds
  some : Divided s → (o : Transcribed) × ReadAs s room o
  some (all_good es q) =
      ⊎_elim (λ h. (refused 24 0, plain.ReadAs.too_small q h)) (λ h. (accepted (length es), plain.ReadAs.done q h))
      (cases_lt room (length es))
  some (then_bad es t u n e q b) = (refused n (length t), plain.ReadAs.bad_record e q b)

  -- The reader's answer is o exactly if o's row of `ReadAs` holds: the string is good records, with room for their entries or without it
  -- (24), or good records and then a bad one, with its refusal and its first byte.
  pub reads_exactly : (o : Transcribed) → read_answer s room ≡ o ↔ ReadAs s room o
  reads_exactly o =
      let x = some (divided s) in
      (λ e. subst (ReadAs s room) (sym (says x.0 x.1) ∙ e) x.1, says o)

-- ---- sound exactly if there is no refusal
sound_if : (s : List ℕ) → Divided s → refusal_read s ≡ 0 → Sound s (entries_read s)
sound_if s (all_good es q) z = subst (Sound s) (sym (ap (λ (a : Reading). a.got) (reads_sound s es q))) q
sound_if s (then_bad es t u n e q b) z = let x = reads_bad s t u es n e q b in absurd (x.refuses (sym x.refusal ∙ z))

-- A string is good records, of these entries, exactly if nothing is refused and these are read.
pub sound_exactly : (s : List ℕ) (es : List Entry) → Sound s es ↔ (refusal_read s ≡ 0) × (entries_read s ≡ es)
sound_exactly s es = (
  λ q. (ap ended (reads_sound s es q), ap (λ (a : Reading). a.got) (reads_sound s es q)),
  λ h. subst (Sound s) h.1 (sound_if s (divided s) h.0),
)
