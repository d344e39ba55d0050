-- However the bytes of a stream are cut into deliveries, empty ones among them: the accesses handed out are the good records before the
-- first bad one in the joined bytes, and the final refusal with its place is that of the reader of request (ii) on them. A stream stands
-- for the bytes that are joined so far, and each delivery joins its own.
use Prim.Native.Nat.{ℕ}
use mathlib.Core.Path.{◌≡◌, refl, sym, ap, ◌∙◌, subst}
use mathlib.Core.Bool.{Bool, cond}
use mathlib.Core.List.{List, [], ◌∷◌, ◌++◌, append_assoc, append-nil}
use mathlib.Core.Logic.{⊎_elim}
use borrow.Author.Tests.{ne_eqb}
use Rattle.std.proofs.lemmas.Bool.{cases_eq}
use Rattle.transcript_spec.specs.Reading.{feeds, entries_read}
use Rattle.transcript_spec.specs.declared.Entry.{Entry}
use Rattle.stream_spec.specs.InPlainWords.{Came, handed, Turn, Took, none, and_then, kept, joined, handed_out, answers_of, verdict_of}
use Rattle.stream_spec.specs.InPlainWords.{read_verdict}
use Rattle.stream_spec.specs.Stream.{fresh_stream, end_answer}
use Rattle.stream_spec.specs.declared.Stream.{Stream}
use Rattle.stream_spec.specs.declared.Streamed.{Streamed}
use Rattle.stream_spec.proofs.OneTurn.{read, stands_for, so_far, OneTurn, one_turn}
use Rattle.stream_spec.proofs.Outcomes.{comes_exactly}
use Rattle.stream_spec.proofs.TheEnd.{end_tells}
use Rattle.stream_spec.proofs.Told.{verdict, or_else}

-- ---- deliveries one after another, behind the bytes w

-- what deliveries one after another, behind the bytes w, come to
pub record Follows (w : List ℕ) (ts : List Turn) (st' : Stream) : Type 0 where
  pub stream : st' ≡ stands_for (w ++ joined ts)
  pub entries : entries_read (w ++ joined ts) ≡ entries_read w ++ handed_out ts
  pub refusal : (later : List Streamed) →
      or_else (so_far w) (verdict_of (answers_of ts ++ later)) ≡ or_else (so_far (w ++ joined ts)) (verdict_of later)

no_more : (w : List ℕ) {st : Stream} → st ≡ stands_for w → Follows w [] st
unfolding joined handed_out answers_of
no_more w e =
    let same = append-nil w in
    record {
      stream = e ∙ ap stands_for (sym same);
      entries = ap entries_read same ∙ sym (append-nil (entries_read w));
      refusal = λ later. ap (λ (x : List ℕ). or_else (so_far x) (verdict_of later)) (sym same);
    }

one_more : (w : List ℕ) (t : Turn) (ts : List Turn) {st' : Stream} → OneTurn w t.bytes t.answer t.left →
    Follows (w ++ kept t.answer t.bytes) ts st' → Follows w (t ∷ ts) st'
unfolding joined handed_out answers_of
one_more w t ts p q =
    let same = append_assoc w (kept t.answer t.bytes) (joined ts) in
    record {
      stream = q.stream ∙ ap stands_for same;
      entries =
          ap entries_read (sym same) ∙ q.entries ∙
          ap (λ (es : List Entry). es ++ handed_out ts) p.entries ∙
          append_assoc (entries_read w) (handed t.answer t.left) (handed_out ts);
      refusal = λ later.
          p.refusal (answers_of ts ++ later) ∙ q.refusal later ∙
          ap (λ (x : List ℕ). or_else (so_far x) (verdict_of later)) same;
    }

follows : (w : List ℕ) (ts : List Turn) {st st' : Stream} → st ≡ stands_for w → Took st ts st' → Follows w ts st'
follows w [] e none = no_more w e
follows w (t ∷ ts) {st} e (and_then p q) =
    let turn =
    one_turn w t.bytes (subst (λ (x : Stream). Came x t.bytes t.lent t.answer t.left) e (comes_exactly.0 p)) in
    one_more w t ts turn (follows (w ++ kept t.answer t.bytes) ts turn.stream q)

-- ---- from a fresh start

-- a verdict with nothing after it
nothing_later : (n from : ℕ) → or_else (verdict n from) (verdict 0 0) ≡ verdict n from
nothing_later n from =
    ⊎_elim
    (λ z. subst (λ (k : ℕ). or_else (verdict k from) (verdict 0 0) ≡ verdict k from) {x = 0} (sym z) refl)
    (λ d. ap (λ (b : Bool). cond b (verdict 0 0) (verdict n from)) (ne_eqb n 0 d))
    (cases_eq n 0)

module _ {ts : List Turn} {st : Stream} (p : Took fresh_stream ts st) where
  off : Follows [] ts st
  unfolding feeds
  off = follows [] ts refl p

  -- From a fresh start, the stream is the one that stands for the joined bytes.
  pub stands : st ≡ stands_for (joined ts)
  stands = off.stream

  -- From a fresh start, what was handed out is the entries that the reader of request (ii) finds in the joined bytes: the good records
  -- before the first bad one.
  pub hands_out : handed_out ts ≡ entries_read (joined ts)
  unfolding feeds
  hands_out = sym off.entries

  -- From a fresh start to an end, the final refusal with its place in the whole stream is that of the reader of request (ii) on the joined
  -- bytes.
  pub final_refusal : {e : Streamed} → e ≡ end_answer st → verdict_of (answers_of ts ++ (e ∷ [])) ≡ read_verdict (joined ts)
  unfolding feeds
  final_refusal q =
      off.refusal _ ∙
      ap (λ (o : Streamed). or_else (so_far (joined ts)) (verdict_of (o ∷ []))) (q ∙ ap end_answer stands) ∙
      end_tells (read (joined ts))

  -- A record that turns out to be bad is told by the delivery that shows it, and not later.
  pub told_at_once : verdict_of (answers_of ts) ≡ so_far (joined ts)
  unfolding feeds verdict_of
  told_at_once =
      ap verdict_of (sym (append-nil (answers_of ts))) ∙
      off.refusal [] ∙
      nothing_later (read (joined ts)).refusal (read (joined ts)).from

-- Two ways to deliver the same bytes from a fresh start hand out the same, leave the same stream and end with the same refusal at the same
-- place.
pub cuts_agree : {ts ts' : List Turn} {st st' : Stream} → Took fresh_stream ts st → Took fresh_stream ts' st' → joined ts ≡ joined ts' →
    (handed_out ts ≡ handed_out ts') × (st ≡ st')
    × (verdict_of (answers_of ts ++ (end_answer st ∷ [])) ≡ verdict_of (answers_of ts' ++ (end_answer st' ∷ [])))
cuts_agree p q e = (
  hands_out p ∙ ap entries_read e ∙ sym (hands_out q),
  stands p ∙ ap stands_for e ∙ sym (stands q),
  final_refusal p refl ∙ ap read_verdict e ∙ sym (final_refusal q refl),
)
