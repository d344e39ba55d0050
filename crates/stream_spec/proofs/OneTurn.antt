-- One delivery to a stream that stands for the bytes w: the stream then stands for those bytes with the delivery's, what was handed out is
-- what the reader finds more in them, and if a record's refusal was told, it is that of the first bad record in them.
use Prim.Native.Nat.{ℕ}
use mathlib.Core.Path.{◌≡◌, refl, sym, ap, ◌∙◌, subst}
use mathlib.Core.Bool.{Bool, true, false, cond}
use mathlib.Core.List.{List, [], ◌∷◌, ◌++◌, append-nil}
use mathlib.Core.Logic.{◌≢◌, inl}
use borrow.Author.Tests.{eq-eqb}
use Rattle.transcript_spec.specs.Lists.{Lists, with_entries}
use Rattle.transcript_spec.specs.Reading.{Reading, start, feeds, entries_read}
use Rattle.transcript_spec.specs.declared.Entry.{Entry}
use Rattle.transcript_spec.proofs.Elsewhere.{feeds_joined}
use Rattle.transcript_spec.proofs.HowFar.{EarlyRefusal, early_refusal}
use Rattle.transcript_spec.proofs.ReadingOn.{stays_refused}
use Rattle.stream_spec.specs.InPlainWords.{answer, Came, ended_before, too_long, too_small, taken_in, then_bad, handed}
use Rattle.stream_spec.specs.InPlainWords.{sent_back, kept, Verdict, of_a_record, verdict_of}
use Rattle.stream_spec.specs.Stream.{resumed, heard, standing, answered}
use Rattle.stream_spec.specs.declared.Stream.{Stream}
use Rattle.stream_spec.specs.declared.Streamed.{Streamed}
use Rattle.stream_spec.proofs.Outcomes.{told_good, told_bad}
use Rattle.stream_spec.proofs.Resumed.{behind, resumes, good_if_open, bad_if_ended}
use Rattle.stream_spec.proofs.Told.{handed_none, handed_all, early_kept, verdict, or_else, early_verdict}

-- the reading of the bytes w from a fresh start
abbrev pub read : List ℕ → Reading
read w = feeds start w

-- the stream that stands for the bytes w
abbrev pub stands_for : List ℕ → Stream
stands_for w = standing (read w)

-- the refusal of a bad record among the bytes w, with its place, before any end
abbrev pub so_far : List ℕ → Verdict
so_far w = verdict (read w).refusal (read w).from

-- the bytes w, and then those of a delivery that answered o and left the lists l': the stream, the entries, the refusal
pub record OneTurn (w s : List ℕ) (o : Streamed) (l' : Lists) : Type 0 where
  pub stream : o.stream ≡ stands_for (w ++ kept o s)
  pub entries : entries_read (w ++ kept o s) ≡ entries_read w ++ handed o l'
  pub refusal : (later : List Streamed) → or_else (so_far w) (verdict_of (o ∷ later)) ≡ or_else (so_far (w ++ kept o s)) (verdict_of later)

module _ (w s : List ℕ) where
  -- a delivery that is sent back joins nothing
  back : {n : ℕ} {l : Lists} → sent_back n ≡ true → of_a_record n ≡ false → OneTurn w s (answer n 0 0 (stands_for w)) l
  unfolding verdict_of
  back {n} {l} b r =
      let same : w ++ kept (answer n 0 0 (stands_for w)) s ≡ w = ap (λ (t : Bool). w ++ cond t [] s) b ∙ append-nil w in
      record {
        stream = ap stands_for (sym same);
        entries =
            ap entries_read same ∙ sym (append-nil (entries_read w)) ∙
            ap (λ (es : List Entry). entries_read w ++ es) (sym (handed_none n 0 (stands_for w) l));
        refusal = λ later.
            ap (λ (t : Bool). or_else (so_far w) (cond t (record { number = n; place = 0 }) (verdict_of later))) r ∙
            ap (λ (x : List ℕ). or_else (so_far x) (verdict_of later)) (sym same);
      }

  -- a delivery behind a bad record joins bytes that are not read
  unread : {l : Lists} → (read w).refusal ≢ 0 → OneTurn w s (answer 25 0 0 (stands_for w)) l
  unfolding verdict_of
  unread {l} d =
      let same : read (w ++ s) ≡ read w = feeds_joined start w s ∙ stays_refused (read w) s d in
      record {
        stream = ap standing (sym same);
        entries =
            ap (λ (r : Reading). r.got) same ∙ sym (append-nil (entries_read w)) ∙
            ap (λ (es : List Entry). entries_read w ++ es) (sym (handed_none 25 0 (stands_for w) l));
        refusal = λ later. ap (λ (r : Reading). or_else (verdict r.refusal r.from) (verdict_of later)) (sym same);
      }

  -- any other delivery is read on
  reads_on : (l : Lists) → (read w).refusal ≡ 0 →
      OneTurn w s (answered (heard (stands_for w) s)) (with_entries (heard (stands_for w) s).got l)
  reads_on l z =
      let h = heard (stands_for w) s in
      let early : EarlyRefusal h.refusal = early_refusal (resumed (stands_for w)) s (inl refl) in
      let same : w ++ kept (answered h) s ≡ w ++ s = ap (λ (t : Bool). w ++ cond t [] s) (early_kept h.refusal early) in
      let more : read (w ++ kept (answered h) s) ≡ behind (read w).got h = ap read same ∙ feeds_joined start w s ∙ resumes (read w) s z in
      record {
        stream = ap standing (sym more);
        entries = ap (λ (r : Reading). r.got) more ∙ ap (λ (es : List Entry). entries_read w ++ es) (sym (handed_all h l));
        refusal = λ later.
            ap (λ (t : Bool). cond t (verdict_of (answered h ∷ later)) (so_far w)) (eq-eqb (read w).refusal 0 z) ∙
            early_verdict h early later ∙
            ap (λ (r : Reading). or_else (verdict r.refusal r.from) (verdict_of later)) (sym more);
      }

  -- Whatever a delivery to the stream that stands for the bytes w comes to, the stream then stands for w with the delivery's bytes, unless
  -- they are sent back; what is handed out is what the reader finds more in them; and the first refusal of a record is that of the first
  -- bad one in them.
  pub one_turn : {l l' : Lists} {o : Streamed} → Came (stands_for w) s l o l' → OneTurn w s o l'
  one_turn (ended_before z) = unread (bad_if_ended (read w) z)
  one_turn (too_long z h) = back refl refl
  one_turn (too_small z h k) = back refl refl
  one_turn {l} (taken_in z h k e) =
      subst (λ (o : Streamed). OneTurn w s o (with_entries (heard (stands_for w) s).got l)) (told_good (stands_for w) s e)
      (reads_on l (good_if_open (read w) z))
  one_turn {l} (then_bad z h k e i j) =
      subst (λ (o : Streamed). OneTurn w s o (with_entries (heard (stands_for w) s).got l)) (told_bad (stands_for w) s e i)
      (reads_on l (good_if_open (read w) z))
