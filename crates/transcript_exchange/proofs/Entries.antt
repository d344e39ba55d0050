-- What becomes of entries that are written: where all are good, their records fit the output or do not; else the first bad one is
-- refused, and with which numbers where lines say them.
use Prim.Native.Nat.{ℕ, ◌+◌, ◌≤◌}
use native.Mathlib.Omega.{arith}
use mathlib.Core.Path.{◌≡◌, refl, ap, ◌∙◌}
use mathlib.Core.Bool.{Bool, true, false, cond}
use mathlib.Core.List.{List, [], ◌∷◌, ◌++◌, append-nil}
use mathlib.Core.Logic.{◌⊎◌, inl, inr}
use lib.Dec.{ltb}
use lib.ListN.{length, length-append}
use borrow.Author.Tests.{ne_eqb}
use Rattle.std.specs.Prelude.{Ok, Err}
use Rattle.transcript_spec.specs.Format.{record_of, transcript_of}
use Rattle.transcript_spec.specs.InPlainWords.{Good, AllGood, BadEntry}
use Rattle.transcript_spec.specs.InPlainWords as plain
use Rattle.transcript_spec.specs.Writing.{refused, accepted, write_answer}
use Rattle.transcript_spec.specs.Writing as writer
use Rattle.transcript_spec.specs.declared.Entry.{Entry}
use Rattle.transcript_spec.specs.declared.Transcribed.{Transcribed}
use Rattle.transcript_spec.proofs.BadNumbers.{entry_number}
use Rattle.transcript_spec.proofs.WrittenExactly.{none_bad, finds_bad}
use Rattle.transcript_lines.specs.InPlainWords.{HasLine}
use Rattle.transcript_lines.specs.Lines.{unsayable, AllHaveLines}
use Rattle.transcript_lines.proofs.Sayable.{sayable_when}
use Rattle.transcript_exchange.specs.Turning.{by_answer, entries_written, done_if_fits}
use Rattle.transcript_exchange.specs.declared.NotTurned.TheVariants.{Refused, TooMany}

-- ---- one entry behind others

-- A good entry behind good ones makes good ones.
pub all_good_more : (es : List Entry) (e : Entry) → AllGood es → Good e → AllGood (es ++ (e ∷ []))
all_good_more [] e g h = (h, tt)
all_good_more (x ∷ es) e g h = (g.0, all_good_more es e g.1 h)

-- One entry more adds the bytes of its record to the transcript.
pub transcript_more : (es : List Entry) (e : Entry) →
    length (transcript_of (es ++ (e ∷ []))) ≡ length (transcript_of es) + length (record_of e)
unfolding transcript_of
transcript_more [] e = omega (arith, ap length (append-nil (record_of e)))
transcript_more (x ∷ es) e =
    let all = length-append (record_of x) (transcript_of (es ++ (e ∷ []))) in
    let some = length-append (record_of x) (transcript_of es) in
    omega (arith, all, some, transcript_more es e)

-- ---- what becomes of them
module _ (es : List Entry) (room : ℕ) where
  -- Entries that are all good are turned if their transcript fits the output, and else are too many.
  pub all_written : AllGood es → entries_written es room ≡ done_if_fits (length (transcript_of es)) room
  unfolding by_answer write_answer
  all_written g =
      ap (λ (a : Transcribed). by_answer a (Ok a.count)) (none_bad 0 es (writer.accepted_if_fits n room) g) ∙ either (ltb room n)
    where
      n : ℕ
      n = length (transcript_of es)

      either : (t : Bool) →
          by_answer (cond t (refused 24 0) (accepted n)) (Ok (cond t (refused 24 0) (accepted n)).count) ≡ cond t (Err TooMany) (Ok n)
      either true = refl
      either false = refl

-- A bad entry is refused with a number from 2 to 22.
pub entry_range : {e : Entry} {n : ℕ} → BadEntry e n → (2 ≤ n) × (n ≤ 22)
entry_range b = go (entry_number b)
  where
    go : {n : ℕ} → (n ≡ 2) ⊎ ((n ≡ 3) ⊎ (n ≡ 22)) → (2 ≤ n) × (n ≤ 22)
    go (inl e) = (omega (arith, e), omega (arith, e))
    go (inr (inl e)) = (omega (arith, e), omega (arith, e))
    go (inr (inr e)) = (omega (arith, e), omega (arith, e))

-- The first bad entry is refused with its number and its index.
pub bad_written : (xs ys : List Entry) (e : Entry) (n room : ℕ) → AllGood xs → BadEntry e n →
    entries_written (xs ++ (e ∷ ys)) room ≡ Err (Refused n (length xs))
unfolding by_answer write_answer
bad_written xs ys e n room g b =
    let r = entry_range b in
    ap (λ (a : Transcribed). by_answer a (Ok a.count)) (finds_bad 0 xs ys e n _ g b)
    ∙ rw (ne_eqb n 0 (λ z. omega (arith, z, r.0)), ne_eqb n 24 (λ z. omega (arith, z, r.1)))
    (ap (λ (k : ℕ). Err (Refused n k)) (omega arith))

-- ---- entries that lines say
one_of_them : (xs ys : List Entry) (e : Entry) → AllHaveLines (xs ++ (e ∷ ys)) → unsayable e ≡ false
one_of_them [] ys e h = h.0
one_of_them (x ∷ xs) ys e h = one_of_them xs ys e h.1

of_says : {e : Entry} {n : ℕ} → HasLine e → BadEntry e n → (n ≡ 2) ⊎ (n ≡ 3)
of_says s (plain.BadEntry.no_register h) = inl refl
of_says s (plain.BadEntry.no_lanes r o) = inr refl
of_says s (plain.BadEntry.long_word r a l h) = absurd (omega (arith, h, s.word))
of_says s (plain.BadEntry.no_kind r a l h) = absurd (omega (arith, h, s.kind))
of_says s (plain.BadEntry.read_with_word r a l z d) = absurd (d (s.of_read z))

-- A bad entry among those that lines say is refused with 2 or 3: a line has a kind, and no word that is too long.
pub line_refusal : (xs ys : List Entry) {e : Entry} {n : ℕ} → AllHaveLines (xs ++ (e ∷ ys)) → BadEntry e n → (n ≡ 2) ⊎ (n ≡ 3)
line_refusal xs ys {e} h b = of_says ((sayable_when e).0 (one_of_them xs ys e h)) b
