-- The loop that judges the accesses of a text's lines: what holds at each turn, and what it says at the end.
use Prim.Native.Nat.{ℕ, ◌+◌, ◌≤◌}
use native.Mathlib.Omega.{arith}
use mathlib.Core.Path.{◌≡◌, refl, sym, ap, ◌∙◌, subst}
use mathlib.Core.List.{List, [], ◌∷◌, ◌++◌}
use mathlib.Core.Logic.{◌≢◌, ⊎_elim}
use lib.ListN.{length, length-drop}
use lib.Seq.{append_snoc}
use Rattle.std.specs.Prelude.{Some, None, Err}
use Rattle.port_spec.specs.declared.Access.{Access}
use Rattle.port_spec.specs.declared.Access.TheVariants.{Read, Write}
use Rattle.listing.specs.Following.{NextAccess}
use Rattle.transcript_spec.specs.Format.{record_of, transcript_of}
use Rattle.transcript_spec.specs.InPlainWords.{AllGood, BadEntry}
use Rattle.transcript_spec.specs.Writing.{entry_refusal}
use Rattle.transcript_spec.specs.declared.Entry.{Entry}
use Rattle.transcript_spec.proofs.RecordBytes.{short}
use Rattle.transcript_spec.proofs.WrittenExactly.{good_passes, bad_refused, good_or_bad, passes_good}
use Rattle.transcript_lines.specs.Lines.{entry_of}
use Rattle.transcript_lines.specs.Taking.{Taking, taking}
use Rattle.transcript_lines.proofs.FirstLine.{whole, begins}
use Rattle.transcript_lines.proofs.Turns.{Come, at_start, one_more, no_more}
use Rattle.transcript_exchange.specs.Turning.{entries_written, done_if_fits}
use Rattle.transcript_exchange.specs.declared.NotTurned.TheVariants.{Refused}
use Rattle.transcript_exchange.proofs.Entries.{all_good_more, transcript_more, all_written, bad_written}

-- so many lines are taken, and so much of the text is left; their accesses have records, of no more bytes together than their lines
pub record Judged (t left : List ℕ) (count wanted : ℕ) : Type 0 where
  pub come : Come t left count
  pub good : AllGood come.got
  pub wants : wanted ≡ length (transcript_of come.got)
  pub less : wanted + length left ≤ length t

-- At first no line is taken, and no byte is wanted.
pub judged_start : (t : List ℕ) {left : List ℕ} → left ≡ t → Judged t left 0 0
unfolding at_start transcript_of
judged_start t e =
    subst (λ (u : List ℕ). Judged t u 0 0) (sym e) (record { come = at_start t; good = tt; wants = refl; less = omega arith })

-- A line has at least six bytes.
six_bytes : (a : Access) → 6 ≤ length (whole a)
six_bytes (Read register lanes) = omega arith
six_bytes (Write register lanes w) = omega arith

module _ {t left : List ℕ} {count wanted : ℕ} (k : Judged t left count wanted) where
  module _ {a : Access} {left' : List ℕ} (next : NextAccess left (Some a) left') {e : Entry} (is : e ≡ entry_of a) where
    -- the line's bytes are no longer left
    shorter : length left' + 6 ≤ length left
    shorter =
        let b = begins left next.1 in
        omega (arith, b.size, b.all, six_bytes a, ap length next.2, length-drop next.0 left)

    -- the entries behind this one
    abbrev later : List Entry
    later = (taking left').entries

    all_are : (taking t).entries ≡ k.come.got ++ (e ∷ later)
    unfolding one_more
    all_are =
        ap (λ (y : Taking). y.entries) (one_more k.come next).come
        ∙ append_snoc k.come.got (entry_of a) later
        ∙ ap (λ (y : Entry). k.come.got ++ (y ∷ later)) (sym is)

    -- The access of the next line, if it has a record, is counted, and so are its record's bytes.
    pub judged_next : entry_refusal e ≡ 0 → {size : ℕ} → size ≡ length (record_of e) → Judged t left' (count + 1) (wanted + size)
    unfolding one_more
    judged_next z {size} s =
        let g = passes_good e z in
        record {
          come = one_more k.come next;
          good = subst (λ (y : Entry). AllGood (k.come.got ++ (y ∷ []))) is (all_good_more k.come.got e k.good g);
          wants =
              subst (λ (y : Entry). wanted + size ≡ length (transcript_of (k.come.got ++ (y ∷ [])))) is
              (omega (arith, k.wants, s, transcript_more k.come.got e));
          less = omega (arith, k.less, s, short e g, shorter);
        }

    -- Where the access of the next line has no record, it is refused with its number and its index.
    pub judged_refused : {number : ℕ} → number ≡ entry_refusal e → number ≢ 0 → (room : ℕ) →
        (Err (Refused number count)) ≡ entries_written (taking t).entries room
    judged_refused {number} h d room =
        ⊎_elim
        (λ g. absurd (d (h ∙ good_passes e g)))
        (λ b.
        let bad : BadEntry e number = subst (BadEntry e) (sym (bad_refused e b.0 b.1) ∙ sym h) b.1 in
        ap (λ (n : ℕ). Err (Refused number n)) k.come.count
        ∙ sym (ap (λ (es : List Entry). entries_written es room) all_are ∙ bad_written k.come.got later e number room k.good bad))
        (good_or_bad e)

  -- Where no good line follows, the entries are turned if their records, of so many bytes, fit the output, and else are too many.
  pub judged_all : {left' : List ℕ} → NextAccess left None left' → (room : ℕ) →
      done_if_fits wanted room ≡ entries_written (taking t).entries room
  judged_all next room =
      ap (λ (n : ℕ). done_if_fits n room) k.wants
      ∙ sym
      (ap (λ (y : Taking). entries_written y.entries room) (no_more k.come next) ∙ all_written k.come.got room k.good)
