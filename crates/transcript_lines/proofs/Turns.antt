-- The two loops over the lines of a text: what holds at each turn, and what it says at the end.
use Prim.Native.Nat.{ℕ, ◌+◌, ◌≤◌}
use native.Mathlib.Omega.{arith}
use mathlib.Core.Path.{◌≡◌, refl, sym, ap, ◌∙◌}
use mathlib.Core.List.{List, [], ◌∷◌, ◌++◌, append_assoc, append-nil}
use mathlib.Core.Logic.{◌≢◌}
use lib.ListN.{length, length-append, length-drop}
use borrow.Author.Tests.{ne_eqb}
use Rattle.std.specs.Prelude.{Some, None, Err}
use Rattle.port_spec.specs.declared.Access.{Access}
use Rattle.listing.specs.Following.{NextAccess}
use Rattle.transcript_spec.specs.declared.Entry.{Entry}
use Rattle.transcript_lines.specs.Lines.{entry_of}
use Rattle.transcript_lines.specs.Taking.{Taking, more as extra, taking, taken_if_fits, taking_judged, take_answer}
use Rattle.transcript_lines.specs.declared.NotTaken.TheVariants.{BadLine}
use Rattle.transcript_lines.proofs.FirstLine.{begins}
use Rattle.transcript_lines.proofs.LineAfterLine.{good_taken, nothing_taken}
use Rattle.transcript_lines.proofs.TakenLines.{behind}

-- so many lines are taken, and so much of the text is left: what is taken of the whole text is their entries, and then what is taken of
-- the rest
pub record Come (t left : List ℕ) (lines : ℕ) : Type 0 where
  pub got : List Entry
  pub come : taking t ≡ behind got (taking left)
  pub count : lines ≡ length got
  pub few : lines + length left ≤ length t

-- At the start no line is taken, and what is taken of the whole text is what is taken of the rest (`Come`).
unfoldable pub at_start : (t : List ℕ) → Come t t 0
at_start t = record { got = []; come = refl; count = refl; few = omega arith }

module _ {t left : List ℕ} {lines : ℕ} (k : Come t left lines) where
  -- The entries taken so far are no more than those of the whole text.
  pub among : length k.got ≤ length (taking t).entries
  among =
      let all = ap (λ (x : Taking). length x.entries) k.come ∙ length-append k.got (taking left).entries in
      omega (arith, all)

  -- After a good line one more is taken, with its bytes: what is taken of the whole text is the entries so far, and then what is taken of
  -- the rest (`Come`).
  unfoldable pub one_more : {a : Access} {left' : List ℕ} → NextAccess left (Some a) left' → Come t left' (lines + 1)
  one_more {a} {left'} next =
      let b = begins left next.1 in
      let more : List Entry = k.got ++ (entry_of a ∷ []) in
      let y = taking left' in
      record {
        got = more;
        come =
            k.come ∙
            ap (behind k.got) (good_taken left next.1) ∙
            ap (λ (u : List ℕ). behind k.got (extra (entry_of a) (taking u))) (sym next.2) ∙
            ap (λ (l : List Entry). record { entries = l; left = y.left }) (sym (append_assoc k.got (entry_of a ∷ []) y.entries));
        count = ap (λ (i : ℕ). i + 1) k.count ∙ sym (length-append k.got (entry_of a ∷ []));
        few = omega (arith, k.few, b.some, b.all, ap length next.2, length-drop next.0 left);
      }

  -- Where no good line follows, the entries taken so far are all.
  pub no_more : {left' : List ℕ} → NextAccess left None left' → taking t ≡ record { entries = k.got; left = left' }
  no_more {left'} next =
      k.come ∙
      ap (behind k.got) (nothing_taken left next.0) ∙
      ap (λ (l : List Entry). record { entries = l; left = left }) (append-nil k.got) ∙
      ap (λ (u : List ℕ). record { entries = k.got; left = u }) (sym next.1)

  module _ {left' : List ℕ} (next : NextAccess left None left') (room : ℕ) where
    -- Where no good line follows and something is left, a bad line is answered, behind so many good ones.
    pub ends_bad : length left' ≢ 0 → Err (BadLine lines) ≡ take_answer t room
    unfolding take_answer
    ends_bad some =
        ap (λ (n : ℕ). Err (BadLine n)) k.count ∙
        sym (ap (λ (y : Taking). taking_judged y room) (no_more next) ∙ rw (ne_eqb (length left') 0 some) refl)

    -- Where nothing is left, the answer is that of a text whose lines are all good, by the places for their entries.
    pub ends_even : length left' ≡ 0 → taken_if_fits lines room ≡ take_answer t room
    unfolding take_answer
    ends_even none =
        ap (λ (n : ℕ). taken_if_fits n room) k.count ∙
        sym (ap (λ (y : Taking). taking_judged y room) (no_more next) ∙ rw none refl)
