-- Each answer of `take_lines` is given when and only when what it says is so: a text is good lines and then something that begins with
-- no good line, in one way only.
use Prim.Native.Nat.{ℕ, ◌≤◌, ◌<◌}
use native.Mathlib.Omega.{arith}
use mathlib.Core.Path.{◌≡◌, refl, sym, ap, ◌∙◌, subst}
use mathlib.Core.Bool.{true, false}
use mathlib.Core.List.{List, [], ◌∷◌, ◌++◌}
use mathlib.Core.Logic.{◌⊎◌, inl, inr, ◌↔◌, ◌≢◌}
use lib.Dec.{eqb}
use lib.ListN.{length}
use borrow.Author.Tests.{eqb-true, eqb-false, ne_eqb, lt-ltb, le-ltb}
use Rattle.std.specs.Prelude.{Result, Ok, Err}
use Rattle.std.proofs.lemmas.Bool.{cases_Bool, cases_lt}
use Rattle.transcript_spec.specs.declared.Transcribed.{Transcribed}
use Rattle.transcript_lines.specs.InNumbers.{taken_numbers}
use Rattle.transcript_lines.specs.InPlainWords.{NoGoodLine, LinesThen, BadLineAt, TookAs}
use Rattle.transcript_lines.specs.InPlainWords as plain
use Rattle.transcript_lines.specs.Lines.{text_of}
use Rattle.transcript_lines.specs.Taking.{Taking, taking, taking_judged, take_answer}
use Rattle.transcript_lines.specs.declared.NotTaken.{NotTaken}
use Rattle.transcript_lines.specs.declared.NotTaken.TheVariants.{BadLine, NoPlaces}
use Rattle.transcript_lines.proofs.TakenLines.{nothing_there, text_taken, only_taken}

-- what an answer of `take_lines` says of a text and of the places for its entries, by its case
abbrev pub TakeMeans : List ℕ → ℕ → Result ℕ NotTaken → Type 0
TakeMeans t room (Ok n) = LinesThen t n [] × (n ≤ room)
TakeMeans t room (Err (BadLine n)) = BadLineAt t n
TakeMeans t room (Err NoPlaces) = (n : ℕ) × LinesThen t n [] × (room < n)

-- ---- what is so is answered

-- Where a text is lines of entries, and then what begins with no good line, these entries are taken, and this is left.
pub then_taken : {t : List ℕ} {n : ℕ} {left : List ℕ} (g : LinesThen t n left) → NoGoodLine left →
    taking t ≡ record { entries = g.entries; left = left }
then_taken {t} {n} {left} g bad =
    let x : Taking = record { entries = g.entries; left = left } in
    only_taken t x (record { is = g.is; says = g.says; stops = bad })

judged_is : {t : List ℕ} {n : ℕ} {left : List ℕ} (room : ℕ) (g : LinesThen t n left) → NoGoodLine left →
    take_answer t room ≡ taking_judged (record { entries = g.entries; left = left }) room
unfolding take_answer
judged_is room g bad = ap (λ (x : Taking). taking_judged x room) (then_taken g bad)

empty : (u : List ℕ) → length u ≡ 0 → u ≡ []
empty [] e = refl
empty (b ∷ u) e = absurd (omega (arith, e))

answered : (t : List ℕ) (room : ℕ) (o : Result ℕ NotTaken) → TakeMeans t room o → take_answer t room ≡ o
answered t room (Ok n) h = judged_is room h.0 nothing_there ∙ rw (h.0.count, le-ltb room n h.1) refl
answered t room (Err (BadLine n)) h =
    let some : length h.left ≢ 0 = λ e. h.some (empty h.left e) in
    judged_is room h.good h.bad ∙ rw (ne_eqb (length h.left) 0 some, h.good.count) refl
answered t room (Err NoPlaces) h = judged_is room h.1 nothing_there ∙ rw (h.1.count, lt-ltb room h.0 h.2) refl

-- ---- one of them is so

is_so : (t : List ℕ) (room : ℕ) → TakeMeans t room (take_answer t room)
is_so t room =
    go (cases_Bool (eqb (length (taking t).left) 0)) (cases_lt room (length (taking t).entries))
  where
    n : ℕ
    n = length (taking t).entries

    so : (o : Result ℕ NotTaken) → TakeMeans t room o → TakeMeans t room (take_answer t room)
    so o h = subst (TakeMeans t room) (sym (answered t room o h)) h

    lines : (u : List ℕ) → (taking t).left ≡ u → LinesThen t n u
    lines u e =
        record {
          entries = (taking t).entries;
          is = (text_taken t).is ∙ ap (λ (v : List ℕ). text_of (taking t).entries ++ v) e;
          says = (text_taken t).says;
          count = refl;
        }

    go : (eqb (length (taking t).left) 0 ≡ true) ⊎ (eqb (length (taking t).left) 0 ≡ false) → (room < n) ⊎ (n ≤ room) →
        TakeMeans t room (take_answer t room)
    go (inl e) (inl more) = so (Err NoPlaces) (n, lines [] (empty (taking t).left (eqb-true (length (taking t).left) 0 e)), more)
    go (inl e) (inr fits) = so (Ok n) (lines [] (empty (taking t).left (eqb-true (length (taking t).left) 0 e)), fits)
    go (inr e) m =
        so (Err (BadLine n))
        (record {
          left = (taking t).left;
          good = lines (taking t).left refl;
          some = λ z. eqb-false (length (taking t).left) 0 e (ap length z);
          bad = (text_taken t).stops;
        })

-- Each case of what `take_lines` answers is given exactly if it is so: all lines are good and have places, all are good and there are too
-- many, or a line is bad, behind so many good ones (`TakeMeans`).
pub take_answers : (t : List ℕ) (room : ℕ) (o : Result ℕ NotTaken) → take_answer t room ≡ o ↔ TakeMeans t room o
take_answers t room o = (λ e. subst (TakeMeans t room) e (is_so t room), answered t room o)

-- ---- in numbers
took_as : (t : List ℕ) (room : ℕ) (o : Result ℕ NotTaken) → TakeMeans t room o → TookAs t room (taken_numbers o)
took_as t room (Ok n) m = plain.TookAs.done m.0 m.1
took_as t room (Err (BadLine n)) m = plain.TookAs.bad_line m
took_as t room (Err NoPlaces) m = plain.TookAs.no_places m.1 m.2

took_says : (t : List ℕ) (room : ℕ) (a : Transcribed) → TookAs t room a → taken_numbers (take_answer t room) ≡ a
took_says t room _ (plain.TookAs.done {n} g h) = ap taken_numbers ((take_answers t room (Ok n)).1 (g, h))
took_says t room _ (plain.TookAs.no_places {n} g h) = ap taken_numbers ((take_answers t room (Err NoPlaces)).1 (n, g, h))
took_says t room _ (plain.TookAs.bad_line {n} b) = ap taken_numbers ((take_answers t room (Err (BadLine n))).1 b)

-- The numbers of what `take_lines` answers are a exactly if a's row of `TookAs` holds.
pub takes_exactly : (t : List ℕ) (room : ℕ) (a : Transcribed) → taken_numbers (take_answer t room) ≡ a ↔ TookAs t room a
takes_exactly t room a =
    (λ e. subst (TookAs t room) e (took_as t room (take_answer t room) (is_so t room)), took_says t room a)

-- The number of an answer of `take_lines` is 0, 24 or 27.
pub take_number : (o : Result ℕ NotTaken) → let n = (taken_numbers o).number in (n ≡ 0) ⊎ ((n ≡ 24) ⊎ (n ≡ 27))
take_number (Ok n) = inl refl
take_number (Err (BadLine n)) = inr (inr refl)
take_number (Err NoPlaces) = inr (inl refl)
