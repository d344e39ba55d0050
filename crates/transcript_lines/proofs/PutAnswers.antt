-- Each answer of `put_lines` is given when and only when what it says is so: of every list one of the three is so, and the answer to it
-- is told by the definition.
use Prim.Native.Nat.{ℕ, suc, ◌+◌, ◌≤◌, ◌<◌}
use native.Mathlib.Omega.{arith}
use mathlib.Core.Path.{◌≡◌, refl, sym, ap, ◌∙◌, subst}
use mathlib.Core.Bool.{true, false}
use mathlib.Core.List.{List, [], ◌∷◌, ◌++◌}
use mathlib.Core.Logic.{◌⊎◌, inl, inr, ◌↔◌}
use lib.ListN.{length}
use borrow.Author.Tests.{lt-ltb, le-ltb}
use Rattle.std.specs.Prelude.{Result, Ok, Err}
use Rattle.std.proofs.lemmas.Bool.{cases_Bool, cases_lt}
use Rattle.transcript_spec.specs.declared.Entry.{Entry}
use Rattle.transcript_spec.specs.declared.Transcribed.{Transcribed}
use Rattle.transcript_lines.specs.InNumbers.{put_numbers}
use Rattle.transcript_lines.specs.InPlainWords.{FirstUnsayable, PutAs}
use Rattle.transcript_lines.specs.InPlainWords as plain
use Rattle.transcript_lines.specs.Lines.{unsayable, text_of, AllHaveLines}
use Rattle.transcript_lines.specs.Putting.{first_unsayable, written_if_fits, put_answer}
use Rattle.transcript_lines.specs.declared.NotPut.{NotPut}
use Rattle.transcript_lines.specs.declared.NotPut.TheVariants.{Unsayable, NoBytes}

-- what an answer of `put_lines` says of a list and of the room for its lines, by its case
abbrev pub PutMeans : List Entry → ℕ → Result ℕ NotPut → Type 0
PutMeans es room (Ok n) = AllHaveLines es × (n ≡ length (text_of es)) × (n ≤ room)
PutMeans es room (Err (Unsayable k)) = FirstUnsayable es k
PutMeans es room (Err NoBytes) = AllHaveLines es × (room < length (text_of es))

-- ---- what is so is answered

none_unsayable : (k : ℕ) (es : List Entry) (done : Result ℕ NotPut) → AllHaveLines es → first_unsayable k es done ≡ done
unfolding first_unsayable
none_unsayable k [] done h = refl
none_unsayable k (e ∷ rest) done h = rw h.0 (none_unsayable (suc k) rest done h.1)

one_unsayable : (k : ℕ) (before : List Entry) (e : Entry) (after : List Entry) (done : Result ℕ NotPut) → AllHaveLines before →
    unsayable e ≡ true →
    first_unsayable k (before ++ e ∷ after) done ≡ Err (Unsayable (k + length before))
unfolding first_unsayable
one_unsayable k [] e after done h f = rw f (ap (λ (n : ℕ). Err (Unsayable n)) (omega arith))
one_unsayable k (x ∷ before) e after done h f =
    rw h.0 (one_unsayable (suc k) before e after done h.1 f ∙ ap (λ (n : ℕ). Err (Unsayable n)) (omega arith))

answered : (es : List Entry) (room : ℕ) (o : Result ℕ NotPut) → PutMeans es room o → put_answer es room ≡ o
unfolding put_answer
answered es room (Ok n) h =
    none_unsayable 0 es (written_if_fits (length (text_of es)) room) h.0 ∙
    rw (sym h.1, le-ltb room n h.2) refl
answered es room (Err (Unsayable k)) h =
    ap (λ (l : List Entry). first_unsayable 0 l (written_if_fits (length (text_of es)) room)) h.is ∙
    one_unsayable 0 h.before h.entry h.after (written_if_fits (length (text_of es)) room) h.says h.not ∙
    ap (λ (n : ℕ). Err (Unsayable n)) (omega (arith, h.count))
answered es room (Err NoBytes) h =
    none_unsayable 0 es (written_if_fits (length (text_of es)) room) h.0 ∙
    rw (lt-ltb room (length (text_of es)) h.1) refl

-- ---- one of them is so

all_or_first : (es : List Entry) → AllHaveLines es ⊎ ((k : ℕ) × FirstUnsayable es k)
all_or_first [] = inl tt
all_or_first (e ∷ rest) = go (cases_Bool (unsayable e)) (all_or_first rest)
  where
    go : (unsayable e ≡ true) ⊎ (unsayable e ≡ false) → AllHaveLines rest ⊎ ((k : ℕ) × FirstUnsayable rest k) →
        AllHaveLines (e ∷ rest) ⊎ ((k : ℕ) × FirstUnsayable (e ∷ rest) k)
    go (inl f) r = inr (0, record { before = []; entry = e; after = rest; is = refl; count = refl; says = tt; not = f })
    go (inr f) (inl h) = inl (f, h)
    go (inr f) (inr (k, h)) =
        inr (
          suc k,
          record {
            before = e ∷ h.before;
            entry = h.entry;
            after = h.after;
            is = ap (λ (l : List Entry). e ∷ l) h.is;
            count = ap suc h.count;
            says = (f, h.says);
            not = h.not;
          },
        )

is_so : (es : List Entry) (room : ℕ) → PutMeans es room (put_answer es room)
is_so es room = go (all_or_first es) (cases_lt room (length (text_of es)))
  where
    so : (o : Result ℕ NotPut) → PutMeans es room o → PutMeans es room (put_answer es room)
    so o h = subst (PutMeans es room) (sym (answered es room o h)) h

    go : AllHaveLines es ⊎ ((k : ℕ) × FirstUnsayable es k) → (room < length (text_of es)) ⊎ (length (text_of es) ≤ room) →
        PutMeans es room (put_answer es room)
    go (inl h) (inl more) = so (Err NoBytes) (h, more)
    go (inl h) (inr fits) = so (Ok (length (text_of es))) (h, refl, fits)
    go (inr (k, h)) m = so (Err (Unsayable k)) h

-- Each case of what `put_lines` answers is given exactly if it is so: a line can say each entry and the lines fit, they do not fit, or no
-- line can say an entry, the first such one having this index (`PutMeans`).
pub put_answers : (es : List Entry) (room : ℕ) (o : Result ℕ NotPut) → put_answer es room ≡ o ↔ PutMeans es room o
put_answers es room o = (λ e. subst (PutMeans es room) e (is_so es room), answered es room o)

-- ---- in numbers
put_as : (es : List Entry) (room : ℕ) (o : Result ℕ NotPut) → PutMeans es room o → PutAs es room (put_numbers o)
put_as es room (Ok n) m =
    subst (λ (k : ℕ). PutAs es room (put_numbers (Ok k))) (sym m.1) (plain.PutAs.done m.0 (omega (arith, m.1, m.2)))
put_as es room (Err (Unsayable k)) m = plain.PutAs.no_line m
put_as es room (Err NoBytes) m = plain.PutAs.no_bytes m.0 m.1

put_says : (es : List Entry) (room : ℕ) (a : Transcribed) → PutAs es room a → put_numbers (put_answer es room) ≡ a
put_says es room _ (plain.PutAs.done s h) = ap put_numbers ((put_answers es room (Ok (length (text_of es)))).1 (s, refl, h))
put_says es room _ (plain.PutAs.no_bytes s h) = ap put_numbers ((put_answers es room (Err NoBytes)).1 (s, h))
put_says es room _ (plain.PutAs.no_line {k} f) = ap put_numbers ((put_answers es room (Err (Unsayable k))).1 f)

-- The numbers of what `put_lines` answers are a exactly if a's row of `PutAs` holds.
pub puts_exactly : (es : List Entry) (room : ℕ) (a : Transcribed) → put_numbers (put_answer es room) ≡ a ↔ PutAs es room a
puts_exactly es room a =
    (λ e. subst (PutAs es room) e (put_as es room (put_answer es room) (is_so es room)), put_says es room a)

-- The number of an answer of `put_lines` is 0, 22 or 24.
pub put_number : (o : Result ℕ NotPut) → let n = (put_numbers o).number in (n ≡ 0) ⊎ ((n ≡ 22) ⊎ (n ≡ 24))
put_number (Ok n) = inl refl
put_number (Err (Unsayable k)) = inr (inl refl)
put_number (Err NoBytes) = inr (inr refl)
