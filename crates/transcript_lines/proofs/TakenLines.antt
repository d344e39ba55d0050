-- What is taken of a text: the lines of the entries taken, with what is left behind them, are the text again; what is left begins with no
-- good line; and no other entries do this. By induction on the lines.
use Prim.Native.Nat.{ℕ, zero, suc, ◌≤◌, ◌<◌}
use native.Mathlib.Omega.{arith}
use mathlib.Core.Path.{◌≡◌, refl, sym, ap, ◌∙◌}
use mathlib.Core.Bool.{false, true≢false}
use mathlib.Core.List.{List, [], ◌∷◌, ◌++◌, append_assoc, append-nil}
use lib.ListN.{length, drop, length-drop}
use lib.Seq.{drop_at}
use Rattle.port_spec.specs.declared.Access.{Access}
use Rattle.listing.specs.Line.{has_feed, front_line}
use Rattle.listing.specs.Following.{is_good}
use Rattle.listing.specs.Spelled.{lines_of}
use Rattle.listing.specs.declared.Front.{Front}
use Rattle.listing.specs.declared.Front.TheVariants.{Good, Bad, Open}
use Rattle.transcript_spec.specs.declared.Entry.{Entry}
use Rattle.transcript_lines.specs.InPlainWords.{NoGoodLine, TextOf}
use Rattle.transcript_lines.specs.Lines.{entry_of, access_of, unsayable, line, text_of, AllHaveLines}
use Rattle.transcript_lines.specs.Taking.{Taking, nothing, more, by_front, takes, taking}
use Rattle.transcript_lines.proofs.Sayable.{entry_said, said_entry}
use Rattle.transcript_lines.proofs.FirstLine.{whole, good_front, begins}
use Rattle.transcript_lines.proofs.LineAfterLine.{good_taken, nothing_taken}

-- the entries es before what else is taken
abbrev pub behind : List Entry → Taking → Taking
behind es x = record { entries = es ++ x.entries; left = x.left }

-- ---- the lines of entries, taken

-- The line of an entry in front of a text is taken as this entry, and then what is taken of the text.
pub line_taken : (e : Entry) (v : List ℕ) → unsayable e ≡ false → taking (line e ++ v) ≡ more e (taking v)
line_taken e v h =
    let s = said_entry e h in
    good_taken (line e ++ v) (good_front (access_of e) v s.0) ∙
    ap (λ (x : Entry). more x (taking (drop (length (line e)) (line e ++ v)))) s.1 ∙
    ap (λ (u : List ℕ). more e (taking u)) (drop_at (line e) v (length (line e)) refl)

-- The lines of entries in front of a text are taken as these entries, and then what is taken of the text.
pub lines_taken : (es : List Entry) (v : List ℕ) → AllHaveLines es → taking (text_of es ++ v) ≡ behind es (taking v)
unfolding lines_of
lines_taken [] v h = refl
lines_taken (e ∷ rest) v h =
    ap taking (append_assoc (line e) (text_of rest) v) ∙
    line_taken e (text_of rest ++ v) h.0 ∙
    ap (more e) (lines_taken rest v h.1)

-- The lines of entries are taken as these entries, and nothing is left.
pub taken_back : (es : List Entry) → AllHaveLines es → taking (text_of es) ≡ record { entries = es; left = [] }
unfolding takes
taken_back es h =
    ap taking (sym (append-nil (text_of es))) ∙
    lines_taken es [] h ∙
    ap (λ (l : List Entry). record { entries = l; left = [] }) (append-nil es)

-- ---- a text, taken

-- the front of such a text is not good, and the other way round
none_front : (t : List ℕ) → NoGoodLine t → is_good (front_line t) ≡ false
none_front t h = go (front_line t) refl
  where
    go : (x : Front) → front_line t ≡ x → is_good x ≡ false
    go (Good a n) e =
        let b = begins t e in
        let s = entry_said a b.says in
        absurd (h (entry_of a) (drop n t) s.0 (b.is ∙ ap (λ (y : Access). whole y ++ drop n t) (sym s.1)))
    go Bad e = refl
    go Open e = refl

-- A text whose front is found to be no good line begins with no line that says an entry.
pub front_none : (t : List ℕ) → is_good (front_line t) ≡ false → NoGoodLine t
front_none t h e v s is =
    true≢false (sym (ap is_good (ap front_line is ∙ good_front (access_of e) v (said_entry e s).0)) ∙ h)

-- The empty text begins with no good line.
pub nothing_there : NoGoodLine []
unfolding front_line has_feed
nothing_there = front_none [] refl

-- Nothing is taken of such a text,
stopped : (t : List ℕ) → is_good (front_line t) ≡ false → TextOf t (nothing t)
unfolding lines_of
stopped t h = record { is = refl; says = tt; stops = front_none t h }

-- and of another its first line is, if shorter texts go right.
by_line : (f : List ℕ → Taking) (t : List ℕ) → ((u : List ℕ) → length u < length t → TextOf u (f u)) →
    TextOf t (by_front f t (front_line t))
unfolding lines_of
by_line f t shorter = go (front_line t) refl
  where
    go : (x : Front) → front_line t ≡ x → TextOf t (by_front f t x)
    go (Good a n) e =
        let b = begins t e in
        let s = entry_said a b.says in
        let rest = shorter (drop n t) (simp length-drop (omega (arith, b.some, b.all))) in
        let x = f (drop n t) in
        record {
          is =
              b.is ∙
              ap (λ (u : List ℕ). whole a ++ u) rest.is ∙
              sym (append_assoc (whole a) (text_of x.entries) x.left) ∙
              ap (λ (y : Access). whole y ++ text_of x.entries ++ x.left) (sym s.1);
          says = (s.0, rest.says);
          stops = rest.stops;
        }
    go Bad e = stopped t (ap is_good e)
    go Open e = stopped t (ap is_good e)

text_by : (n : ℕ) (t : List ℕ) → length t ≤ n → TextOf t (takes n t)
unfolding takes front_line has_feed
text_by zero [] h = stopped [] refl
text_by zero (b ∷ t) h = absurd (omega (arith, h))
text_by (suc n) t h = by_line (takes n) t (λ u l. text_by n u (omega (arith, l, h)))

-- Every text is the lines of the entries that are taken, and then what is left, which begins with no good line.
pub text_taken : (t : List ℕ) → TextOf t (taking t)
text_taken t = text_by (length t) t (omega arith)

-- A text is lines of entries, and then what begins with no good line, in one way only: as it is taken.
pub only_taken : (t : List ℕ) (x : Taking) → TextOf t x → taking t ≡ x
only_taken t x h =
    ap taking h.is ∙
    lines_taken x.entries x.left h.says ∙
    ap (behind x.entries) (nothing_taken x.left (none_front x.left h.stops)) ∙
    ap (λ (l : List Entry). record { entries = l; left = x.left }) (append-nil x.entries)
