-- The lines of a text, taken into lists (ours).
--   Taking               what is taken of a text: the entries of its good lines, up to the first bad one, and the text that is left
--   nothing, more        nothing is taken; one entry more, the first
--   by_front             what is taken of a text that begins so, by what is taken of the rest
--   takes n t            at most n lines of the text t
--   taking t             all of them: a text has no more lines than bytes
--   taken_if_fits n room  the answer where nothing is left: n entries, and places for so many
--   taking_judged x room  the answer where so much is taken, and there are places for so many entries
--   take_answer t room   what the call answers of a text, lent lists for so many entries
--   is_taken o           the answer of a call that is done
--   lists_after t l      the lent lists afterwards
--   TookLines            these, as the contract of the call
use Rattle.std.specs.Prelude.{ℕ, zero, suc, ◌≡◌, Bool, true, false, cond, List, [], ◌∷◌, eqb, ltb, length, drop, Result, Ok, Err}
use Rattle.listing.specs.Line.{front_line}
use Rattle.listing.specs.declared.Front.{Front}
use Rattle.listing.specs.declared.Front.TheVariants.{Good, Bad, Open}
use Rattle.transcript_spec.specs.Lists.{Lists, size, with_entries}
use Rattle.transcript_spec.specs.declared.Entry.{Entry}
use Rattle.transcript_lines.specs.Lines.{entry_of}
use Rattle.transcript_lines.specs.declared.NotTaken.{NotTaken}
use Rattle.transcript_lines.specs.declared.NotTaken.TheVariants.{BadLine, NoPlaces}

pub record Taking : Type 0 where
  pub entries : List Entry
  pub left : List ℕ

abbrev pub nothing : List ℕ → Taking
nothing t = record { entries = []; left = t }

abbrev pub more : Entry → Taking → Taking
more e x = record { entries = e ∷ x.entries; left = x.left }

-- a good line at the front is taken, and then the lines behind it; a bad one, or one without its line feed, is left
abbrev pub by_front : (List ℕ → Taking) → List ℕ → Front → Taking
by_front rest t (Good a size) = more (entry_of a) (rest (drop size t))
by_front rest t Bad = nothing t
by_front rest t Open = nothing t

unfoldable pub takes : ℕ → List ℕ → Taking
takes zero t = nothing t
takes (suc n) t = by_front (takes n) t (front_line t)

abbrev pub taking : List ℕ → Taking
taking t = takes (length t) t

abbrev pub taken_if_fits : ℕ → ℕ → Result ℕ NotTaken
taken_if_fits n room = cond (ltb room n) (Err NoPlaces) (Ok n)

-- where something is left, its first line is bad
abbrev pub taking_judged : Taking → ℕ → Result ℕ NotTaken
taking_judged x room = cond (eqb (length x.left) 0) (taken_if_fits (length x.entries) room) (Err (BadLine (length x.entries)))

unfoldable pub take_answer : List ℕ → ℕ → Result ℕ NotTaken
take_answer t room = taking_judged (taking t) room

abbrev pub is_taken : Result ℕ NotTaken → Bool
is_taken (Ok n) = true
is_taken (Err (BadLine n)) = false
is_taken (Err NoPlaces) = false

unfoldable pub lists_after : List ℕ → Lists → Lists
lists_after t l = cond (is_taken (take_answer t (size l))) (with_entries (taking t).entries l) l

-- what the call leaves: its answer, and the lists that it was lent
pub record TookLines (t : List ℕ) (l : Lists) (o : Result ℕ NotTaken) (l' : Lists) : Type 0 where
  pub answer : o ≡ take_answer t (size l)
  pub lists : l' ≡ lists_after t l
