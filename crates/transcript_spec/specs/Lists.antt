-- A list of accesses as a call is lent it: one list of numbers for each part (ours).
--   Lists               the four of them
--   lists k r l w       those with these kinds, registers, lanes and words
--   size l              how many entries they hold: the list's length is the shortest (ours)
--   entry_at l i        entry i
--   entries_from l i n  n entries from place i on
--   entries_in l        all of them
--   over new old        what a list is when others take its first places: its later places stay
--   columns es          the four lists of some entries' parts
--   with_entries es l   the four lists when entries take their first places
--   with_entry l i e    the four lists when an entry takes place i
--   with_each l i es    the four lists when entries are put in one after the other, from place i on
--   lent_lists k r n w l        the first places of each list, so many of them, or all where there are fewer
--   lists_back k r n w l part   the four lists when these come back as part
use Rattle.std.specs.Prelude.{ℕ, zero, suc, min, List, [], ◌∷◌, ◌++◌, map, length, drop, get_or, set}
use Rattle.words.specs.Lent.{lent, given_back}
use Rattle.transcript_spec.specs.declared.Entry.{Entry}

pub record Lists : Type 0 where
  pub kinds : List ℕ
  pub registers : List ℕ
  pub lanes : List ℕ
  pub words : List ℕ

abbrev pub lists : List ℕ → List ℕ → List ℕ → List ℕ → Lists
lists k r l w = record { kinds = k; registers = r; lanes = l; words = w }

abbrev pub size : Lists → ℕ
size l = min (min (length l.kinds) (length l.registers)) (min (length l.lanes) (length l.words))

abbrev pub entry_at : Lists → ℕ → Entry
entry_at l i =
    record {
      kind = get_or l.kinds i 0;
      register = get_or l.registers i 0;
      lanes = get_or l.lanes i 0;
      word = get_or l.words i 0;
    }

unfoldable pub entries_from : Lists → ℕ → ℕ → List Entry
entries_from l i zero = []
entries_from l i (suc n) = entry_at l i ∷ entries_from l (suc i) n

abbrev pub entries_in : Lists → List Entry
entries_in l = entries_from l 0 (size l)

abbrev pub over : List ℕ → List ℕ → List ℕ
over new old = new ++ drop (length new) old

abbrev pub columns : List Entry → Lists
columns es =
    lists (map (λ (e : Entry). e.kind) es) (map (λ (e : Entry). e.register) es) (map (λ (e : Entry). e.lanes) es)
    (map (λ (e : Entry). e.word) es)

abbrev pub with_entries : List Entry → Lists → Lists
with_entries es l =
    lists (over (columns es).kinds l.kinds) (over (columns es).registers l.registers) (over (columns es).lanes l.lanes)
    (over (columns es).words l.words)

abbrev pub with_entry : Lists → ℕ → Entry → Lists
with_entry l i e =
    lists (set l.kinds i e.kind) (set l.registers i e.register) (set l.lanes i e.lanes) (set l.words i e.word)

-- beyond a list's end a number is dropped, as the library's `set` does
unfoldable pub with_each : Lists → ℕ → List Entry → Lists
with_each l i [] = l
with_each l i (e ∷ rest) = with_each (with_entry l i e) (suc i) rest

abbrev pub lent_lists : ℕ → ℕ → ℕ → ℕ → Lists → Lists
lent_lists k r n w l = lists (lent k l.kinds) (lent r l.registers) (lent n l.lanes) (lent w l.words)

abbrev pub lists_back : ℕ → ℕ → ℕ → ℕ → Lists → Lists → Lists
lists_back k r n w l part =
    lists (given_back k l.kinds part.kinds) (given_back r l.registers part.registers) (given_back n l.lanes part.lanes)
    (given_back w l.words part.words)
