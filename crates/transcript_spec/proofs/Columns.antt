-- The four lists and the entries that they hold: the entries' parts are the lists' first places, and lists of entries' parts hold these
-- entries.
use Prim.Native.Nat.{ℕ, zero, suc, ◌+◌, ◌<◌, ◌≤◌}
use native.Mathlib.Omega.{arith}
use mathlib.Core.Path.{◌≡◌, refl, sym, ap, ◌∙◌}
use mathlib.Core.List.{List, [], ◌∷◌, map}
use mathlib.Core.Logic.{◌↔◌}
use lib.ListN.{length, take, drop, get_or, length-map}
use lib.Seq.{drop-cons, take_at, drop_at}
use Rattle.transcript_spec.specs.Lists.{Lists, lists, size, entry_at, entries_from, entries_in, over, columns, with_entries}
use Rattle.transcript_spec.specs.InPlainWords.{first_places, later_places}
use Rattle.transcript_spec.specs.declared.Entry.{Entry}

-- There are as many entries as asked for.
pub length_entries : (l : Lists) (i n : ℕ) → length (entries_from l i n) ≡ n
unfolding entries_from
length_entries l i zero = refl
length_entries l i (suc n) = ap suc (length_entries l (suc i) n)

-- A part of some entries is as many places of its list, from there on, where the list has them. Said once for the four: `f` takes the part,
-- and `col` is its list.
pub column_is : (l : Lists) (f : Entry → ℕ) (col : List ℕ) → ((i : ℕ) → f (entry_at l i) ≡ get_or col i 0) → (i n : ℕ) →
    i + n ≤ length col → map f (entries_from l i n) ≡ take n (drop i col)
unfolding entries_from
column_is l f col rule i zero h = refl
column_is l f col rule i (suc n) h =
    let k : i < length col = omega arith in
    ap (λ (x : ℕ). x ∷ map f (entries_from l (suc i) n)) (rule i)
    ∙ ap (λ (t : List ℕ). get_or col i 0 ∷ t) (column_is l f col rule (suc i) n (omega arith))
    ∙ sym (ap (take (suc n)) (drop-cons col i 0 k))

module _ (l : Lists) where
  -- The kinds of the entries that four lists hold are the first places of their list, as many as the shortest of the four has.
  pub kinds_in : map (λ (e : Entry). e.kind) (entries_in l) ≡ take (size l) l.kinds
  kinds_in = column_is l (λ (e : Entry). e.kind) l.kinds (λ i. refl) 0 (size l) (omega arith)

  -- The registers of the entries that four lists hold are the first places of their list, as many as the shortest of the four has.
  pub registers_in : map (λ (e : Entry). e.register) (entries_in l) ≡ take (size l) l.registers
  registers_in = column_is l (λ (e : Entry). e.register) l.registers (λ i. refl) 0 (size l) (omega arith)

  -- The lanes of the entries that four lists hold are the first places of their list, as many as the shortest of the four has.
  pub lanes_in : map (λ (e : Entry). e.lanes) (entries_in l) ≡ take (size l) l.lanes
  lanes_in = column_is l (λ (e : Entry). e.lanes) l.lanes (λ i. refl) 0 (size l) (omega arith)

  -- The words of the entries that four lists hold are the first places of their list, as many as the shortest of the four has.
  pub words_in : map (λ (e : Entry). e.word) (entries_in l) ≡ take (size l) l.words
  words_in = column_is l (λ (e : Entry). e.word) l.words (λ i. refl) 0 (size l) (omega arith)

-- ---- lists of entries' parts
shifted : (e : Entry) (es : List Entry) (i n : ℕ) → entries_from (columns (e ∷ es)) (suc i) n ≡ entries_from (columns es) i n
unfolding entries_from
shifted e es i zero = refl
shifted e es i (suc n) = ap (λ (t : List Entry). entry_at (columns es) i ∷ t) (shifted e es (suc i) n)

-- The four lists of some entries' parts have as many places as there are entries.
pub size_columns : (es : List Entry) → size (columns es) ≡ length es
size_columns es =
    let a = length-map es (λ (e : Entry). e.kind) in
    let b = length-map es (λ (e : Entry). e.register) in
    let c = length-map es (λ (e : Entry). e.lanes) in
    let d = length-map es (λ (e : Entry). e.word) in
    omega arith

all_of : (es : List Entry) → entries_from (columns es) 0 (length es) ≡ es
unfolding entries_from
all_of [] = refl
all_of (e ∷ es) = ap (λ (t : List Entry). e ∷ t) (shifted e es 0 (length es) ∙ all_of es)

-- The four lists of some entries' parts hold these entries.
pub entries_columns : (es : List Entry) → entries_in (columns es) ≡ es
entries_columns es = ap (entries_from (columns es) 0) (size_columns es) ∙ all_of es

-- ---- lists whose first places entries took
same_lists : {k k' r r' n n' w w' : List ℕ} → k ≡ k' → r ≡ r' → n ≡ n' → w ≡ w' → lists k r n w ≡ lists k' r' n' w'
same_lists p q s t = cc

front : (f : Entry → ℕ) (es : List Entry) (old : List ℕ) → take (length es) (over (map f es) old) ≡ map f es
front f es old = take_at (map f es) (drop (length (map f es)) old) (length es) (length-map es f)

-- Where entries took the lists' first places, these hold their parts.
pub first_are_columns : (es : List Entry) (l : Lists) → first_places (length es) (with_entries es l) ≡ columns es
first_are_columns es l =
    same_lists (front (λ (e : Entry). e.kind) es l.kinds) (front (λ (e : Entry). e.register) es l.registers)
    (front (λ (e : Entry). e.lanes) es l.lanes) (front (λ (e : Entry). e.word) es l.words)

back : (f : Entry → ℕ) (es : List Entry) (old : List ℕ) → drop (length es) (over (map f es) old) ≡ drop (length es) old
back f es old =
    drop_at (map f es) (drop (length (map f es)) old) (length es) (length-map es f)
    ∙ ap (λ (n : ℕ). drop n old) (length-map es f)

-- The places behind those that entries took stay.
pub later_stay : (es : List Entry) (l : Lists) → later_places (length es) (with_entries es l) ≡ later_places (length es) l
later_stay es l =
    same_lists (back (λ (e : Entry). e.kind) es l.kinds) (back (λ (e : Entry). e.register) es l.registers)
    (back (λ (e : Entry). e.lanes) es l.lanes) (back (λ (e : Entry). e.word) es l.words)

-- The parts of the entries that four lists hold are the lists' first places, as many as the shortest has.
pub columns_first : (l : Lists) → columns (entries_in l) ≡ first_places (size l) l
columns_first l = same_lists (kinds_in l) (registers_in l) (lanes_in l) (words_in l)

-- Four lists have n entries, or more, exactly if each of them has n places, or more.
pub size_is_shortest : (l : Lists) (n : ℕ) →
    n ≤ size l ↔ (n ≤ length l.kinds) × (n ≤ length l.registers) × (n ≤ length l.lanes) × (n ≤ length l.words)
size_is_shortest l n = (λ h. (omega arith, omega arith, omega arith, omega arith), λ h. omega arith)
