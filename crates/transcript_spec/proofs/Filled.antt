-- The four lists as entries take their first places, one after the other.
use Prim.Native.Nat.{ℕ, suc, ◌+◌, ◌≤◌, ◌<◌}
use native.Mathlib.Nat.{add-zero}
use native.Mathlib.Numerals.{add-one}
use native.Mathlib.Omega.{arith}
use mathlib.Core.Path.{◌≡◌, refl, sym, ap, ◌∙◌}
use mathlib.Core.List.{List, [], ◌∷◌, ◌++◌, append-nil, map, map-append}
use lib.ListN.{length, drop, get_or, set, length-append, length-drop, length-map, length-set}
use lib.Seq.{drop-cons, set_at, append_snoc}
use Rattle.transcript_spec.specs.Lists.{Lists, size, over, with_entries, with_entry, with_each}
use Rattle.transcript_spec.specs.declared.Entry.{Entry}

-- ---- one column

-- A list whose first places are taken is as long as before.
pub over_length : (new old : List ℕ) → length new ≤ length old → length (over new old) ≡ length old
over_length new old h = simp (length-append, length-drop) (omega arith)

-- One number more is a store at the next place.
over_more : (new old : List ℕ) (x : ℕ) → length new < length old → set (over new old) (length new) x ≡ over (new ++ (x ∷ [])) old
over_more new old x h =
    ap (λ (d : List ℕ). set (new ++ d) (length new) x) (drop-cons old (length new) 0 h) ∙
    set_at new (get_or old (length new) 0) (drop (suc (length new)) old) x (length new) refl ∙
    sym (append_snoc new x (drop (suc (length new)) old)) ∙
    ap (λ (n : ℕ). (new ++ (x ∷ [])) ++ drop n old) (sym (length-append new (x ∷ []) ∙ add-one (length new)))

module _ (part : Entry → ℕ) (got : List Entry) (old : List ℕ) where
  column_length : length got ≤ length old → length (over (map part got) old) ≡ length old
  column_length h = over_length (map part got) old (rw (length-map got part) h)

  column_more : (e : Entry) → length got < length old →
      set (over (map part got) old) (length got) (part e) ≡ over (map part (got ++ (e ∷ []))) old
  column_more e h =
      ap (λ (n : ℕ). set (over (map part got) old) n (part e)) (sym (length-map got part)) ∙
      over_more (map part got) old (part e) (rw (length-map got part) h) ∙
      ap (λ (l : List ℕ). over l old) (sym (map-append part got (e ∷ [])))

-- ---- the four of them

-- the four lists l are as long as l₀ were
pub record SameLengths (l₀ l : Lists) : Type 0 where
  pub kinds : length l.kinds ≡ length l₀.kinds
  pub registers : length l.registers ≡ length l₀.registers
  pub lanes : length l.lanes ≡ length l₀.lanes
  pub words : length l.words ≡ length l₀.words

module _ (got : List Entry) (l : Lists) where
  -- Entries that fit leave the lists as long as they were.
  pub lengths_stay : length got ≤ size l → SameLengths l (with_entries got l)
  lengths_stay h =
      record {
        kinds = column_length (λ e. e.kind) got l.kinds (omega arith);
        registers = column_length (λ e. e.register) got l.registers (omega arith);
        lanes = column_length (λ e. e.lanes) got l.lanes (omega arith);
        words = column_length (λ e. e.word) got l.words (omega arith);
      }

  -- Where there is room, one entry more behind those that took the first places is put at the next place.
  pub entry_more : (e : Entry) → length got < size l → with_entry (with_entries got l) (length got) e ≡ with_entries (got ++ (e ∷ [])) l
  entry_more e h =
      rw (
        column_more (λ x. x.kind) got l.kinds e (omega arith),
        column_more (λ x. x.register) got l.registers e (omega arith),
        column_more (λ x. x.lanes) got l.lanes e (omega arith),
        column_more (λ x. x.word) got l.words e (omega arith),
      )

-- ---- entries that are put in one after the other, whether they fit or not

-- Entries that are put in one after the other, whether they fit or not, leave the lists as long as they were.
pub each_lengths : (l : Lists) (i : ℕ) (es : List Entry) → SameLengths l (with_each l i es)
unfolding with_each
each_lengths l i [] = record { kinds = refl; registers = refl; lanes = refl; words = refl }
each_lengths l i (e ∷ es) =
    let h = each_lengths (with_entry l i e) (suc i) es in
    record {
      kinds = h.kinds ∙ length-set l.kinds i e.kind;
      registers = h.registers ∙ length-set l.registers i e.register;
      lanes = h.lanes ∙ length-set l.lanes i e.lanes;
      words = h.words ∙ length-set l.words i e.word;
    }

-- One entry more behind those that are put in one after the other is put at the next place.
pub each_more : (l : Lists) (i : ℕ) (es : List Entry) (e : Entry) →
    with_each l i (es ++ (e ∷ [])) ≡ with_entry (with_each l i es) (i + length es) e
unfolding with_each
each_more l i [] e = ap (λ (n : ℕ). with_entry l n e) (sym (add-zero i))
each_more l i (x ∷ es) e =
    let next : suc i + length es ≡ i + suc (length es) = omega arith in
    each_more (with_entry l i x) (suc i) es e
    ∙ ap (λ (n : ℕ). with_entry (with_each (with_entry l i x) (suc i) es) n e) next

each_behind : (got : List Entry) (l : Lists) (es : List Entry) → length got + length es ≤ size l →
    with_each (with_entries got l) (length got) es ≡ with_entries (got ++ es) l
unfolding with_each
each_behind got l [] h = ap (λ (x : List Entry). with_entries x l) (sym (append-nil got))
each_behind got l (e ∷ es) h =
    let n : length (got ++ (e ∷ [])) ≡ suc (length got) = length-append got (e ∷ []) ∙ add-one (length got) in
    ap (λ (x : Lists). with_each x (suc (length got)) es) (entry_more got l e (omega arith))
    ∙ ap (λ (k : ℕ). with_each (with_entries (got ++ (e ∷ [])) l) k es) (sym n)
    ∙ each_behind (got ++ (e ∷ [])) l es (omega arith)
    ∙ ap (λ (x : List Entry). with_entries x l) (append_snoc got e es)

-- Entries that fit, put in one after the other from the first place on, take the lists' first places.
pub each_fits : (es : List Entry) (l : Lists) → length es ≤ size l → with_each l 0 es ≡ with_entries es l
each_fits es l h = each_behind [] l es (omega arith)
