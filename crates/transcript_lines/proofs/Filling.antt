-- The loop that fills the lists: the entries of the lines that are taken stand in the first places.
use Prim.Native.Nat.{ℕ, ◌+◌, ◌≤◌, ◌<◌}
use native.Mathlib.Omega.{arith}
use mathlib.Core.Path.{◌≡◌, refl, sym, ap, ◌∙◌, subst}
use mathlib.Core.List.{List}
use lib.ListN.{length}
use Rattle.std.specs.Prelude.{Some, None}
use Rattle.port_spec.specs.declared.Access.{Access}
use Rattle.listing.specs.Following.{NextAccess}
use Rattle.transcript_spec.specs.Lists.{Lists, size, with_entries, with_entry}
use Rattle.transcript_spec.specs.declared.Entry.{Entry}
use Rattle.transcript_spec.proofs.Filled.{SameLengths, lengths_stay, entry_more}
use Rattle.transcript_lines.specs.Lines.{entry_of}
use Rattle.transcript_lines.specs.Taking.{Taking, taking}
use Rattle.transcript_lines.proofs.Turns.{Come, at_start, among, one_more, no_more}

-- so many lines are taken, and their entries stand in the lists
pub record Filled (t left : List ℕ) (l₀ l : Lists) (i : ℕ) : Type 0 where
  pub come : Come t left i
  pub lists : l ≡ with_entries come.got l₀

-- At first nothing is taken, and the lists are as they were.
pub filled_start : (t : List ℕ) {left : List ℕ} (l : Lists) → left ≡ t → Filled t left l l 0
unfolding at_start
filled_start t l e = subst (λ (u : List ℕ). Filled t u l l 0) (sym e) (record { come = at_start t; lists = refl })

module _ {t left : List ℕ} {l₀ l : Lists} {i : ℕ} (k : Filled t left l₀ l i) (room : length (taking t).entries ≤ size l₀) where
  abbrev got : List Entry
  got = k.come.got

  has_places : length got ≤ size l₀
  has_places = omega (arith, among k.come, room)

  -- The lists that are being filled are as long as they were.
  pub still_long : SameLengths l₀ l
  still_long = subst (SameLengths l₀) (sym k.lists) (lengths_stay got l₀ has_places)

  module _ {a : Access} {left' : List ℕ} (next : NextAccess left (Some a) left') where
    next_place : length got < size l₀
    next_place =
        let come = one_more k.come next in
        omega (arith, among come, come.count, k.come.count, room)

    -- A good line's entry stands at the next place.
    pub filled_next : {y : Entry} {l' : Lists} → y ≡ entry_of a → l' ≡ with_entry l i y → Filled t left' l₀ l' (i + 1)
    unfolding one_more
    filled_next is p =
        record {
          come = one_more k.come next;
          lists =
              p ∙
              ap (with_entry l i) is ∙
              ap (λ (y : Lists). with_entry y i (entry_of a)) k.lists ∙
              ap (λ (j : ℕ). with_entry (with_entries got l₀) j (entry_of a)) k.come.count ∙
              entry_more got l₀ (entry_of a) next_place;
        }

  -- Where no good line follows, all entries that are taken stand in the lists.
  pub filled_all : {left' : List ℕ} → NextAccess left None left' → l ≡ with_entries (taking t).entries l₀
  filled_all next = k.lists ∙ ap (λ (y : Taking). with_entries y.entries l₀) (sym (no_more k.come next))
