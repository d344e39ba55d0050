-- The iterator over the entries gives those that are left, one after the other, and then none.
use mathlib.Core.Path.{◌≡◌, ap, subst}
use mathlib.Core.List.{List}
use lib.ListN.{length}
use Rattle.std.specs.Iterator.{YieldsFirst, AlwaysYields}
use Rattle.std.proofs.iter.Yields.{listed}
use Rattle.std.proofs.lemmas.Iterator.{YieldsList}
use Rattle.transcript_spec.specs.declared.Entry.{Entry}
use Rattle.transcript_lists.specs.Lent.{entries_left}
use Rattle.transcript_lists.specs.declared.Entries.{Entries}

-- An iterator that has some entries left gives these.
pub all_given : {s : Entries} {es : List Entry} → entries_left s ≡ es → YieldsList (YieldsFirst entries_left) (λ (e : Entry). e) s es
all_given {s} is =
    record {
      runs =
          subst (AlwaysYields (YieldsFirst entries_left) (λ (e : Entry). e) s) is
          (listed (YieldsFirst entries_left) (λ (e : Entry). e) entries_left (λ s t p. ap length p.0) (λ s x t p. p) s);
    }
