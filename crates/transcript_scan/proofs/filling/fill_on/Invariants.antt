-- `transcript_scan::filling::fill_on` meets its contract: at each turn the entries so far are put into the lists.
use Rattle.std.proofs.Common.{ℕ, ◌≡◌, List}
use Rattle.transcript_spec.specs.Lists.{Lists, with_each}
use Rattle.transcript_spec.specs.declared.Part.{Part}
use Rattle.transcript_lists.specs.Lent.{lists_in, SameLists}
use Rattle.transcript_scan.proofs.Counting.{Counting}
use Rattle.transcript_scan.proofs.filling.fill_on.Given as goal

pub record Filling (p₀ : Part) (s : List ℕ) (l₀ l : Lists) (p : Part) (entries i : ℕ) : Type 0 where
  pub place : ℕ
  pub reads : Counting p₀ s p entries place i
  pub filled : l ≡ with_each l₀ 0 reads.got

abbrev pub invariant-loop-b : goal.invariant-loop-b
invariant-loop-b l =
    Filling l.fn.begun l.bytes (lists_in l.initial.list) (lists_in l.list) l.part l.entries l.b-index ×
    SameLists l.initial.list l.list
