-- `transcript_scan::filling::fill_on` meets its contract: at each turn the entries so far are put into the lists.
use Prim.Native.Nat.{ℕ, ◌+◌, ◌≤◌, ◌<◌}
use native.Mathlib.Nat.{zero-add}
use mathlib.Core.Path.{◌≡◌, refl, sym, ap, ◌∙◌}
use mathlib.Core.List.{List}
use lib.ListN.{length, get_or}
use Rattle.transcript_spec.specs.Lists.{Lists, with_entry, with_each}
use Rattle.transcript_spec.specs.Reading.{Reading, fresh, byte_taken}
use Rattle.transcript_spec.specs.declared.Entry.{Entry}
use Rattle.transcript_spec.specs.declared.Part.{Part}
use Rattle.transcript_spec.specs.declared.Step.TheVariants.{Goes, Whole, Bad}
use Rattle.transcript_spec.proofs.ReadingOn.{at_end}
use Rattle.transcript_spec.proofs.Filled.{each_more}
use Rattle.transcript_lists.proofs.Same.{still_same}
use Rattle.transcript_scan.specs.Scan.{read_on}
use Rattle.transcript_scan.proofs.Counting.{begun, goes_on, counted, stopped}
use Rattle.transcript_scan.proofs.filling.fill_on.Invariants.{Filling}
use Rattle.transcript_scan.proofs.filling.fill_on.Goals as goal
use Rattle.transcript_scan.proofs.filling.fill_on.Goals.{in-Goes, in-Whole}

none-put : (p₀ : Part) (s : List ℕ) (l : Lists) → Filling p₀ s l l p₀ 0 0
unfolding with_each
none-put p₀ s l = record { place = 0; reads = begun p₀ s; filled = refl }

module _ {p₀ : Part} {s : List ℕ} {l₀ l : Lists} {p : Part} {entries i : ℕ} (f : Filling p₀ s l₀ l p entries i) where
  module _ (more : i < length s) where
    still-filled : {q : Part} → byte_taken p (get_or s i 0) ≡ Goes q → Filling p₀ s l₀ l q entries (i + 1)
    still-filled e = record { place = f.place; reads = goes_on f.reads more e; filled = f.filled }

    -- a good record's entry takes the next place
    one_put : {e : Entry} → byte_taken p (get_or s i 0) ≡ Whole e → {l' : Lists} → l' ≡ with_entry l entries e →
        Filling p₀ s l₀ l' fresh (entries + 1) (i + 1)
    one_put {e} w x =
        record {
          place = i + 1;
          reads = counted f.reads more w;
          filled =
              x ∙
              ap (λ (y : Lists). with_entry y entries e) f.filled ∙
              ap (λ (n : ℕ). with_entry (with_each l₀ 0 f.reads.got) n e) (f.reads.count ∙ sym (zero-add (length f.reads.got))) ∙
              sym (each_more l₀ 0 f.reads.got e);
        }

    bad-ends : {n : ℕ} → byte_taken p (get_or s i 0) ≡ Bad n → l ≡ with_each l₀ 0 (read_on p₀ s).got
    bad-ends b = f.filled ∙ ap (λ (r : Reading). with_each l₀ 0 r.got) (sym (stopped f.reads more b))

  all_put : length s ≤ i → l ≡ with_each l₀ 0 (read_on p₀ s).got
  all_put h = f.filled ∙ ap (λ (r : Reading). with_each l₀ 0 r.got) (sym (at_end f.reads.here h))

pub loop-b-init : goal.loop-b-init
loop-b-init c = (none-put _ _ _, (refl, refl, refl, refl))

pub loop-b-preserved : goal.loop-b-preserved
loop-b-preserved c =
    elim c.match-take_byte.branch [
      | in-Goes w ↦
          rw (w.list-is, w.part-is, w.entries-is)
          (still-filled c.loop-b.invariant.0 c.loop-b-test.true (sym w.in-Goes.ensures), c.loop-b.invariant.1)
      | in-Whole w ↦
          rw (w.list-is, w.part-is, w.entries-is, w.fresh_part-part.ensures) (
            one_put c.loop-b.invariant.0 c.loop-b-test.true (sym w.in-Whole.ensures) w.put.ensures.put,
            still_same c.args.list.now c.loop-b.list w.put.new.self c.loop-b.invariant.1 w.put.ensures.same,
          )
    ]

pub returns-in-Bad-clause-filled : goal.returns-in-Bad-clause-filled
returns-in-Bad-clause-filled c = bad-ends c.loop-b.invariant.0 c.loop-b-test.true (sym c.in-Bad.ensures)

pub returns-clause-filled : goal.returns-clause-filled
returns-clause-filled c = all_put c.loop-b.invariant.0 c.loop-b-test.false
