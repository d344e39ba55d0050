-- `transcript_scan::scanning::scan_on` meets its contract: at each turn of both loops the records are counted of the bytes that are read.
-- The inner loop counts on from where it was entered, whatever the string began with.
use Prim.Native.Nat.{ℕ, ◌+◌, ◌≤◌, ◌<◌}
use native.Mathlib.Omega.{arith}
use mathlib.Core.Path.{◌≡◌, refl, sym, ap, ◌∙◌}
use mathlib.Core.List.{List}
use lib.ListN.{length, get_or}
use Rattle.transcript_spec.specs.Reading.{Reading, fresh, byte_taken}
use Rattle.transcript_spec.specs.declared.Entry.{Entry}
use Rattle.transcript_spec.specs.declared.Part.{Part}
use Rattle.transcript_spec.specs.declared.Step.TheVariants.{Goes, Whole, Bad}
use Rattle.transcript_scan.specs.Scan.{scanned_on}
use Rattle.transcript_scan.specs.declared.scanning.ScannedOn.{ScannedOn}
use Rattle.transcript_spec.proofs.ReadingOn.{at_end}
use Rattle.transcript_scan.proofs.Counting.{begun, goes_on, counted, stopped}
use Rattle.transcript_scan.proofs.scanning.scan_on.Invariants.{Good, Within}
use Rattle.transcript_scan.proofs.scanning.scan_on.Goals as goal

abbrev found : ℕ → ℕ → ℕ → Part → ℕ → ScannedOn
found entries place next part refusal =
    record { entries = entries; place = place; next = next; part = part; refusal = refusal }

-- what is found in a string that ends at this reading
abbrev found-by : Reading → ScannedOn
found-by r = found (length r.got) r.from r.next r.part r.refusal

-- before the first byte
none_read : (p₀ : Part) (s : List ℕ) → Good p₀ s 0 0 0 p₀ 0
none_read p₀ s = record { reads = begun p₀ s; none_bad = refl }

-- a record is entered
entered : (s : List ℕ) (entries place next : ℕ) (part : Part) (refusal : ℕ) →
    Within s entries place next part refusal entries place next part refusal
entered s entries place next part refusal = record { on = λ p₀ g. g; behind = omega arith }

module _ {p₀ : Part} {s : List ℕ} {entries place next : ℕ} {part : Part} {refusal : ℕ} (g : Good p₀ s entries place next part refusal) where
  module _ (more : next < length s) where
    longer : {q : Part} → byte_taken part (get_or s next 0) ≡ Goes q → Good p₀ s entries place (next + 1) q refusal
    longer e = record { reads = goes_on g.reads more e; none_bad = g.none_bad }

    closed : {e : Entry} → byte_taken part (get_or s next 0) ≡ Whole e → Good p₀ s (entries + 1) (next + 1) (next + 1) fresh refusal
    closed e = record { reads = counted g.reads more e; none_bad = g.none_bad }

    bad-found : {n : ℕ} → byte_taken part (get_or s next 0) ≡ Bad n → found entries place (next + 1) fresh n ≡ scanned_on p₀ s
    bad-found {n} b =
        ap (λ (m : ℕ). found m place (next + 1) fresh n) g.reads.count ∙ ap found-by (sym (stopped g.reads more b))

  all_found : length s ≤ next → found entries place next part refusal ≡ scanned_on p₀ s
  all_found h =
      ap (found entries place next part) g.none_bad ∙
      ap (λ (m : ℕ). found m place next part 0) g.reads.count ∙
      ap found-by (sym (at_end g.reads.here h))

-- one byte more of a record that goes on
one-longer : {s : List ℕ} {entries₀ place₀ next₀ : ℕ} {part₀ : Part} {refusal₀ entries place next : ℕ} {part q : Part} {refusal : ℕ} →
    Within s entries₀ place₀ next₀ part₀ refusal₀ entries place next part refusal → next < length s →
    byte_taken part (get_or s next 0) ≡ Goes q → Within s entries₀ place₀ next₀ part₀ refusal₀ entries place (next + 1) q refusal
one-longer w more e = record { on = λ p₀ g. longer (w.on p₀ g) more e; behind = omega (arith, w.behind) }

pub records-init : goal.records-init
records-init c = none_read _ _

pub groups-init : goal.groups-init
groups-init c = entered _ _ _ _ _ _

pub records-preserved : goal.records-preserved
records-preserved c = c.groups.invariant.on _ c.records.invariant

pub groups-preserved : goal.groups-preserved
groups-preserved c =
    let taken = c.groups-test.true in
    let says = sym c.in-Goes.ensures in
    one-longer c.groups.invariant taken says

pub overflow_add-entries : goal.overflow_add-entries
overflow_add-entries c =
    omega (arith, (c.groups.invariant.on _ c.records.invariant).reads.few)

pub records-smaller-in-Whole : goal.records-smaller-in-Whole
records-smaller-in-Whole c =
    omega (arith, c.groups.invariant.behind)

pub records-preserved-in-Whole : goal.records-preserved-in-Whole
records-preserved-in-Whole c =
    let says = sym c.in-Whole.ensures in
    rw c.fresh_part-part.ensures
    (closed (c.groups.invariant.on _ c.records.invariant) c.groups-test.true says)

pub returns-after-records : goal.returns-after-records
returns-after-records c = all_found c.records.invariant c.records-test.false

pub returns-in-Bad : goal.returns-in-Bad
returns-in-Bad c =
    let says = sym c.in-Bad.ensures in
    rw c.fresh_part-part-in-Bad.ensures
    (bad-found (c.groups.invariant.on _ c.records.invariant) c.groups-test.true says)
