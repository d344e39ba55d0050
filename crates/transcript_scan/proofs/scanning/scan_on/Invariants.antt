-- `transcript_scan::scanning::scan_on` meets its contract: at each turn of both loops the records are counted of the bytes that are read.
-- The inner loop counts on from where it was entered, whatever the string began with.
use Rattle.std.proofs.Common.{ℕ, ◌≡◌, ◌≤◌, ◌-◌, List, length}
use Rattle.transcript_spec.specs.declared.Part.{Part}
use Rattle.transcript_scan.proofs.Counting.{Counting}
use Rattle.transcript_scan.proofs.scanning.scan_on.Given as goal

-- no bad record is read yet
pub record Good (p₀ : Part) (s : List ℕ) (entries place next : ℕ) (part : Part) (refusal : ℕ) : Type 0 where
  pub reads : Counting p₀ s part entries place next
  pub none_bad : refusal ≡ 0

-- some bytes more are read since then, and none is bad
pub record Within (s : List ℕ) (entries₀ place₀ next₀ : ℕ) (part₀ : Part) (refusal₀ entries place next : ℕ) (part : Part) (refusal : ℕ) :
    Type 0 where
  pub on : (p₀ : Part) → Good p₀ s entries₀ place₀ next₀ part₀ refusal₀ → Good p₀ s entries place next part refusal
  pub behind : next₀ ≤ next

abbrev pub invariant-groups : goal.invariant-groups
invariant-groups l =
    Within l.bytes l.initial.entries l.initial.place l.initial.next l.initial.part l.initial.refusal l.entries l.place l.next l.part
    l.refusal

abbrev pub decreases-groups : goal.decreases-groups
decreases-groups l = length l.bytes - l.next

abbrev pub invariant-records : goal.invariant-records
invariant-records l = Good l.initial.part l.bytes l.entries l.place l.next l.part l.refusal

abbrev pub decreases-records : goal.decreases-records
decreases-records l = length l.bytes - l.next
