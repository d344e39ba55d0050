-- A string that is read on from a part of a record, byte by byte, with its entries counted: what the loops of the scan and of the
-- filling keep.
use Prim.Native.Nat.{ℕ, ◌+◌, ◌≤◌, ◌<◌}
use native.Mathlib.Omega.{arith}
use mathlib.Core.Path.{◌≡◌, refl, sym, ap, ◌∙◌}
use mathlib.Core.List.{List, [], ◌∷◌, ◌++◌}
use lib.ListN.{length, get_or, length-append}
use Rattle.transcript_spec.specs.Reading.{at, fresh, byte_taken}
use Rattle.transcript_spec.specs.declared.Entry.{Entry}
use Rattle.transcript_spec.specs.declared.Part.{Part}
use Rattle.transcript_spec.specs.declared.Step.TheVariants.{Goes, Whole, Bad}
use Rattle.transcript_scan.specs.Scan.{read_on}
use Rattle.transcript_spec.proofs.BadNumbers.{bad_has_number}
use Rattle.transcript_spec.proofs.ReadingOn.{Reached, none_yet, one_more, at_refusal}

-- i bytes are read on from the part p₀, and so many entries; the record that is being read begins at place, and p is its part
pub record Counting (p₀ : Part) (s : List ℕ) (p : Part) (entries place i : ℕ) : Type 0 where
  pub got : List Entry
  pub here : Reached (at [] 0 0 p₀ 0) s i (at got place i p 0)
  pub count : entries ≡ length got
  pub few : entries ≤ i

-- Before the first byte nothing is read on from the part p₀, and no entry is counted (`Counting`).
abbrev pub begun : (p₀ : Part) (s : List ℕ) → Counting p₀ s p₀ 0 0 0
begun p₀ s = record { got = []; here = none_yet (at [] 0 0 p₀ 0) s; count = refl; few = omega arith }

module _ {p₀ : Part} {s : List ℕ} {p : Part} {entries place i : ℕ} (k : Counting p₀ s p entries place i) (more : i < length s) where
  -- Where a byte more lets the record go on, it is read, and no entry is counted (`Counting`).
  abbrev pub goes_on : {q : Part} → byte_taken p (get_or s i 0) ≡ Goes q → Counting p₀ s q entries place (i + 1)
  goes_on e = record { got = k.got; here = one_more k.here more e; count = k.count; few = omega arith }

  -- Where a byte more makes the record whole and good, its entry is counted, and the next record begins behind it (`Counting`).
  abbrev pub counted : {e : Entry} → byte_taken p (get_or s i 0) ≡ Whole e → Counting p₀ s fresh (entries + 1) (i + 1) (i + 1)
  counted {e} w =
      record {
        got = k.got ++ (e ∷ []);
        here = one_more k.here more w;
        count = ap (λ (n : ℕ). n + 1) k.count ∙ sym (length-append k.got (e ∷ []));
        few = omega arith;
      }

  -- Where a byte shows the record to be bad, nothing more is read: the entries so far, the place where that record begins, and its refusal
  -- are what the whole string gives.
  pub stopped : {n : ℕ} → byte_taken p (get_or s i 0) ≡ Bad n → read_on p₀ s ≡ at k.got place (i + 1) fresh n
  stopped b = at_refusal (one_more k.here more b) (bad_has_number p (get_or s i 0) b)
