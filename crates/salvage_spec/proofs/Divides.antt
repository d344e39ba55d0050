-- Every string divides into good records and a rest, in one way: the run of salvage is those records, and its rest is the rest.
use Prim.Native.Nat.{ℕ}
use mathlib.Core.Path.{◌≡◌, sym, ap, ◌∙◌, subst}
use mathlib.Core.List.{List, [], ◌++◌, append-nil}
use lib.ListN.{length, take, drop}
use lib.Seq.{take-append_seam, drop-append_seam}
use Rattle.transcript_spec.specs.InPlainWords.{Sound}
use Rattle.transcript_spec.specs.Reading.{Reading, ended, entries_read, place_read, refusal_read}
use Rattle.transcript_spec.specs.declared.Entry.{Entry}
use Rattle.transcript_spec.proofs.Divided.{Divided, all_good, then_bad, divided}
use Rattle.transcript_spec.proofs.ReadExactly.{reads_sound, reads_bad}
use Rattle.salvage_spec.specs.InPlainWords.{Rest, none_left, next_bad, Divides}
use Rattle.salvage_spec.specs.Salvage.{run, rest}

-- what is read of a string, beside its parts
record ReadSo (s : List ℕ) (es : List Entry) (t u : List ℕ) (n : ℕ) : Type 0 where
  pub entries : entries_read s ≡ es
  pub place : place_read s ≡ length t
  pub refusal : refusal_read s ≡ n

read_so : (s : List ℕ) (es : List Entry) (t u : List ℕ) (n : ℕ) → s ≡ t ++ u → Sound t es → Rest u n → ReadSo s es t u n
read_so s es t _ _ e q none_left =
    let whole = e ∙ append-nil t in
    let f = reads_sound s es (subst (λ (x : List ℕ). Sound x es) (sym whole) q) in
    record {
      entries = ap (λ (a : Reading). a.got) f;
      place = ap (λ (a : Reading). a.from) f ∙ ap length whole;
      refusal = ap ended f;
    }
read_so s es t u n e q (next_bad b) =
    let x = reads_bad s t u es n e q b in
    record { entries = x.entries; place = x.place; refusal = x.refusal }

-- the entries es, the run t, the rest u and the refusal n are those that salvage finds in the string s
pub record Found (s : List ℕ) (es : List Entry) (t u : List ℕ) (n : ℕ) : Type 0 where
  pub entries : entries_read s ≡ es
  pub kept : run s ≡ t
  pub left : rest s ≡ u
  pub refusal : refusal_read s ≡ n

-- The parts into which a string divides are those that salvage finds: records, run, rest and what stopped it.
pub found : {s : List ℕ} {es : List Entry} {t u : List ℕ} {n : ℕ} → Divides s es t u n → Found s es t u n
found {s} {es} {t} {u} {n} d =
    let x = read_so s es t u n d.all d.good d.behind in
    record {
      entries = x.entries;
      kept = ap (λ (k : ℕ). take k s) x.place ∙ ap (take (length t)) d.all ∙ take-append_seam t u;
      left = ap (λ (k : ℕ). drop k s) x.place ∙ ap (drop (length t)) d.all ∙ drop-append_seam t u;
      refusal = x.refusal;
    }

-- ---- every string divides
-- some parts into which a string divides
pub record Parts (s : List ℕ) : Type 0 where
  pub entries : List Entry
  pub kept : List ℕ
  pub left : List ℕ
  pub stop : ℕ
  pub divides : Divides s entries kept left stop

some_parts : (s : List ℕ) → Divided s → Parts s
some_parts s (all_good es q) =
    record { entries = es; kept = s; left = []; stop = 0; divides = record { all = sym (append-nil s); good = q; behind = none_left } }
some_parts s (then_bad es t u n e q b) =
    record { entries = es; kept = t; left = u; stop = n; divides = record { all = e; good = q; behind = next_bad b } }

-- Every string is the run, which is good records, those that the reader reads, and the rest, which is nothing or begins with a bad record,
-- refused as the reader says.
pub divides : (s : List ℕ) → Divides s (entries_read s) (run s) (rest s) (refusal_read s)
divides s =
    let p = some_parts s (divided s) in
    let f = found p.divides in
    subst (λ (es : List Entry). Divides s es (run s) (rest s) (refusal_read s)) (sym f.entries)
    (subst (λ (t : List ℕ). Divides s p.entries t (rest s) (refusal_read s)) (sym f.kept)
    (subst (λ (u : List ℕ). Divides s p.entries p.kept u (refusal_read s)) (sym f.left)
    (subst (Divides s p.entries p.kept p.left) (sym f.refusal) p.divides)))

-- The run is as long as the reader says: up to the first bad record, or to the end.
pub run_length : (s : List ℕ) → length (run s) ≡ place_read s
run_length s =
    let d = divides s in
    sym (read_so s (entries_read s) (run s) (rest s) (refusal_read s) d.all d.good d.behind).place

-- A string divides into good records and a rest, which is nothing or begins with a bad record, in one way only.
pub one_division : {s : List ℕ} {es fs : List Entry} {t u v w : List ℕ} {n k : ℕ} → Divides s es t u n → Divides s fs v w k →
    (es ≡ fs) × (t ≡ v) × (u ≡ w) × (n ≡ k)
one_division d e =
    let f = found d in
    let g = found e in
    (sym f.entries ∙ g.entries, sym f.kept ∙ g.kept, sym f.left ∙ g.left, sym f.refusal ∙ g.refusal)
