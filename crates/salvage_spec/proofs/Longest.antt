-- The run is the longest: every front of the string that is whole good records is a front of the run; and the record behind it, if any, is
-- bad, as the reader says at that place.
use Prim.Native.Nat.{ℕ, ◌≤◌}
use native.Mathlib.Omega.{arith}
use mathlib.Core.Path.{◌≡◌, refl, sym, ap, ◌∙◌}
use mathlib.Core.List.{List, [], ◌++◌, append_assoc}
use mathlib.Core.Logic.{◌≢◌, ◌↔◌}
use lib.ListN.{length, length-append}
use Rattle.transcript_spec.specs.InPlainWords.{GoodRecord, a_read, a_write, Sound, nothing, and_more, BadRecord, ReadAs}
use Rattle.transcript_spec.specs.InPlainWords as format
use Rattle.transcript_spec.specs.Reading.{entries_read, refusal_read, read_answer}
use Rattle.transcript_spec.specs.declared.Entry.{Entry}
use Rattle.transcript_spec.proofs.Divided.{has_a_byte, sound_joined}
use Rattle.transcript_spec.proofs.ReadExactly.{reads_exactly}
use Rattle.transcript_spec.proofs.ThroughRecords.{bad_record_number}
use Rattle.salvage_spec.specs.InPlainWords.{Rest, none_left, next_bad}
use Rattle.salvage_spec.specs.Salvage.{run, rest}
use Rattle.salvage_spec.proofs.Divides.{Found, found, divides}

-- ---- fronts
-- Good records are no more than their bytes.
pub no_more_than_bytes : {t : List ℕ} {es : List Entry} → Sound t es → length es ≤ length t
no_more_than_bytes nothing = omega arith
no_more_than_bytes (and_more {r} {s} g q) =
    let a = record_has_a_byte g in
    let n = length-append r s in
    let k = no_more_than_bytes q in
    omega arith
  where
    record_has_a_byte : {r : List ℕ} {e : Entry} → GoodRecord r e → 1 ≤ length r
    record_has_a_byte (a_read {s} g z h) = has_a_byte s h.spelled
    record_has_a_byte (a_write {h} {w} g o p q) =
        let a = has_a_byte h p.spelled in
        let n = length-append h w in
        omega arith

-- Good records in front change nothing of what follows: salvage keeps them, and goes on behind them as if they were not there.
pub good_front : (t v : List ℕ) {es : List Entry} → Sound t es →
    Found (t ++ v) (es ++ entries_read v) (t ++ run v) (rest v) (refusal_read v)
good_front t v q =
    let d = divides v in
    found
    (record {
      all = ap (λ (l : List ℕ). t ++ l) d.all ∙ sym (append_assoc t (run v) (rest v));
      good = sound_joined q d.good;
      behind = d.behind;
    })

-- Each front of the string that is good records is a front of the run, and no longer.
pub longest : (s t v : List ℕ) {es : List Entry} → s ≡ t ++ v → Sound t es → (length t ≤ length (run s)) × (run s ≡ t ++ run v)
longest s t v e q =
    let front : run s ≡ t ++ run v = ap run e ∙ (good_front t v q).kept in
    let n = ap length front ∙ length-append t (run v) in
    (omega arith, front)

-- ---- what is behind the run
rest_bad : {u : List ℕ} {n : ℕ} → Rest u n → u ≢ [] → BadRecord u n
rest_bad none_left d = absurd (d refl)
rest_bad (next_bad b) d = b

rest_stopped : {u : List ℕ} {n : ℕ} → Rest u n → n ≢ 0 → BadRecord u n
rest_stopped none_left d = absurd (d refl)
rest_stopped (next_bad b) d = b

rest_empty : {u : List ℕ} {n : ℕ} → Rest u n → n ≡ 0 → u ≡ []
rest_empty none_left z = refl
rest_empty (next_bad {u} {n} b) z = absurd (bad_record_number u n b z)

module _ (s : List ℕ) where
  -- The next record behind the run, if any, is bad, with the refusal that stopped the salvage.
  pub next_is_bad : rest s ≢ [] → BadRecord (rest s) (refusal_read s)
  next_is_bad = rest_bad (divides s).behind

  -- If a refusal stopped the salvage, the next record behind the run is bad, with that refusal.
  pub stopped_is_bad : refusal_read s ≢ 0 → BadRecord (rest s) (refusal_read s)
  stopped_is_bad = rest_stopped (divides s).behind

  -- Nothing is left of a string exactly if no refusal stopped the salvage.
  pub left_exactly : rest s ≡ [] ↔ (refusal_read s ≡ 0)
  left_exactly =
      let d = divides s in (
        λ e. (found (record { all = d.all ∙ ap (λ (l : List ℕ). run s ++ l) e; good = d.good; behind = none_left })).refusal,
        rest_empty d.behind,
      )

  -- If a refusal stopped the salvage, the reader refuses the whole string with it, whatever room its lists have, and names the place where
  -- the run ends.
  pub stopped_as_read : (room : ℕ) → refusal_read s ≢ 0 → read_answer s room ≡ format.answer (refusal_read s) 0 (length (run s))
  stopped_as_read room d =
      let x = divides s in
      (reads_exactly s room (format.answer (refusal_read s) 0 (length (run s)))).1
      (format.ReadAs.bad_record x.all x.good (stopped_is_bad d))

  -- Of the rest alone nothing is kept, all of it is left, and the same refusal stops the salvage.
  pub rest_alone : Found (rest s) [] [] (rest s) (refusal_read s)
  rest_alone = found (record { all = refl; good = nothing; behind = (divides s).behind })
