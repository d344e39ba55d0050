-- What salvage leaves, by what the scan found: refused, with the bytes as they were, or the run written.
use Prim.Native.Nat.{ℕ, ◌-◌, ◌≤◌, ◌<◌}
use native.Mathlib.Omega.{arith}
use mathlib.Core.Path.{◌≡◌, sym, ap, ◌∙◌}
use mathlib.Core.List.{List, ◌++◌}
use lib.ListN.{length, take, drop, length-append}
use lib.Seq.{take-length, length-take-le}
use borrow.Author.Tests.{lt-ltb, le-ltb}
use Rattle.transcript_spec.specs.Reading.{entries_read, refusal_read}
use Rattle.transcript_scan.specs.Scan.{scanned}
use Rattle.transcript_scan.specs.declared.scanning.Scanned.{Scanned}
use Rattle.salvage_spec.specs.Salvage.{run, rest, report, salvage_answer, bytes_after, SalvagedTranscript}
use Rattle.salvage_spec.proofs.Divides.{divides, run_length}

module _ (s : List ℕ) {f : Scanned} (e : f ≡ scanned s) where
  -- The scan ends where the run does.
  pub ends_with_run : f.place ≡ length (run s)
  ends_with_run = ap (λ (x : Scanned). x.place) e ∙ sym (run_length s)

  -- Where the scan ends is within the string.
  pub within : f.place ≤ length s
  within =
      let n = ap length (divides s).all ∙ length-append (run s) (rest s) in
      omega (arith, ends_with_run, n)

  -- As many bytes are handed on to be copied as there are up to where the scan ends.
  pub as_long : f.place ≡ length (take f.place s)
  as_long = sym (length-take-le f.place s within)

  rest_length : length (rest s) ≡ length s - f.place
  rest_length =
      let n = ap length (divides s).all ∙ length-append (run s) (rest s) in
      omega (arith, ends_with_run, n)

  module _ (out : List ℕ) where
    -- Where the run does not fit, the answer is 24 and zeros, and nothing is written.
    pub too_small : length out < f.place → SalvagedTranscript s out (report 24 0 0 0) out
    unfolding salvage_answer bytes_after
    too_small h =
        let t = lt-ltb (length out) (length (run s)) (rw ends_with_run at h) in
        record { answer = rw t; bytes = rw t }

    -- Where the run fits, it is written into the first bytes, and the answer tells what the scan found.
    pub written : f.place ≤ length out → {out' : List ℕ} →
        out' ≡ take (length (take f.place s)) (take f.place s) ++ drop (length (take f.place s)) out →
        SalvagedTranscript s out (report 0 f.entries (length s - f.place) f.refusal) out'
    unfolding salvage_answer bytes_after
    written h {out'} w =
        let t = le-ltb (length out) (length (run s)) (rw ends_with_run at h) in
        let parts : report 0 f.entries (length s - f.place) f.refusal ≡
        report 0 (length (entries_read s)) (length (rest s)) (refusal_read s) =
        ap (λ (x : Scanned). report 0 x.entries (length s - f.place) x.refusal) e ∙
        ap (λ (n : ℕ). report 0 (length (entries_read s)) n (refusal_read s)) (sym rest_length) in
        record {
          answer = rw t parts;
          bytes =
              rw t
              (w ∙
              ap (λ (l : List ℕ). l ++ drop (length (take f.place s)) out) (take-length (take f.place s)) ∙
              ap (λ (x : Scanned). take x.place s ++ drop (length (take x.place s)) out) e);
        }
