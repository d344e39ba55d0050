-- How many bytes the contract of salvage leaves.
use Rattle.std.proofs.Common.{◌≡◌, ℕ, List, length, length-take, length-drop, ap, ⊎_elim, arith}
use Rattle.std.proofs.lemmas.Bool.{cases_eq}
use Rattle.salvage_spec.specs.Salvage.{SalvagedTranscript}
use Rattle.salvage_spec.specs.declared.Salvaged.{Salvaged}
use Rattle.salvage_spec.proofs.Promised.{salvage_refused, salvage_done}

module _ {s out : List ℕ} {o : Salvaged} {out' : List ℕ} (p : SalvagedTranscript s out o out') where
  -- Whatever salvage answers, there are as many bytes as were lent.
  pub as_many_bytes : length out' ≡ length out
  as_many_bytes = ⊎_elim written_over (λ d. ap length (salvage_refused p d).1) (cases_eq o.number 0)
    where
      written_over : o.number ≡ 0 → length out' ≡ length out
      written_over z =
          let x = salvage_done p z in
          let n = length x.kept in
          let front = ap length x.written in
          let behind = ap length x.later in
          let t = length-take n out' in
          let d = length-drop n out' in
          let e = length-drop n out in
          omega (arith, x.fits)
