-- `listing::pieces::list_piece` meets its contract: it lists the bytes that fit.
use Prim.Native.Nat.{ℕ}
use native.Mathlib.Omega.{arith}
use mathlib.Core.Path.{◌≡◌, sym, ap, ◌∙◌}
use mathlib.Core.List.{List}
use lib.ListN.{length, take}
use lib.Seq.{length-take-le}
use Rattle.listing.specs.Listing.{Listing, start, listing, listed, with_text, fitting}
use Rattle.listing.proofs.Fitting.{taken_is, fits}
use Rattle.listing.proofs.pieces.list_piece.Goals as goal

pub slice_bounds-list_lines-end : goal.slice_bounds-list_lines-end
slice_bounds-list_lines-end c =
    let input = c.args.input.now in
    sym (length-take-le c.count_fitting-n.result input (omega (arith, c.count_fitting-n.ensures)))

pub list_lines-requires : goal.list_lines-requires
list_lines-requires c =
    let a = c.args in
    let known = c.count_fitting-n.ensures in
    let n = length-take-le c.count_fitting-n.result a.input.now (omega (arith, known)) in
    omega (arith, n, known, fits (length a.output.now))

pub returns : goal.returns
returns c =
    let a = c.args in
    let l = c.list_lines.ensures in
    let begin : Listing = start (record { registers = a.r; memory = a.memory.now }) in
    let same : take c.count_fitting-n.result a.input.now ≡ take (fitting (length a.output.now)) a.input.now =
    ap (λ (k : ℕ). take k a.input.now) c.count_fitting-n.ensures ∙ taken_is (fitting (length a.output.now))
    a.input.now
    in
    record {
      outcome = l.outcome ∙ ap (λ (t : List ℕ). listed (listing begin t)) same;
      memory = l.memory ∙ ap (λ (t : List ℕ). (listing begin t).machine.memory) same;
      output = l.output ∙ ap (λ (t : List ℕ). with_text a.output.now (listing begin t).text) same;
    }
