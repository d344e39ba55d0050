-- `salvage::salvage_transcript` meets its contract: what the scan found fits or not, and is written or not.
use lib.Seq.{take-length, length-take-le}
use Rattle.std.proofs.Common.{ℕ, ◌≡◌, sym, ap, ◌∙◌, List, ◌++◌, length, take, drop}
use Rattle.salvage.proofs.Outcomes.{within, as_long, too_small, written}
use Rattle.salvage.proofs.salvage_transcript.Goals as goal

-- what is copied stands before what stays
copied : (n : ℕ) (s out : List ℕ) {new : List ℕ} → new ≡ take n s → n ≡ length (take n s) →
    new ++ drop n out ≡ take (length (take n s)) (take n s) ++ drop (length (take n s)) out
copied n s out e h =
    ap (λ (l : List ℕ). l ++ drop n out) (e ∙ sym (take-length (take n s))) ∙
    ap (λ (m : ℕ). take (length (take n s)) (take n s) ++ drop m out) h

pub returns-then-sound-n : goal.returns-then-sound-n
returns-then-sound-n c = rw (c.from.ensures) (too_small _ c.scan-found.ensures _ c.if-sound-n.true)

pub slice_bounds-copy_from_slice-end-3 : goal.slice_bounds-copy_from_slice-end-3
slice_bounds-copy_from_slice-end-3 c = as_long _ c.scan-found.ensures

pub copy_from_slice-requires : goal.copy_from_slice-requires
copy_from_slice-requires c = length-take-le _ _ c.if-sound-n.false ∙ as_long _ c.scan-found.ensures

pub overflow_sub-left : goal.overflow_sub-left
overflow_sub-left c = within _ c.scan-found.ensures

pub returns : goal.returns
returns c =
    written _ c.scan-found.ensures _ c.if-sound-n.false
    (copied _ _ _ c.copy_from_slice.ensures.after (as_long _ c.scan-found.ensures))
