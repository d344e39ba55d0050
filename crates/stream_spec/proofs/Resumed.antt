-- A reading that goes on from the stream that it has come to: what is heard from there is what the reading would have read on.
use Prim.Native.Nat.{ℕ}
use mathlib.Core.Path.{◌≡◌, sym, ap, ◌∙◌}
use mathlib.Core.Bool.{Bool, true, false, not}
use mathlib.Core.List.{List, [], ◌++◌}
use mathlib.Core.Logic.{◌≢◌}
use lib.Dec.{eqb}
use borrow.Author.Tests.{eq-eqb, ne_eqb, eqb-true, eqb-false}
use Rattle.transcript_spec.specs.Reading.{Reading, at, feeds}
use Rattle.transcript_spec.specs.declared.Entry.{Entry}
use Rattle.transcript_spec.proofs.Elsewhere.{reads_elsewhere}
use Rattle.stream_spec.specs.Stream.{heard, standing}

-- a reading with entries before its own
abbrev pub behind : List Entry → Reading → Reading
behind es r = at (es ++ r.got) r.from r.next r.part r.refusal

-- What is heard from the stream that a reading has come to is what the reading reads on, if it is not refused.
pub resumes : (r : Reading) (s : List ℕ) → r.refusal ≡ 0 → feeds r s ≡ behind r.got (heard (standing r) s)
resumes r s z =
    ap (λ (n : ℕ). feeds (at r.got r.from r.next r.part n) s) z
    ∙ reads_elsewhere r.got r.from r.next r.part s
    ∙ ap (behind r.got) (sym (reads_elsewhere [] r.from r.next r.part s))

-- ---- a stream has ended exactly if the reading is refused

-- The stream of a reading that is not refused goes on.
pub open_if_good : (r : Reading) → r.refusal ≡ 0 → (standing r).ended ≡ false
open_if_good r z = ap not (eq-eqb r.refusal 0 z)

-- The stream of a reading that is refused has ended.
pub ended_if_bad : (r : Reading) → r.refusal ≢ 0 → (standing r).ended ≡ true
ended_if_bad r d = ap not (ne_eqb r.refusal 0 d)

not_back : (b : Bool) {c : Bool} → not b ≡ c → b ≡ not c
not_back true e = ap not e
not_back false e = ap not e

-- Where the stream goes on, its reading is not refused.
pub good_if_open : (r : Reading) → (standing r).ended ≡ false → r.refusal ≡ 0
good_if_open r e = eqb-true r.refusal 0 (not_back (eqb r.refusal 0) e)

-- Where the stream has ended, its reading is refused.
pub bad_if_ended : (r : Reading) → (standing r).ended ≡ true → r.refusal ≢ 0
bad_if_ended r e = eqb-false r.refusal 0 (not_back (eqb r.refusal 0) e)
