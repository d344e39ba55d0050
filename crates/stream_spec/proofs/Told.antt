-- What an answer tells: the entries that it handed out, whether its bytes join the stream, and whether it is a record's refusal.
use Prim.Native.Nat.{ℕ}
use native.Mathlib.Omega.{arith}
use mathlib.Core.Path.{◌≡◌, refl, sym, ap, ◌∙◌}
use mathlib.Core.Bool.{Bool, true, false, cond}
use mathlib.Core.List.{List, [], ◌∷◌}
use mathlib.Core.Logic.{inl, inr}
use lib.Dec.{eqb}
use borrow.Author.Tests.{lt-ltb, ne_eqb}
use Rattle.transcript_spec.specs.Lists.{Lists, entries_from, entries_in, with_entries}
use Rattle.transcript_spec.specs.Reading.{Reading}
use Rattle.transcript_spec.proofs.Columns.{entries_columns, first_are_columns}
use Rattle.transcript_spec.proofs.HowFar.{EarlyRefusal}
use Rattle.stream_spec.specs.InPlainWords.{answer, handed, sent_back, Verdict, of_a_record, verdict_of}
use Rattle.stream_spec.specs.Stream.{place_of, answered}
use Rattle.stream_spec.specs.declared.Stream.{Stream}
use Rattle.stream_spec.specs.declared.Streamed.{Streamed}

-- Nothing is handed out where nothing is counted.
pub handed_none : (n place : ℕ) (st : Stream) (l : Lists) → handed (answer n 0 place st) l ≡ []
unfolding entries_from
handed_none n place st l = refl

-- All entries that are counted stand in the lists, and are handed out.
pub handed_all : (r : Reading) (l : Lists) → handed (answered r) (with_entries r.got l) ≡ r.got
handed_all r l = ap entries_in (first_are_columns r.got l) ∙ entries_columns r.got

-- ---- a reading's refusal, which is none, or 21, 22 or 23

-- A delivery that is refused with 21, 22 or 23, or not at all, is not sent back.
pub early_kept : (n : ℕ) → EarlyRefusal n → sent_back n ≡ false
early_kept n (inl z) = ap sent_back z
early_kept n (inr h) = rw (ne_eqb n 24 (λ q. omega (arith, h.1)), ne_eqb n 26 (λ q. omega (arith, h.1)))

-- the verdict with number n, at the place `from`, or 0 where n is 0
abbrev pub verdict : ℕ → ℕ → Verdict
verdict n from = record { number = n; place = place_of n from }

-- the verdict v or, where its number is 0, the later one
abbrev pub or_else : Verdict → Verdict → Verdict
or_else v later = cond (eqb v.number 0) later v

-- The verdict of the answer to a reading and of later ones is the reading's own refusal, with its place, or where it has none that of the
-- later ones.
pub early_verdict : (r : Reading) → EarlyRefusal r.refusal → (later : List Streamed) →
    verdict_of (answered r ∷ later) ≡ or_else (verdict r.refusal r.from) (verdict_of later)
unfolding verdict_of
early_verdict r (inl z) later =
    ap
    (λ (n : ℕ). cond (of_a_record n) (record { number = n; place = place_of n r.from }) (verdict_of later))
    z
    ∙ ap (λ (n : ℕ). or_else (verdict n r.from) (verdict_of later)) (sym z)
early_verdict r (inr h) later =
    let n = r.refusal in
    let tells : of_a_record n ≡ true = rw (lt-ltb 19 n (omega (arith, h.0)), lt-ltb n 24 (omega (arith, h.1))) in
    ap (λ (t : Bool). cond t (verdict n r.from) (verdict_of later)) tells
    ∙ ap (λ (t : Bool). cond t (verdict_of later) (verdict n r.from)) (sym (ne_eqb n 0 (λ q. omega (arith, h.0, q))))
