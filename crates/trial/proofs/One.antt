-- Any two outcomes that `RanLines` allows are one: it carries out the lines from the first on, as long as they are calls.
use Prim.Native.Nat.{ℕ, zero, suc, ◌*◌, ◌<◌}
use native.Mathlib.Omega.{arith}
use mathlib.Core.Bool.{true, false≢true}
use mathlib.Core.List.{List}
use mathlib.Core.Logic.{⊎_elim, ◌≢◌}
use mathlib.Core.Path.{◌≡◌, sym, ap, ◌∙◌}
use lib.ListN.{take}
use Rattle.std.proofs.lemmas.Bool.{and_parts, cases_eq}
use Rattle.script.specs.Script.{is_call}
use Rattle.trial.specs.Lines.{World, world, line_at, all_calls, after_lines, printed, RanLines}
use Rattle.trial.specs.declared.turns.Ran.{Ran}

-- where the first n lines are calls, each of them is
each_call : (s : List ℕ) (n k : ℕ) → k < n → all_calls s n ≡ true → is_call (line_at s k) ≡ true
unfolding all_calls
each_call s zero k h e = absurd (omega (arith, h))
each_call s (suc n) k h e =
    let p = and_parts (all_calls s n) (is_call (line_at s n)) e in
    ⊎_elim
    (λ (q : k ≡ n). ap (λ (j : ℕ). is_call (line_at s j)) q ∙ p.1)
    (λ (q : k ≢ n). each_call s n k (omega (arith, h, q)) p.0)
    (cases_eq k n)

-- of two runs neither carries out fewer lines
no_fewer : {w : World} {s : List ℕ} {r q : Ran} {room list output room' list' output' : List ℕ} →
    RanLines w s r room list output → RanLines w s q room' list' output' → r.calls < q.calls → ⊥
no_fewer {w} {s} {r} {q} a b h =
    false≢true (sym (a.cut (omega (arith, h, b.most))) ∙ each_call s q.calls r.calls h b.calls)

-- Carrying out the lines of a piece of the input has one outcome: the lines carried out, the world left, the text printed.
pub one_run : {w : World} {s : List ℕ} {r q : Ran} {room list output room' list' output' : List ℕ} →
    RanLines w s r room list output → RanLines w s q room' list' output' →
    (r.calls ≡ q.calls) × (world r.state room list ≡ world q.state room' list')
    × (take (47 * r.calls) output ≡ take (47 * q.calls) output')
one_run {w} {s} {r} {q} a b =
    let same : r.calls ≡ q.calls = omega (arith, no_fewer a b, no_fewer b a) in (
      same,
      a.left ∙ ap (after_lines w s) same ∙ sym b.left,
      a.written ∙ ap (printed w s) same ∙ sym b.written,
    )
