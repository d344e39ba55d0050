-- `input::filling::fill` meets its contract: the part behind the first bytes is lent, so they stay.
use Prim.Native.Nat.{ℕ, ◌+◌, ◌-◌, ◌<◌, ◌≤◌}
use native.Mathlib.Omega.{arith}
use mathlib.Core.Bool.{true≢false}
use mathlib.Core.List.{List}
use mathlib.Core.Path.{◌≡◌, sym, ap, ◌∙◌}
use lib.ListN.{length, take}
use lib.Seq.{length-take-le, take_at}
use borrow.Author.Rules.{rules}
use Rattle.std.specs.Prelude.{Result, Ok, Err, is_err, IsErr}
use Rattle.input.specs.Filling.{answered, there, FilledBehind}
use Rattle.input.specs.declared.Unread.{Unread}
use Rattle.input.proofs.filling.fill.Goals as goal

-- what a read's answer means lies within the room, and a failure brings nothing
filled : {E : Type 0} {held : ℕ} {b b' : List ℕ} {r : Result ℕ Unread} (z : Result ℕ E) → held < length b →
    take held b' ≡ take held b → length b' ≡ length b → r ≡ answered z held (length b' - held) → FilledBehind b held r b'
unfolding answered
filled {E = E} {held = held} {b = b} {b' = b'} {r = r} z room first as_long e =
    let known = bounds z e in
    record {
      first = first;
      as_long = as_long;
      behind = known.0;
      within = λ h. omega (arith, room, as_long, known.1);
      failed_none = known.2;
      no_room = λ h. absurd (omega (arith, h, room));
    }
  where
    bounds : (z : Result ℕ E) → r ≡ answered z held (length b' - held) →
        (held ≤ there r) × (there r ≤ held + (length b' - held)) × (IsErr r → there r ≡ held)
    bounds (Ok k) e =
        let all = ap there e in
        (omega (arith, all), omega (arith, all), λ f. absurd (true≢false (sym f ∙ ap (λ (x : Result ℕ Unread). is_err x) e)))
    bounds (Err k) e =
        let all = ap there e in
        (omega (arith, all), omega (arith, all), λ f. all)

pub returns : goal.returns
returns c =
    let held = c.args.held in
    let buffer = c.args.buffer.now in
    filled
    _
    c.if-buffer-held.false
    (take_at (take held buffer) _ held (length-take-le held buffer (omega (arith, c.if-buffer-held.false))))
    (search rules)
    c.judge.ensures
