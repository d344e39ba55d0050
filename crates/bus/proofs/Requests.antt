-- A request waits from its asking until its grant, hold until its release: what asking and releasing change.
-- Done, each marks one source, and `Sources` says what that changes.
use Prim.Native.Nat.{ℕ, ◌≤◌}
use native.Mathlib.Omega.{arith}
use mathlib.Core.Path.{◌≡◌, refl, ◌∙◌}
use mathlib.Core.Bool.{Bool, true, false}
use mathlib.Core.Logic.{◌≢◌}
use borrow.Author.Tests.{le-ltb}
use Rattle.bus.specs.Order.{quiet, waits, with_source, highest, asked, granted, released}
use Rattle.bus.specs.declared.Bus.{Bus}
use Rattle.bus.proofs.Sources.{bus, each_source, set_here, set_elsewhere}
use Rattle.bus.proofs.HighestFirst.{grant_keeps_hold}
use Rattle.bus.proofs.Numbers.{ask_numbers, release_numbers}

-- A source that asked, and was not refused, waits.
pub ask_waits : (b : Bus) (s : ℕ) → (asked b s).number ≡ 0 → waits (asked b s).bus s ≡ true
unfolding asked
ask_waits b s z =
    let d = (ask_numbers b s).done.0 z in
    rw (d.1, le-ltb 4 s d.0) (set_here b s _ d.0)

-- After an asking that is accepted every source but the one that asked is as it stood.
pub ask_others : (b : Bus) (s : ℕ) → (asked b s).number ≡ 0 →
    (k : ℕ) → k ≢ s → waits (asked b s).bus k ≡ waits b k
unfolding asked
ask_others b s z k n =
    let d = (ask_numbers b s).done.0 z in
    rw (d.1, le-ltb 4 s d.0) (set_elsewhere b s _ d.0 k n)

-- After a release hold does not wait.
pub release_clears : (b : Bus) → waits (released b).bus 0 ≡ false
unfolding released waits with_source
release_clears b = go b.hold b.screen b.dram b.host b.processor
  where
    go : (h s r o p : Bool) → waits (released (bus h s r o p)).bus 0 ≡ false
    go true s r o p = refl
    go false s r o p = refl

-- After a release every other source is as it stood.
pub release_others : (b : Bus) (k : ℕ) → k ≢ 0 → waits (released b).bus k ≡ waits b k
unfolding released
release_others b k n = go b.hold b.screen b.dram b.host b.processor
  where
    go : (h s r o p : Bool) → waits (released (bus h s r o p)).bus k ≡ waits (bus h s r o p) k
    go true s r o p = set_elsewhere _ 0 _ (omega arith) k n
    go false s r o p = refl

-- A hold that waits still does after any grant, its own too: asking for it again is 7, and releasing it is done.
pub hold_after_grant : (b : Bus) → waits b 0 ≡ true →
    ((asked (granted b).bus 0).number ≡ 7) × ((released (granted b).bus).number ≡ 0)
hold_after_grant b w =
    let v = grant_keeps_hold b ∙ w in
    ((ask_numbers (granted b).bus 0).already.1 v, (release_numbers (granted b).bus).done.1 v)

-- A lone request after reset is the one that is granted.
pub lone_request : (s : ℕ) → s ≤ 4 →
    ((granted (asked quiet s).bus).number ≡ 0) × ((granted (asked quiet s).bus).source ≡ s)
unfolding asked granted highest waits with_source
lone_request =
    each_source
    (λ s. s ≤ 4 → ((granted (asked quiet s).bus).number ≡ 0) × ((granted (asked quiet s).bus).source ≡ s))
    (λ _. (refl, refl))
    (λ _. (refl, refl))
    (λ _. (refl, refl))
    (λ _. (refl, refl))
    (λ _. (refl, refl))
    (λ s l h. absurd (omega arith))
