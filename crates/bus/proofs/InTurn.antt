-- No source is passed over for ever: where hold does not wait and nothing is asked meanwhile, a source that waits is
-- granted within as many grants as its number says. By induction on the grants: one of another source leaves only lower ones.
use Prim.Native.Nat.{ℕ, zero, suc, ◌+◌, ◌<◌, ◌≤◌}
use native.Mathlib.Omega.{arith}
use mathlib.Core.Path.{◌≡◌, sym, subst, ◌∙◌}
use mathlib.Core.Bool.{true, false, false≢true}
use mathlib.Core.Logic.{⊎_elim, ◌≢◌, Ne-symm}
use lib.Dec.{eqb}
use borrow.Author.Tests.{eqb-true, eqb-false}
use Rattle.std.proofs.lemmas.Bool.{cases_Bool}
use Rattle.bus.specs.Order.{waits, granted}
use Rattle.bus.specs.declared.Bus.{Bus}
use Rattle.bus.proofs.HighestFirst.{grant_done, grant_keeps_hold, lower_wait}
use Rattle.bus.proofs.Numbers.{grant_numbers}

-- source s is granted by one of the next n grants, with nothing asked between them
pub data GrantedWithin : ℕ → Bus → ℕ → Type 0 where
  now : {n s : ℕ} {b : Bus} → (granted b).number ≡ 0 → (granted b).source ≡ s → GrantedWithin (suc n) b s
  later : {n s : ℕ} {b : Bus} → GrantedWithin n (granted b).bus s → GrantedWithin (suc n) b s

-- Where hold does not wait, whoever waits is another.
not_hold : (b : Bus) → waits b 0 ≡ false → (t : ℕ) → waits b t ≡ true → t ≢ 0
not_hold b h t w e = false≢true (sym h ∙ subst (λ (k : ℕ). waits b k ≡ true) e w)

-- The same where no source below m waits: each grant of another source raises m.
in_turn : (n m s : ℕ) (b : Bus) → ((t : ℕ) → waits b t ≡ true → m ≤ t) → s < m + n →
    waits b 0 ≡ false → waits b s ≡ true → GrantedWithin n b s
in_turn zero m s b least near h w = absurd (omega (arith, least s w))
in_turn (suc n) m s b least near h w =
    let z = (grant_numbers b).done.1 (s, w) in
    let g = grant_done b z in
    let lower = lower_wait g (not_hold b h _ g.waiting) in
    let fewer : (t : ℕ) → waits (granted b).bus t ≡ true → suc m ≤ t = λ t v. omega (arith, least _ g.waiting, lower t v) in
    let rest = in_turn n (suc m) s (granted b).bus fewer (omega arith) (grant_keeps_hold b ∙ h) in
    ⊎_elim
    (λ e. now z (eqb-true _ s e))
    (λ e. later (rest (g.others s (Ne-symm (eqb-false _ s e)) ∙ w)))
    (cases_Bool (eqb (granted b).source s))

-- Source s, if it waits and hold does not, and nothing is asked meanwhile, is granted within s grants.
pub granted_in_turn : (b : Bus) (s : ℕ) → waits b 0 ≡ false → waits b s ≡ true → GrantedWithin s b s
granted_in_turn b s h w = in_turn s 1 s b (λ t v. omega (arith, not_hold b h t v)) (omega arith) h w
