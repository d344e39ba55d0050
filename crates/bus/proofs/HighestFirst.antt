-- Document 01, "A grant answers the highest waiting source and clears it, except hold, which stays until released".
-- First what `highest` says, by cases on who waits; a grant's laws then follow from it and from marking one source alone.
use Prim.Native.Nat.{ℕ, zero, suc, ◌<◌, ◌≤◌}
use native.Mathlib.Omega.{arith}
use mathlib.Core.Path.{◌≡◌, refl, sym, subst, ◌∙◌}
use mathlib.Core.Bool.{Bool, true, false, false≢true}
use mathlib.Core.Logic.{⊎_elim, ◌↔◌, ◌≢◌, Ne-symm}
use lib.Dec.{eqb, ltb}
use borrow.Author.Tests.{eq-eqb, ne_eqb, eqb-true, eqb-false, ltb-true, ltb-false}
use Rattle.std.proofs.lemmas.Bool.{cases_Bool, false_from_ne_true}
use Rattle.bus.specs.Order.{waits, highest, granted}
use Rattle.bus.specs.declared.Bus.{Bus}
use Rattle.bus.proofs.Sources.{bus, waits_listed, set_here, set_elsewhere}

-- ---- the highest source that waits
-- No source above the highest waits: whoever waits is no higher.
pub none_higher : (b : Bus) (k : ℕ) → waits b k ≡ true → highest b ≤ k
unfolding waits highest
none_higher b = go b.hold b.screen b.dram b.host b.processor
  where
    go : (h s r o p : Bool) (k : ℕ) → waits (bus h s r o p) k ≡ true → highest (bus h s r o p) ≤ k
    go true s r o p k w = omega arith
    go false s r o p zero w = absurd (false≢true w)
    go false true r o p (suc k) w = omega arith
    go false false r o p (suc zero) w = absurd (false≢true w)
    go false false true o p (suc (suc k)) w = omega arith
    go false false false o p (suc (suc zero)) w = absurd (false≢true w)
    go false false false true p (suc (suc (suc k))) w = omega arith
    go false false false false p (suc (suc (suc zero))) w = absurd (false≢true w)
    go false false false false true (suc (suc (suc (suc k)))) w = omega arith
    go false false false false false (suc (suc (suc (suc zero)))) w = absurd (false≢true w)
    go false false false false false (suc (suc (suc (suc (suc k))))) w = omega arith

-- The highest source does wait; 5 stands for none.
pub highest_waits : (b : Bus) → highest b ≢ 5 → waits b (highest b) ≡ true
unfolding waits highest
highest_waits b = go b.hold b.screen b.dram b.host b.processor
  where
    go : (h s r o p : Bool) → highest (bus h s r o p) ≢ 5 → waits (bus h s r o p) (highest (bus h s r o p)) ≡ true
    go true s r o p n = refl
    go false true r o p n = refl
    go false false true o p n = refl
    go false false false true p n = refl
    go false false false false true n = refl
    go false false false false false n = absurd (n refl)

-- There is no highest waiting source, for which 5 stands, exactly if no source waits.
pub none_highest : (b : Bus) → highest b ≡ 5 ↔ ((s : ℕ) → waits b s ≡ false)
none_highest b = (
  λ e s. false_from_ne_true _ (λ w. omega (arith, e, none_higher b s w, waits_listed b s w)),
  λ q. ⊎_elim
      (eqb-true _ _)
      (λ e. absurd (false≢true (sym (q _) ∙ highest_waits b (eqb-false _ _ e))))
      (cases_Bool (eqb (highest b) 5)),
)

-- ---- a grant
-- The source that is granted waits, and no higher one does. It waits no more, but for hold, which leaves all as it stood;
-- every other source is as it stood.
pub record Grants (b : Bus) (source : ℕ) (left : Bus) : Type 0 where
  pub waiting : waits b source ≡ true
  pub first : (k : ℕ) → k < source → waits b k ≡ false
  pub hold_stays : source ≡ 0 → left ≡ b
  pub cleared : source ≢ 0 → waits left source ≡ false
  pub others : (k : ℕ) → k ≢ source → waits left k ≡ waits b k

module _ (b : Bus) where
  -- Where some source waits, the definition's choices come out so.
  some_granted : highest b ≢ 5 → Grants b (granted b).source (granted b).bus
  unfolding granted
  some_granted n =
      let w = highest_waits b n in
      let l = waits_listed b _ w in
      rw (ne_eqb (highest b) 5 n)
      (record {
        waiting = w;
        first = λ k l. false_from_ne_true _ (λ w. omega (arith, none_higher b k w));
        hold_stays = λ e. rw (eq-eqb _ 0 e);
        cleared = λ z. rw (ne_eqb _ 0 z) (set_here b _ _ l);
        others = λ k d. ⊎_elim (λ e. rw e) (λ e. rw e (set_elsewhere b _ _ l k d)) (cases_Bool (eqb (highest b) 0));
      })

  -- A grant that is done answers a waiting source, and none higher waits; that source waits no more unless it is hold, and all others stay
  -- (`Grants`).
  pub grant_done : (granted b).number ≡ 0 → Grants b (granted b).source (granted b).bus
  unfolding granted
  grant_done z = some_granted (λ e. omega (arith, rw (eq-eqb (highest b) 5 e) at z))

  -- Hold stays until it is released: no grant changes whether it waits.
  pub grant_keeps_hold : waits (granted b).bus 0 ≡ waits b 0
  unfolding granted
  grant_keeps_hold = ⊎_elim (λ e. rw e) (λ e. some (some_granted (eqb-false _ 5 e))) (cases_Bool (eqb (highest b) 5))
    where
      some : Grants b (granted b).source (granted b).bus → waits (granted b).bus 0 ≡ waits b 0
      some g =
          ⊎_elim
          (λ z. rw (g.hold_stays (eqb-true _ 0 z)))
          (λ z. g.others 0 (Ne-symm (eqb-false _ 0 z)))
          (cases_Bool (eqb (granted b).source 0))

-- After a grant, but of hold, only lower sources wait.
pub lower_wait : {b left : Bus} {s : ℕ} → Grants b s left → s ≢ 0 → (t : ℕ) → waits left t ≡ true → s < t
lower_wait {b} {left} {s} g h t w =
    ⊎_elim (ltb-true s t) (λ l. absurd (earlier (ltb-false s t l))) (cases_Bool (ltb s t))
  where
    earlier : t ≤ s → ⊥
    earlier l =
        ⊎_elim
        (λ e. false≢true (sym (g.cleared h) ∙ subst (λ (k : ℕ). waits left k ≡ true) (eqb-true t s e) w))
        (λ e. false≢true (sym (g.first t (omega (arith, eqb-false t s e))) ∙ sym (g.others t (eqb-false t s e)) ∙ w))
        (cases_Bool (eqb t s))

-- Grants in a row, with nothing asked between them, go down the order from 1 to 4.
pub grants_go_down : (b : Bus) →
    (granted b).number ≡ 0 → (granted b).source ≢ 0 → (granted (granted b).bus).number ≡ 0 →
    (granted b).source < (granted (granted b).bus).source
grants_go_down b z h z' = lower_wait (grant_done b z) h _ (grant_done (granted b).bus z').waiting
