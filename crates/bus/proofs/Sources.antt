-- What the definitions of waiting say: each of the five sources waits or not by itself, and no other ever waits.
-- A law about any source takes its number apart: 0 to 4 compute, and what lies above never waits.
use Prim.Native.Nat.{ℕ, zero, suc, ◌<◌, ◌≤◌}
use native.Mathlib.Omega.{arith}
use mathlib.Core.Path.{◌≡◌, refl, sym, ◌∙◌}
use mathlib.Core.Bool.{Bool, true, false, false≢true, cond}
use mathlib.Core.Logic.{⊎_elim, ◌≢◌, Ne-symm}
use lib.Dec.{eqb, ltb}
use borrow.Author.Tests.{eq-eqb, ne_eqb, ltb-true, ltb-false}
use Rattle.std.proofs.lemmas.Bool.{cases_Bool}
use Rattle.bus.specs.Order.{quiet, waits, with_source}
use Rattle.bus.specs.declared.Bus.{Bus}

-- the record of who waits, for laws that go by cases on it
abbrev pub bus : Bool → Bool → Bool → Bool → Bool → Bus
bus h s r o p = record { hold = h; screen = s; dram = r; host = o; processor = p }

-- The sources by their numbers: 0 hold, 1 screen refresh, 2 DRAM refresh, 3 host, 4 processor.
pub source_named : (b : Bus) →
    (waits b 0 ≡ b.hold) × (waits b 1 ≡ b.screen) × (waits b 2 ≡ b.dram) ×
    (waits b 3 ≡ b.host) × (waits b 4 ≡ b.processor)
unfolding waits
source_named b = (refl, refl, refl, refl, refl)

-- No sixth source waits.
pub none_beyond : (b : Bus) (s : ℕ) → 4 < s → waits b s ≡ false
unfolding waits
none_beyond b s h =
    rw (ne_eqb s 0 (omega arith), ne_eqb s 1 (omega arith), ne_eqb s 2 (omega arith))
    (rw (ne_eqb s 3 (omega arith), ne_eqb s 4 (omega arith)))

-- Whoever waits is one of the five.
pub waits_listed : (b : Bus) (s : ℕ) → waits b s ≡ true → s ≤ 4
waits_listed b s w = ⊎_elim beyond (ltb-false 4 s) (cases_Bool (ltb 4 s))
  where
    beyond : ltb 4 s ≡ true → s ≤ 4
    beyond l = absurd (false≢true (sym (none_beyond b s (ltb-true 4 s l)) ∙ w))

-- What holds of 0 to 4, and of each number above, holds of every source.
pub each_source : (P : ℕ → Type 0) → P 0 → P 1 → P 2 → P 3 → P 4 → ((s : ℕ) → 4 < s → P s) → (s : ℕ) → P s
each_source P p0 p1 p2 p3 p4 more zero = p0
each_source P p0 p1 p2 p3 p4 more (suc zero) = p1
each_source P p0 p1 p2 p3 p4 more (suc (suc zero)) = p2
each_source P p0 p1 p2 p3 p4 more (suc (suc (suc zero))) = p3
each_source P p0 p1 p2 p3 p4 more (suc (suc (suc (suc zero)))) = p4
each_source P p0 p1 p2 p3 p4 more (suc (suc (suc (suc (suc s))))) = more (suc (suc (suc (suc (suc s))))) (omega arith)

-- Two records in which the same sources wait are one.
pub same_waiting : (b c : Bus) → ((s : ℕ) → waits b s ≡ waits c s) → b ≡ c
unfolding waits
same_waiting b c h = same (h 0) (h 1) (h 2) (h 3) (h 4)
  where
    same : {h s r o p h' s' r' o' p' : Bool} → h ≡ h' → s ≡ s' → r ≡ r' → o ≡ o' → p ≡ p' →
        bus h s r o p ≡ bus h' s' r' o' p'
    same eh es er eo ep = cc

-- After reset no source waits.
pub quiet_waits : (s : ℕ) → waits quiet s ≡ false
unfolding waits
quiet_waits = each_source (λ s. waits quiet s ≡ false) refl refl refl refl refl (none_beyond quiet)

-- ---- marking a source changes that one alone
set_any : (b : Bus) (s : ℕ) (v : Bool) → s ≤ 4 →
    (k : ℕ) → waits (with_source b s v) k ≡ cond (eqb s k) v (waits b k)
unfolding waits with_source
set_any b s v h =
    each_source
    (λ k. waits (with_source b s v) k ≡ cond (eqb s k) v (waits b k))
    refl
    refl
    refl
    refl
    refl
    (λ k l. none_beyond (with_source b s v) k l ∙ rw (ne_eqb s k (omega arith)) (sym (none_beyond b k l)))

module _ (b : Bus) (s : ℕ) (v : Bool) (h : s ≤ 4) where
  -- A source that is marked waits, or does not, as it was marked.
  pub set_here : waits (with_source b s v) s ≡ v
  set_here = set_any b s v h s ∙ rw (eq-eqb s s refl)

  -- Marking a source leaves every other one as it stood.
  pub set_elsewhere : (k : ℕ) → k ≢ s → waits (with_source b s v) k ≡ waits b k
  set_elsewhere k d = set_any b s v h k ∙ rw (ne_eqb s k (Ne-symm d))
