-- Demand 1 for the bus: each number of asking, granting and releasing "when, and only then", and what a refusal leaves.
-- Each call has one outcome for each of its numbers; what is said of the call is shown of each outcome.
use Prim.Native.Nat.{ℕ, ◌<◌, ◌≤◌}
use native.Mathlib.Omega.{arith}
use mathlib.Core.Path.{◌≡◌, refl, sym, ◌∙◌}
use mathlib.Core.Bool.{Bool, true, false, false≢true}
use mathlib.Core.Logic.{◌⊎◌, inl, inr, ⊎_elim, ◌↔◌, ◌≢◌}
use lib.Dec.{eqb, ltb}
use borrow.Author.Tests.{eq-eqb, ne_eqb, lt-ltb, le-ltb, eqb-true, eqb-false, ltb-true, ltb-false}
use Rattle.std.proofs.lemmas.Bool.{cases_Bool}
use Rattle.bus.specs.Order.{waits, highest, asked, granted, released}
use Rattle.bus.specs.declared.Bus.{Bus}
use Rattle.bus.specs.declared.BusAnswer.{BusAnswer}
use Rattle.bus.specs.declared.Granted.{Granted}
use Rattle.bus.proofs.Sources.{bus, none_beyond, waits_listed}
use Rattle.bus.proofs.HighestFirst.{highest_waits, none_highest}

-- ---- asking
-- Asking for source s: 7 if that source already waits, 9 if it is not 0 to 4, else 0, each when, and only then; refused, the record is as
-- it stood.
pub record AskNumbers (b : Bus) (s : ℕ) (a : BusAnswer) : Type 0 where
  pub listed : (a.number ≡ 0) ⊎ (a.number ≡ 7) ⊎ (a.number ≡ 9)
  pub already : a.number ≡ 7 ↔ waits b s ≡ true
  pub unknown : a.number ≡ 9 ↔ 4 < s
  pub done : a.number ≡ 0 ↔ (s ≤ 4) × (waits b s ≡ false)
  pub refused : a.number ≢ 0 → a.bus ≡ b

module _ (b : Bus) (s : ℕ) where
  -- the three outcomes: it waits already, it is no source, it is new
  again : waits b s ≡ true → AskNumbers b s (asked b s)
  unfolding asked
  again w =
      rw w
      (record {
        listed = inr (inl refl);
        already = (λ _. w, λ _. refl);
        unknown = (λ e. absurd (omega arith), λ l. absurd (omega (arith, waits_listed b s w)));
        done = (λ e. absurd (omega arith), λ d. absurd (false≢true (sym d.1 ∙ w)));
        refused = λ _. refl;
      })

  beyond : 4 < s → AskNumbers b s (asked b s)
  unfolding asked
  beyond l =
      rw (none_beyond b s l, lt-ltb 4 s l)
      (record {
        listed = inr (inr refl);
        already = (λ e. absurd (omega arith), λ w. absurd (omega (arith, waits_listed b s w)));
        unknown = (λ _. l, λ _. refl);
        done = (λ e. absurd (omega arith), λ d. absurd (omega (arith, d.0)));
        refused = λ _. refl;
      })

  new : s ≤ 4 → waits b s ≡ false → AskNumbers b s (asked b s)
  unfolding asked
  new l w =
      rw (w, le-ltb 4 s l)
      (record {
        listed = inl refl;
        already = (λ e. absurd (omega arith), λ v. absurd (false≢true (sym w ∙ v)));
        unknown = (λ e. absurd (omega arith), λ k. absurd (omega arith));
        done = (λ _. (l, w), λ _. refl);
        refused = λ n. absurd (n refl);
      })

  -- Asking answers 7 exactly if that source already waits, 9 exactly if it is over 4, 0 exactly otherwise; refused, it leaves the record.
  pub ask_numbers : AskNumbers b s (asked b s)
  ask_numbers =
      ⊎_elim
      (λ l. beyond (ltb-true 4 s l))
      (λ l. ⊎_elim again (new (ltb-false 4 s l)) (cases_Bool (waits b s)))
      (cases_Bool (ltb 4 s))

-- ---- granting
-- A grant: 8 if nothing waits, else 0, each when, and only then; refused, it answers source 0 and the record is as it stood.
pub record GrantNumbers (b : Bus) (g : Granted) : Type 0 where
  pub listed : (g.number ≡ 0) ⊎ (g.number ≡ 8)
  pub nothing : g.number ≡ 8 ↔ ((s : ℕ) → waits b s ≡ false)
  pub done : g.number ≡ 0 ↔ (s : ℕ) × (waits b s ≡ true)
  pub refused : g.number ≢ 0 → (g.source ≡ 0) × (g.bus ≡ b)

module _ (b : Bus) where
  -- the two outcomes: no source waits, some source does
  none : highest b ≡ 5 → GrantNumbers b (granted b)
  unfolding granted
  none e =
      let q = (none_highest b).0 e in
      rw (eq-eqb (highest b) 5 e)
      (record {
        listed = inr refl;
        nothing = (λ _. q, λ _. refl);
        done = (λ e. absurd (omega arith), λ w. absurd (false≢true (sym (q w.0) ∙ w.1)));
        refused = λ _. (refl, refl);
      })

  some : highest b ≢ 5 → GrantNumbers b (granted b)
  unfolding granted
  some n =
      rw (ne_eqb (highest b) 5 n)
      (record {
        listed = inl refl;
        nothing = (λ e. absurd (omega arith), λ q. absurd (n ((none_highest b).1 q)));
        done = (λ _. (highest b, highest_waits b n), λ _. refl);
        refused = λ z. absurd (z refl);
      })

  -- A grant answers 8 exactly if no source waits, else 0; refused, it answers source 0 and leaves the record.
  pub grant_numbers : GrantNumbers b (granted b)
  grant_numbers =
      ⊎_elim (λ e. none (eqb-true _ 5 e)) (λ e. some (eqb-false _ 5 e)) (cases_Bool (eqb (highest b) 5))

-- ---- releasing
-- A release: 8 if hold does not wait, else 0, each when, and only then; refused, the record is as it stood.
pub record ReleaseNumbers (b : Bus) (a : BusAnswer) : Type 0 where
  pub listed : (a.number ≡ 0) ⊎ (a.number ≡ 8)
  pub no_hold : a.number ≡ 8 ↔ waits b 0 ≡ false
  pub done : a.number ≡ 0 ↔ waits b 0 ≡ true
  pub refused : a.number ≢ 0 → a.bus ≡ b

-- A release answers 8 exactly if hold does not wait, else 0; refused, it leaves the record.
pub release_numbers : (b : Bus) → ReleaseNumbers b (released b)
unfolding released waits
release_numbers b = go b.hold b.screen b.dram b.host b.processor
  where
    go : (h s r o p : Bool) → ReleaseNumbers (bus h s r o p) (released (bus h s r o p))
    go true s r o p = record {
      listed = inl refl;
      no_hold = (λ e. absurd (omega arith), λ w. absurd (false≢true (sym w)));
      done = (λ _. refl, λ _. refl);
      refused = λ n. absurd (n refl);
    }
    go false s r o p = record {
      listed = inr refl;
      no_hold = (λ _. refl, λ _. refl);
      done = (λ e. absurd (omega arith), λ w. absurd (false≢true w));
      refused = λ _. refl;
    }
