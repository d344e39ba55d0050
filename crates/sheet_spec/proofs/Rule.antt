-- Which rules are refused. By the two tests of `unknown_rule`.
use Prim.Native.Nat.{ℕ, ◌<◌}
use native.Mathlib.Omega.{arith}
use mathlib.Core.Path.{◌≡◌, refl}
use mathlib.Core.Bool.{Bool, true, false, not, ◌||◌, true≢false, false≢true}
use mathlib.Core.Logic.{◌⊎◌, inl, inr, ⊎_elim}
use borrow.Author.Tests.{eqb-true, ne_eqb}
use Rattle.sheet_spec.specs.InPlainWords.{KnownRule, UnknownRule}
use Rattle.sheet_spec.specs.Sheet.{unknown_rule}

one_holds : (b c : Bool) → not (b || c) ≡ false → (b ≡ true) ⊎ (c ≡ true)
one_holds true c e = inl refl
one_holds false true e = inr refl
one_holds false false e = absurd (true≢false e)

module _ (rule : ℕ) where
  -- A rule that is not refused is 1 or 2.
  pub accepted_rule : unknown_rule rule ≡ false → KnownRule rule
  unfolding unknown_rule
  accepted_rule e = ⊎_elim (λ x. inl (eqb-true _ _ x)) (λ x. inr (eqb-true _ _ x)) (one_holds _ _ e)

  -- A rule that is 1 or 2 is not refused.
  pub rule_accepted : KnownRule rule → unknown_rule rule ≡ false
  unfolding unknown_rule
  rule_accepted k = ⊎_elim (λ e. rw e) (λ e. rw e) k

  -- A rule that is refused is neither 1 nor 2.
  pub refused_rule : unknown_rule rule ≡ true → UnknownRule rule
  refused_rule e = (
    λ known. false≢true (rw (rule_accepted (inl known)) at e),
    λ known. false≢true (rw (rule_accepted (inr known)) at e),
  )

  -- A rule that is neither 1 nor 2 is refused.
  pub rule_refused : UnknownRule rule → unknown_rule rule ≡ true
  unfolding unknown_rule
  rule_refused u = rw (ne_eqb _ _ u.0, ne_eqb _ _ u.1)

-- ---- the edges

-- which rules are refused, in numbers
pub record RuleEdges : Type 0 where
  -- rules 1 and 2 are known, 0 and all above 2 are not
  pub none : unknown_rule 0 ≡ true
  pub old : unknown_rule 1 ≡ false
  pub new : unknown_rule 2 ≡ false
  pub above : (rule : ℕ) → 2 < rule → unknown_rule rule ≡ true

-- Rules 1 and 2 are known, 0 and all above 2 are not.
pub rule_edges : RuleEdges
unfolding unknown_rule
rule_edges =
    record {
      none = refl;
      old = refl;
      new = refl;
      above = λ rule h. rw (ne_eqb rule 1 (λ e. omega arith), ne_eqb rule 2 (λ e. omega arith));
    }
