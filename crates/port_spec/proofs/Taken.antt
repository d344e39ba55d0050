-- An access that is accepted is begun and carried out; one that is refused changes nothing.
-- What every law about a whole access starts from.
use Prim.Native.Nat.{ℕ}
use mathlib.Core.Path.{◌≡◌, refl, sym, ◌∙◌}
use mathlib.Core.Bool.{Bool, true, false, cond}
use mathlib.Core.List.{List}
use mathlib.Core.Logic.{◌≢◌}
use lib.Dec.{eqb}
use borrow.Author.Tests.{eq-eqb, ne_eqb, eqb-true, eqb-false}
use Rattle.registers.specs.declared.Registers.{Registers}
use Rattle.port_spec.specs.Cycle.{memory_after}
use Rattle.port_spec.specs.Host.{begin_access, number_for, refused, done, access, access_memory}
use Rattle.port_spec.specs.declared.Access.{Access}
use Rattle.port_spec.specs.declared.Outcome.{Outcome}

module _ (r : Registers) (m : List ℕ) (a : Access) where
  -- An access that is accepted is begun and carried out.
  pub taken : number_for m a ≡ 0 → access r m a ≡ done (begin_access r a) m
  unfolding access
  taken e = rw (eq-eqb _ _ e)

  -- The memory after an access that is accepted is what its cycle leaves.
  pub taken_memory : number_for m a ≡ 0 → access_memory r m a ≡ memory_after (begin_access r a).registers (begin_access r a).due m
  unfolding access_memory
  taken_memory e = rw (eq-eqb _ _ e)

  -- An access that is refused answers its number and leaves the registers.
  pub barred : number_for m a ≢ 0 → access r m a ≡ refused (number_for m a) r
  unfolding access
  barred n = rw (ne_eqb _ _ n)

  -- An access that is refused leaves the memory.
  pub barred_memory : number_for m a ≢ 0 → access_memory r m a ≡ m
  unfolding access_memory
  barred_memory n = rw (ne_eqb _ _ n)

  -- What holds of an access that is done, and of one that is refused, holds of any.
  pub either_done : (P : Outcome → Type 0) →
      P (done (begin_access r a) m) → (number_for m a ≢ 0 → P (refused (number_for m a) r)) → P (access r m a)
  unfolding access
  either_done P p q = go (eqb (number_for m a) 0) refl
    where
      go : (t : Bool) → eqb (number_for m a) 0 ≡ t → P (cond t (done (begin_access r a) m) (refused (number_for m a) r))
      go true e = p
      go false e = q (eqb-false _ _ e)

  -- The number answered is the number that applies.
  pub number_is : (access r m a).answer.number ≡ number_for m a
  unfolding access done
  number_is = go (eqb (number_for m a) 0) refl
    where
      go : (t : Bool) → eqb (number_for m a) 0 ≡ t →
          (cond t (done (begin_access r a) m) (refused (number_for m a) r)).answer.number ≡ number_for m a
      go true e = sym (eqb-true _ _ e)
      go false e = refl

  -- An access that answers number 0 was begun and carried out.
  pub as_done : (access r m a).answer.number ≡ 0 → access r m a ≡ done (begin_access r a) m
  as_done n = taken (sym number_is ∙ n)

  -- The memory after an access that answers number 0 is what its cycle left.
  pub as_done_memory : (access r m a).answer.number ≡ 0 →
      access_memory r m a ≡ memory_after (begin_access r a).registers (begin_access r a).due m
  as_done_memory n = taken_memory (sym number_is ∙ n)
