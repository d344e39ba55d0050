-- The two writes that load the pointer: in the order that LBL commands they are the run `loading`, and they leave the memory.
use Prim.Native.Nat.{ℕ}
use mathlib.Core.Path.{◌≡◌, refl, sym, ap, ◌∙◌}
use mathlib.Core.Bool.{true, false}
use mathlib.Core.Logic.{⊎_elim}
use lib.Dec.{eqb}
use Rattle.words.specs.declared.BitAddress.{BitAddress}
use Rattle.std.proofs.lemmas.Bool.{cases_Bool, cases_eq}
use Rattle.control.specs.Control.{lbl, fetches}
use Rattle.registers.specs.Registers.{low_half, high_half}
use Rattle.port_spec.specs.Host.{access}
use Rattle.port_spec.specs.Sequences.{Machine, after, ends}
use Rattle.port_spec.specs.Table.{loading, loaded}
use Rattle.port_spec.specs.declared.Access.TheVariants.{Write}
use Rattle.port_spec.proofs.Taken.{number_is, barred_memory}
use Rattle.port_spec.proofs.OtherRegisters.{load_keeps_memory}

-- ---- the order
low_fetches : (c : ℕ) → fetches c 0 ≡ lbl c
unfolding fetches
low_fetches c = ⊎_elim (λ e. rw e) (λ e. rw e) (cases_Bool (lbl c))

module _ (s : Machine) (a : BitAddress) where
  run_low_last : lbl s.registers.control ≡ true → loaded s a ≡ after (after s (Write 1 3 (high_half a))) (Write 0 3 (low_half a))
  unfolding loading ends
  run_low_last e = rw e

  run_high_last : lbl s.registers.control ≡ false → loaded s a ≡ after (after s (Write 0 3 (low_half a))) (Write 1 3 (high_half a))
  unfolding loading ends
  run_high_last e = rw e

  -- l and h are the two halves; t is the machine after one write, u after both
  module _ {l h : ℕ} (low : l ≡ low_half a) (high : h ≡ high_half a) where
    -- Where the low half fetches, it goes last: the high half written, and then the low one, loads the pointer.
    pub low_last : {t u : Machine} → fetches s.registers.control 0 ≡ true →
        t ≡ after s (Write 1 3 h) → u ≡ after t (Write 0 3 l) → u ≡ loaded s a
    low_last f x y = rw (y, x, low, high) (sym (run_low_last (sym (low_fetches _) ∙ f)))

    -- Where the low half does not fetch, the high half goes last: the low half written, and then the high one, loads the pointer.
    pub high_last : {t u : Machine} → fetches s.registers.control 0 ≡ false →
        t ≡ after s (Write 0 3 l) → u ≡ after t (Write 1 3 h) → u ≡ loaded s a
    high_last f x y = rw (y, x, low, high) (sym (run_high_last (sym (low_fetches _) ∙ f)))

-- ---- the memory
half_keeps_memory : (s : Machine) (k w : ℕ) → eqb k 2 ≡ false → (after s (Write k 3 w)).memory ≡ s.memory
unfolding after
half_keeps_memory s k w h =
    let r = s.registers in
    let m = s.memory in
    let a = Write k 3 w in
    ⊎_elim
    (λ n. load_keeps_memory r m k 3 w h n)
    (λ n. barred_memory r m a (λ e. n (number_is r m a ∙ e)))
    (cases_eq (access r m a).answer.number 0)

-- Loading the pointer leaves the memory, also where the memory is over the limit and both writes are refused.
pub loading_keeps_memory : (s : Machine) (a : BitAddress) → (loaded s a).memory ≡ s.memory
loading_keeps_memory s a =
    ⊎_elim
    (λ e. ap (λ (t : Machine). t.memory) (run_low_last s a e) ∙ half_keeps_memory _ 0 _ refl ∙ half_keeps_memory s 1 _ refl)
    (λ e. ap (λ (t : Machine). t.memory) (run_high_last s a e) ∙ half_keeps_memory _ 1 _ refl ∙ half_keeps_memory s 0 _ refl)
    (cases_Bool (lbl s.registers.control))
