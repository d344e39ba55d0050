-- What the control word admits, in plain words: source document 001's lines on BDRD and BVEN, and its table of RM.
use Prim.Native.Nat.{ℕ, zero, suc, ◌<◌, ◌≤◌}
use native.Mathlib.Omega.{arith}
use mathlib.Core.Path.{◌≡◌, refl, sym}
use mathlib.Core.Bool.{Bool, true, false, not}
use mathlib.Core.Logic.{◌↔◌}
use Rattle.words.specs.declared.BitAddress.{BitAddress}
use Rattle.std.proofs.lemmas.Bool.{and_parts}
use Rattle.bank_spec.specs.Decode.{bdrd, admits}
use Rattle.bank_spec.specs.InPlainWords.{Admits, ordinary, refresh, special}
use Rattle.bank_spec.proofs.Refresh.{in_turn_exactly}

module _ (c : ℕ) (a : BitAddress) (n : ℕ) where
  -- A cycle of a known kind is admitted for a bank exactly if it is ordinary, a refresh of a bank whose BDRD bit is 0 and whose turn it is,
  -- or special and the bank's BVEN bit is 1 (`Admits`).
  pub admits_exactly : n < 4 → (kind : ℕ) → kind ≤ 2 → admits c a kind n ≡ true ↔ Admits c a kind n
  unfolding admits
  admits_exactly h zero l = (λ _. ordinary refl, λ _. refl)
  admits_exactly h (suc zero) l = (
    λ t. let u = and_parts _ _ t in refresh refl (cleared (bdrd c n) u.0) ((in_turn_exactly c a n h).0 u.1),
    refreshed,
  )
    where
      cleared : (s : Bool) → not s ≡ true → s ≡ false
      cleared true e = sym e
      cleared false e = refl

      refreshed : Admits c a 1 n → admits c a 1 n ≡ true
      refreshed (ordinary e) = absurd (omega (arith, e))
      refreshed (refresh e d t) = rw (d, (in_turn_exactly c a n h).1 t)
      refreshed (special e v) = absurd (omega (arith, e))
  admits_exactly h (suc (suc zero)) l = (special refl, allowed)
    where
      allowed : Admits c a 2 n → admits c a 2 n ≡ true
      allowed (ordinary e) = absurd (omega (arith, e))
      allowed (refresh e d t) = absurd (omega (arith, e))
      allowed (special e v) = v
  admits_exactly h (suc (suc (suc k))) l = absurd (omega arith)

  -- A cycle of an unknown kind is never admitted.
  pub none_admitted : (kind : ℕ) → 2 < kind → Admits c a kind n → ⊥
  none_admitted kind l (ordinary e) = omega (arith, l, e)
  none_admitted kind l (refresh e d t) = omega (arith, l, e)
  none_admitted kind l (special e v) = omega (arith, l, e)
