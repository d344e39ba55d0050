-- `sheet_trial::carrying::lay_words` meets its contract: after k turns the first k words are laid.
use Prim.Native.Nat.{ℕ, ◌+◌}
use native.Mathlib.Numerals.{add-one}
use native.Mathlib.Omega.{arith}
use mathlib.Core.Path.{◌≡◌, refl, ap, ◌∙◌}
use mathlib.Core.List.{List}
use lib.ListN.{length}
use Rattle.words.specs.Memory.{store_at}
use Rattle.sheet_trial.specs.Record.{number}
use Rattle.sheet_trial.specs.CarriedOut.{laid}
use Rattle.sheet_trial.proofs.carrying.lay_words.Invariants.{Laying}
use Rattle.sheet_trial.proofs.carrying.lay_words.Goals as goal

module _ {b room₀ : List ℕ} {first : ℕ} {room : List ℕ} {k : ℕ} (l : Laying b room₀ first room k) where
  -- one more
  turned :
      (room' : List ℕ) (w : ℕ) → w ≡ number b (18 + k) → room' ≡ store_at room (record { 0 = first + k }) w →
      length room' ≡ length room → Laying b room₀ first room' (k + 1)
  unfolding laid
  turned room' w e put same =
      record {
        from = l.from;
        small = l.small;
        long = same ∙ l.long;
        done = rw add-one (put ∙ (λ i. store_at (l.done i) (record { 0 = l.from i + k }) (e i)));
      }

pub loop-k-init : goal.loop-k-init
unfolding laid
loop-k-init c =
    record {
      from = c.from-first.ensures ∙ c.number_at.ensures;
      small = omega (arith, c.from-first.ensures, c.number_at.type_inv);
      long = refl;
      done = refl;
    }

pub loop-k-preserved : goal.loop-k-preserved
loop-k-preserved c =
    turned c.loop-k.invariant _ _ c.number_at-in-loop-k.ensures c.store_word.ensures.memory
    c.store_word.auto.memory

pub returns : goal.returns
returns c =
    let e : c.loop-k.k ≡ 36 = omega arith in
    c.loop-k.invariant.done ∙ ap (laid c.args.bytes.now c.args.room.now) e
