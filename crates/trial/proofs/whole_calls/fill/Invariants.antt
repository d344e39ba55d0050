-- What the loop of `trial::whole_calls::fill` keeps: after k turns the first k words are filled, and the next word to lay down is known.
use Rattle.std.proofs.Common.{◌≡◌, ℕ, ◌+◌, ◌*◌, ◌%◌, ◌≤◌, ◌<◌, List, [], ◌∷◌, ◌++◌, length, take, set, sym, ◌∙◌, add-one, arith, length-set, take-suc-set}
use native.Mathlib.Nat.{suc-mul}
use lib.Seq.{take-length}
use Rattle.trial.specs.Calls.{filled}
use Rattle.trial.proofs.whole_calls.fill.Given as goal

pub record Filling (first step : ℕ) (words₀ words : List ℕ) (word by k : ℕ) : Type 0 where
  pub most : k ≤ length words₀
  pub room : length words ≡ length words₀
  pub laid : take k words ≡ filled first step k
  pub next : word ≡ (first + k * step) % 65536
  pub steps : by ≡ step % 65536

-- the word after the next
more : (first step x : ℕ) → ((first + x) % 65536 + step % 65536) % 65536 ≡ (first + (x + step)) % 65536
more first step x = omega arith

module _ {first step : ℕ} {words₀ words : List ℕ} {word by k : ℕ} (f : Filling first step words₀ words word by k) where
  -- one word more
  pub turned : k < length words₀ → Filling first step words₀ (set words k word) ((word + by) % 65536) by (k + 1)
  unfolding filled
  turned h =
      let there : k < length words = omega (arith, f.room) in
      record {
        most = omega arith;
        room = length-set words k word ∙ f.room;
        laid = rw add-one (take-suc-set words k word there ∙ (λ i. f.laid i ++ (f.next i ∷ [])));
        next = rw (f.next, f.steps, add-one, suc-mul) (more first step (k * step));
        steps = f.steps;
      }

  -- all of them
  pub ended : length words₀ ≤ k → words ≡ filled first step (length words₀)
  ended h =
      let e : k ≡ length words₀ = omega (arith, f.most) in
      let places : take k words ≡ words = rw (e ∙ sym f.room) (take-length words) in
      rw e at (sym places ∙ f.laid)

abbrev pub invariant-loop-place : goal.invariant-loop-place
invariant-loop-place l = Filling l.first l.step l.initial.words l.words l.word l.by l.place-index
