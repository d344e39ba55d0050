-- What the cycles come to, and that the two cycles of a partly covered word are one grant: document 01, 'Fields' and 'Bus order'.
use Prim.Native.Nat.{ℕ, ◌+◌, ◌*◌, ◌≤◌}
use native.Mathlib.Omega.{arith}
use mathlib.Core.Path.{◌≡◌, refl, ◌∙◌}
use mathlib.Core.Bool.{Bool, true, false, cond}
use Rattle.words.specs.Addresses.{word_at}
use Rattle.words.specs.declared.BitAddress.{BitAddress}
use Rattle.field_spec.specs.Count.{touched, wholly_covered, sum_over, take_cost, take_cycles, put_cost, put_cycles, put_grants}
use Rattle.field_spec.specs.InPlainWords.{partly}
use Rattle.field_spec.proofs.Sums.{sum_counted, sum_of_sums, at_most, sum_ones}

-- Taking out has one cycle for each word touched.
pub cycle_each : (a : BitAddress) (n : ℕ) → take_cycles a n ≡ touched a n
unfolding take_cycles take_cost
cycle_each a n = sum_ones (word_at a) (touched a n)

-- Putting in needs one grant for each word touched.
pub grant_each : (a : BitAddress) (n : ℕ) → put_grants a n ≡ touched a n
unfolding put_grants
grant_each a n = sum_ones (word_at a) (touched a n)

one_more : (whole : Bool) → put_cost whole ≡ 1 + cond whole 0 1
unfolding put_cost
one_more true = refl
one_more false = refl

-- Putting in has one cycle for each grant, and a second one in each word that is partly covered.
pub cycles_of_grants : (a : BitAddress) (n : ℕ) → put_cycles a n ≡ put_grants a n + sum_over (partly a n) (word_at a) (touched a n)
unfolding put_cycles put_grants
cycles_of_grants a n =
    sum_counted (λ w. put_cost (wholly_covered a n w)) (λ w. 1 + partly a n w) a n (λ w h. one_more (wholly_covered a n w))
    ∙ sum_of_sums (λ w. 1) (word_at a) (partly a n) (touched a n)

at_most_one : (whole : Bool) → cond whole 0 1 ≤ 1
at_most_one true = omega arith
at_most_one false = omega arith

-- Putting in has at least as many cycles as grants, and at most twice as many.
pub grants_bound : (a : BitAddress) (n : ℕ) → (put_grants a n ≤ put_cycles a n) × (put_cycles a n ≤ 2 * put_grants a n)
unfolding put_grants
grants_bound a n =
    let p : ℕ = sum_over (partly a n) (word_at a) (touched a n) in
    let l : p ≤ put_grants a n = at_most (partly a n) (λ w. 1) (word_at a) (λ w. at_most_one (wholly_covered a n w)) (touched a n) in
    (omega (arith, cycles_of_grants a n), omega (arith, cycles_of_grants a n, l))
