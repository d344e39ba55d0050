-- `script::printing::put_digits` meets its contract: the digits of the value are those of what is left of it, before those already laid
-- down.
use Prim.Native.Nat.{ℕ, suc, ◌+◌, ◌-◌, ◌/◌, ◌%◌, ◌≤◌, ◌<◌}
use native.Mathlib.Omega.{arith}
use mathlib.Core.Path.{◌≡◌, refl, sym, ap, ◌∙◌}
use mathlib.Core.List.{List, [], ◌∷◌, ◌++◌, append-nil, append_assoc}
use lib.ListN.{length, drop, set, length-set}
use lib.Seq.{drop-length, drop-cons, drop-set-lt, get_or-set_same, lt-length-set}
use Rattle.digits.specs.Digits.{digit_for}
use Rattle.script.specs.Answers.{digits}
use Rattle.script.proofs.printing.put_digits.Goals as goal
use Rattle.script.proofs.printing.put_digits.Invariants.{Laid}

-- The digit for a number is that for its last digit.
last_digit : (n : ℕ) → digit_for (n % 16) ≡ digit_for n
unfolding digit_for
last_digit n =
    let e : n % 16 % 16 ≡ n % 16 = omega arith in
    rw e

begun : (value : ℕ) (places : List ℕ) → Laid value places places value (length places)
begun value places =
    record { most = omega arith; room = refl; laid = rw (drop-length places, append-nil) }

module _ {value : ℕ} {places₀ places : List ℕ} {rest i : ℕ} (k : Laid value places₀ places rest i) where
  -- one digit more, at the place before
  turned : 0 < i → Laid value places₀ (set places (i - 1) (digit_for rest)) (rest / 16) (i - 1)
  unfolding digits
  turned h =
      let d = digit_for rest in
      let j = i - 1 in
      let there : j < length places = omega (arith, k.most, k.room) in
      let next : i ≡ suc j = omega arith in
      let tail : drop j (set places j d) ≡ d ∷ drop i places =
      drop-cons (set places j d) j 0 (lt-length-set places j d there)
      ∙ (λ t. get_or-set_same places j d 0 there t ∷ drop-set-lt (suc j) places j d (omega arith) t)
      ∙ ap (λ (n : ℕ). d ∷ drop n places) (sym next) in
      record {
        most = omega (arith, k.most);
        room = length-set places j d ∙ k.room;
        laid = k.laid ∙ ap (λ (n : ℕ). digits n rest ++ drop i places) next
            ∙ append_assoc (digits j (rest / 16)) (d ∷ []) (drop i places) ∙ ap (λ (l : List ℕ). digits j (rest / 16) ++ l) (sym tail);
      }

  ended : i ≤ 0 → places ≡ digits (length places₀) value
  unfolding digits
  ended h =
      let e : i ≡ 0 = omega arith in
      sym (rw e at k.laid)

pub loop-i-init : goal.loop-i-init
loop-i-init c =
    let all : length c.args.places.now - 0 ≡ length c.args.places.now = omega arith in
    rw all (begun c.args.value c.args.places.now)

pub bounds-places-count : goal.bounds-places-count
bounds-places-count c = omega (arith, c.loop-i.invariant.room)

pub loop-i-preserved : goal.loop-i-preserved
loop-i-preserved c =
    let n = length c.args.places.now in
    let left = n - c.loop-i.i in
    let here : n - 1 - c.loop-i.i ≡ left - 1 = omega arith in
    let next : n - (c.loop-i.i + 1) ≡ left - 1 = omega arith in
    rw (here, next, c.digit_for.ensures, last_digit c.loop-i.rest) (turned c.loop-i.invariant (omega (arith, c.loop-i-test.true)))

pub shape_of-places : goal.shape_of-places
shape_of-places c = c.loop-i.invariant.room

pub returns : goal.returns
returns c = ended c.loop-i.invariant (omega arith)
