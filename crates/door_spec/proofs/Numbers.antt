-- Demand 1 at the door: the number is one of 0, 1, 2, 3 and 11, each when, and only then.
-- By cases on the tests of `misfit`, in its order; then by the numbers of the access on the words.
use Prim.Native.Nat.{ℕ, ◌%◌, ◌<◌, ◌≤◌}
use native.Mathlib.Omega.{arith}
use mathlib.Core.Path.{◌≡◌, refl}
use mathlib.Core.Bool.{Bool, true, false, cond, not, ◌||◌}
use mathlib.Core.List.{List}
use mathlib.Core.Logic.{◌↔◌, ◌⊎◌, inl, inr, ⊎_elim, ◌≢◌}
use lib.Dec.{eqb, ltb}
use lib.ListN.{length}
use borrow.Author.Tests.{eq-eqb, ne_eqb, le-ltb, eqb-true, eqb-false, ltb-true, ltb-false}
use Rattle.words.specs.Bytes.{bit}
use Rattle.port_spec.specs.Host.{register_of, lanes_of, number_for}
use Rattle.port_spec.specs.declared.Access.{Access}
use Rattle.port_spec.proofs.Numbers.{NoLanes, when}
use Rattle.door_spec.specs.Bytes.{words_of, byte}
use Rattle.door_spec.specs.Image.{registers_of}
use Rattle.door_spec.specs.Door.{misfit, call_number}
use Rattle.door_spec.specs.InPlainWords.{Fitting, Misfit}
use Rattle.door_spec.proofs.WordsAndBytes.{words_length}

-- v is the number of a call: 11 exactly if what is lent has one of the four faults; without one, 1 exactly if memory has over 65,536 bytes,
-- and 2, 3 and 0 as for the host; and no other
pub record DoorWhen (image memory : List ℕ) (a : Access) (v : ℕ) : Type 0 where
  pub listed : (v ≤ 3) ⊎ (v ≡ 11)
  pub unfit : v ≡ 11 ↔ Misfit image memory
  pub over : v ≡ 1 ↔ Fitting image memory × (65536 < length memory)
  pub unlisted : v ≡ 2 ↔ Fitting image memory × (length memory ≤ 65536) × (3 < register_of a)
  pub no_lanes : v ≡ 3 ↔ Fitting image memory × (length memory ≤ 65536) × (register_of a ≤ 3) × NoLanes (lanes_of a)
  pub done : v ≡ 0 ↔ Fitting image memory × (length memory ≤ 65536) × (register_of a ≤ 3) × (1 ≤ lanes_of a) × (lanes_of a ≤ 3)

not_both : {b : Bool} → b ≡ true → b ≡ false → ⊥
not_both p q = let z : ◌≡◌ {A = ℕ} 0 1 = cc in omega arith

module _ (image memory : List ℕ) where
  -- What is lent, if it passes the four tests for number 11, fits the door.
  pub fitting : misfit image memory ≡ false → Fitting image memory
  unfolding misfit
  fitting =
      go (eqb (length image) 9) (ltb 1 (byte image 8)) (bit (registers_of image).control 10) (eqb (length memory % 2) 1)
      refl refl refl refl
    where
      go : (s t u v : Bool) → eqb (length image) 9 ≡ s → ltb 1 (byte image 8) ≡ t → bit (registers_of image).control 10 ≡ u →
          eqb (length memory % 2) 1 ≡ v → not s || (t || (u || v)) ≡ false → Fitting image memory
      go true false false false p q r d e =
          record {
            good_image = record { nine_bytes = eqb-true _ _ p; hollow_byte = ltb-false _ _ q; bit_10_clear = r };
            even_memory = omega (arith, eqb-false (length memory % 2) 1 d);
          }
      go true false false true p q r d e = absurd (not_both refl e)
      go true false true v p q r d e = absurd (not_both refl e)
      go true true u v p q r d e = absurd (not_both refl e)
      go false t u v p q r d e = absurd (not_both refl e)

  -- What is lent, if it does not pass the four tests for number 11, has one of the four faults.
  pub faulty : misfit image memory ≡ true → Misfit image memory
  unfolding misfit
  faulty =
      go (eqb (length image) 9) (ltb 1 (byte image 8)) (bit (registers_of image).control 10) (eqb (length memory % 2) 1)
      refl refl refl refl
    where
      go : (s t u v : Bool) → eqb (length image) 9 ≡ s → ltb 1 (byte image 8) ≡ t → bit (registers_of image).control 10 ≡ u →
          eqb (length memory % 2) 1 ≡ v → not s || (t || (u || v)) ≡ true → Misfit image memory
      go false t u v p q r d e = inl (eqb-false _ _ p)
      go true true u v p q r d e = inr (inl (ltb-true _ _ q))
      go true false true v p q r d e = inr (inr (inl r))
      go true false false true p q r d e = inr (inr (inr (eqb-true _ _ d)))
      go true false false false p q r d e = absurd (not_both e refl)

  -- What fits the door passes the four tests for number 11.
  pub fit_passes : Fitting image memory → misfit image memory ≡ false
  unfolding misfit
  fit_passes f =
      let g = f.good_image in
      rw (eq-eqb _ _ g.nine_bytes, le-ltb _ _ g.hollow_byte, g.bit_10_clear, ne_eqb (length memory % 2) 1 (omega arith))

  -- What fits the door has none of the four faults that number 11 tells.
  pub fit_or_faulty : Fitting image memory → Misfit image memory → ⊥
  fit_or_faulty f =
      let g = f.good_image in
      ⊎_elim (λ p. p g.nine_bytes)
      (⊎_elim (λ p. omega arith)
      (⊎_elim (λ p. not_both p g.bit_10_clear)
      (λ p. omega arith)))

  module _ (a : Access) where
    -- The number of a call that does not fit is 11.
    pub unfit_number : misfit image memory ≡ true → call_number image memory a ≡ 11
    unfolding call_number
    unfit_number e = rw e

    -- A call that does not fit is refused.
    pub unfit_refused : misfit image memory ≡ true → call_number image memory a ≢ 0
    unfit_refused e z = omega (arith, unfit_number e)

    -- The number of a call that fits is that of the access on the words.
    pub fit_number : Fitting image memory → call_number image memory a ≡ number_for (words_of memory) a
    unfolding call_number
    fit_number f = rw (fit_passes f)

    -- The number of a call is one of 0, 1, 2, 3 and 11, each when, and only then (`DoorWhen`).
    pub numbered : DoorWhen image memory a (call_number image memory a)
    unfolding call_number
    numbered = go (misfit image memory) refl
      where
        go : (t : Bool) → misfit image memory ≡ t → DoorWhen image memory a (cond t 11 (number_for (words_of memory) a))
        go true e =
            let never : Fitting image memory → ⊥ = λ f. not_both e (fit_passes f) in
            record {
              listed = inr refl;
              unfit = (λ z. faulty e, λ z. refl);
              over = (λ z. absurd (omega arith), λ z. absurd (never z.0));
              unlisted = (λ z. absurd (omega arith), λ z. absurd (never z.0));
              no_lanes = (λ z. absurd (omega arith), λ z. absurd (never z.0));
              done = (λ z. absurd (omega arith), λ z. absurd (never z.0));
            }
        go false e =
            let f = fitting e in
            let h = f.even_memory in
            let n = words_length memory in
            let w = when (length (words_of memory)) (register_of a) (lanes_of a) in
            record {
              listed = inl w.listed;
              unfit = (λ z. absurd (omega (arith, w.listed)), λ z. absurd (fit_or_faulty f z));
              over = (λ z. (f, omega (arith, w.over.0 z)), λ z. w.over.1 (omega arith));
              unlisted = (λ z. let p = w.unlisted.0 z in (f, omega arith, p.1), λ z. w.unlisted.1 (omega arith));
              no_lanes = (λ z. let p = w.no_lanes.0 z in (f, omega arith, p.1, p.2), λ z. w.no_lanes.1 (omega arith));
              done = (λ z. let p = w.done.0 z in (f, omega arith, p.1, p.2, p.3), λ z. w.done.1 (omega arith));
            }
