-- The times that a sheet writes into the list: "It equals the first tick at the first stroke and the last tick at the last, exactly, and
-- never lies before the first or after the last"; "later places stay"; "The tempo formula and its end points are proved once over
-- both" rules. Document 02, requests (viii) and (ix).
-- The list is that of `TheBet`; of the times in it crate tempo_spec knows the rest, whatever the number of strokes.
use Prim.Native.Nat.{ℕ, ◌-◌, ◌<◌, ◌≤◌}
use native.Mathlib.Omega.{arith}
use mathlib.Core.Path.{◌≡◌, sym, ap, ◌∙◌, subst}
use mathlib.Core.List.{List}
use lib.Dec.{T}
use lib.Ieee.{Float, le}
use lib.ListN.{length, get_or}
use Rattle.words.specs.declared.BitAddress.{BitAddress}
use Rattle.port_spec.specs.Sequences.{Machine}
use Rattle.tempo_spec.specs.Tempo.{double, even_time}
use Rattle.tempo_spec.proofs.EvenTempo.{EvenTempo, even_tempo}
use Rattle.tempo_spec.proofs.Times.{struck_place, rest_stays, struck_length}
use Rattle.sheet_spec.specs.InPlainWords.{PassedIn, Begins, tick, Rises, Complete}
use Rattle.sheet_spec.specs.Reading.{whole}
use Rattle.sheet_spec.specs.Sheet.{strokes_of, list_after}
use Rattle.sheet_spec.specs.declared.TimeStruck.{TimeStruck}
use Rattle.sheet_spec.proofs.Rising.{none_before_first}
use Rattle.sheet_spec.proofs.Strokes.{few_strokes}
use Rattle.sheet_spec.proofs.TheBet.{passing}

module _ (s : Machine) (a : BitAddress) (rule : ℕ) (t : TimeStruck) (l : List Float) where
  abbrev first : ℕ
  first = tick s.memory a 0

  abbrev last : ℕ
  last = tick s.memory a (strokes_of rule t - 1)

  -- what is said of the list l' after a sheet that passes; d stands for a place that it does not have
  pub record InTempo (l' : List Float) (d : Float) : Type 0 where
    -- place k has the time of stroke k, by the formula
    pub formula : (k : ℕ) → k < strokes_of rule t → get_or l' k d ≡ even_time first last (strokes_of rule t) k
    -- so the places go from the first tick to the last, exactly, never outside them, and never back
    pub tempo : EvenTempo first last (strokes_of rule t) (λ k. get_or l' k d)
    -- the other places, and how many there are, stay
    pub later : (k : ℕ) → strokes_of rule t ≤ k → get_or l' k d ≡ get_or l k d
    pub places : length l' ≡ length l

  module _ (p : PassedIn s a) (b : Begins s rule t (length l)) (c : Complete s.memory a (strokes_of rule t))
      (r : Rises s.memory a (strokes_of rule t)) where
    some : 1 ≤ strokes_of rule t
    some = (few_strokes t b.time rule).0

    few : strokes_of rule t ≤ 32
    few = (few_strokes t b.time rule).1

    own : strokes_of rule t ≤ 1 → first ≡ last
    own h = ap (tick s.memory a) (omega (arith, some))

    by_formula : EvenTempo first last (strokes_of rule t) (even_time first last (strokes_of rule t))
    by_formula =
        even_tempo first last (strokes_of rule t)
        (none_before_first (tick s.memory a) (strokes_of rule t) r (strokes_of rule t - 1) (omega (arith, some)))
        (p.words _) (omega (arith, few)) own

    -- In the list of every sheet that passes, place k has the time of stroke k by the formula, so that the places go from the first tick to
    -- the last, exactly, never outside them and never back; the later places, and how many there are, stay.
    pub in_tempo : (d : Float) → InTempo (list_after whole s a rule t l) d
    in_tempo d =
        let place : ℕ → Float = λ k. get_or (list_after whole s a rule t l) k d in
        let list = (passing s a rule t l p b c r).list in
        let at : (k : ℕ) → k < strokes_of rule t → place k ≡ even_time first last (strokes_of rule t) k =
        λ k h. ap (λ (x : List Float). get_or x k d) list ∙ struck_place first last (strokes_of rule t) k l d h in
        let e = by_formula in
        record {
          formula = at;
          tempo =
              record {
                starts = at 0 (omega (arith, some)) ∙ e.starts;
                ends = at (strokes_of rule t - 1) (omega (arith, some)) ∙ e.ends;
                not_before = λ k h. subst (λ (x : Float). T (le (double first) x)) (sym (at k h)) (e.not_before k h);
                not_after = λ k h. subst (λ (x : Float). T (le x (double last))) (sym (at k h)) (e.not_after k h);
                never_falls =
                    λ j k i h.
                    subst (λ (x : Float). T (le x (place k))) (sym (at j (omega arith)))
                    (subst (λ (x : Float). T (le (even_time first last (strokes_of rule t) j) x)) (sym (at k h))
                    (e.never_falls j k i h));
              };
          later = λ k h. ap (λ (x : List Float). get_or x k d) list ∙ rest_stays first last (strokes_of rule t) k l d h;
          places = ap length list ∙ struck_length first last (strokes_of rule t) l b.fits;
        }
