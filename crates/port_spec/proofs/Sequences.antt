-- Demand 3 for the calls of any door to the port: if each sixteen-bit access done by bytes ends like the whole one, so does any sequence of
-- them, for all that the calls' contract allows. Proved once, for the access by value, in place and at the C door.
use Prim.Native.Nat.{ℕ}
use mathlib.Core.Path.{◌≡◌, refl, sym, ap, subst, ◌∙◌}
use mathlib.Core.List.{List, [], ◌∷◌}
use Rattle.control.specs.Control.{first_lane, last_lane}
use Rattle.port_spec.specs.Sequences.{Sixteen, on}
use Rattle.port_spec.specs.Calls.{Call, ByWords, no_word, a_word, ByBytes, no_byte, two_bytes, AddUp, AllAddUp, no_pair, a_pair}
use Rattle.port_spec.specs.declared.Access.{Access}
use Rattle.port_spec.specs.declared.Answer.{Answer}

-- Two answers to a word that the same bytes add up to are one.
pub one_sum : {x y z w : Answer} → AddUp x y z → AddUp x y w → z ≡ w
one_sum {z = z} {w = w} p q =
    rw (sym p.word ∙ q.word, sym p.number ∙ q.number, sym p.hollow ∙ q.hollow, sym p.cycle ∙ q.cycle)

-- Any answers that the same pairs add up to, one by one, are the same.
pub one_sums : {ps : List (Answer × Answer)} {zs ws : List Answer} → AllAddUp ps zs → AllAddUp ps ws → zs ≡ ws
one_sums no_pair no_pair = refl
one_sums (a_pair {zs = zs} p ps) (a_pair {z = w} q qs) =
    ap (λ (y : Answer). y ∷ zs) (one_sum p q) ∙ ap (λ (ys : List Answer). w ∷ ys) (one_sums ps qs)

-- what one call answers and leaves, and the two byte calls for one sixteen-bit access
module _ {S : Type 0} (control : S → ℕ) (tells : S → Access → Answer) (leaves : S → Access → S) (s : S) (a : Sixteen) where
  abbrev first : Access
  first = on (first_lane (control s)) a

  abbrev last : Access
  last = on (last_lane (control s)) a

  -- Done as two byte calls, a sixteen-bit access answers and ends as done by one.
  pub record PairAlike : Type 0 where
    pub answer : AddUp (tells s first) (tells (leaves s first) last) (tells s (on 3 a))
    pub end : leaves (leaves s first) last ≡ leaves s (on 3 a)

-- a call with just one outcome, and what holds of all its states; a word and its two bytes end alike where that holds
module _ {S : Type 0} (call : Call S) (control : S → ℕ) (tells : S → Access → Answer) (leaves : S → Access → S) (Holds : S → Type 0)
    (exact : (s : S) (a : Access) (x : Answer) (t : S) → call s a x t → (x ≡ tells s a) × (t ≡ leaves s a))
    (stays : (s : S) (a : Access) → Holds s → Holds (leaves s a))
    (alike : (s : S) (a : Sixteen) → Holds s → PairAlike control tells leaves s a) where
  -- If each call has one outcome, and each sixteen-bit access done as two byte calls ends like the whole one in every state where `Holds`,
  -- which calls keep, then so do all calls that the contract allows: the two answers add up to the one (`AddUp`), and both end in the same
  -- state.
  pub pair_alike : {s t t₁ t₂ : S} (a : Sixteen) {x x₁ x₂ : Answer} → Holds s → call s (on 3 a) x t →
      call s (on (first_lane (control s)) a) x₁ t₁ → call t₁ (on (last_lane (control s)) a) x₂ t₂ → AddUp x₁ x₂ x × (t₂ ≡ t)
  pair_alike {s} {t} {t₁} {t₂} a {x} {x₁} {x₂} h c d e =
      let f = on (first_lane (control s)) a in
      let l = on (last_lane (control s)) a in
      let whole = exact s (on 3 a) x t c in
      let first = exact s f x₁ t₁ d in
      let last = exact t₁ l x₂ t₂ e in
      let p = alike s a h in (
        rw (first.0, last.0 ∙ ap (λ (z : S). tells z l) first.1, whole.0) p.answer,
        last.1 ∙ ap (λ (z : S). leaves z l) first.1 ∙ p.end ∙ sym whole.1,
      )

  -- If each call has one outcome, and each sixteen-bit access done as two byte calls ends like the whole one in every state where `Holds`,
  -- which calls keep, then so does any sequence of them: each pair of answers adds up to the word's (`AddUp`), and byte calls and word
  -- calls end in the same state.
  pub sequences_alike : {s t u : S} {l : List Sixteen} {xs : List Answer} {ps : List (Answer × Answer)} → Holds s →
      ByWords call s l xs t → ByBytes call control s l ps u → AllAddUp ps xs × (u ≡ t)
  sequences_alike h no_word no_byte = (no_pair, refl)
  sequences_alike {s} {u = v} h (a_word {t = t} a {x} {rest} c cs) (two_bytes _ {ps = ps} d e ds) =
      let p = pair_alike a h c d e in
      let later = subst Holds (sym (exact s (on 3 a) x t c).1) (stays s (on 3 a) h) in
      let q = sequences_alike later cs (subst (λ (z : S). ByBytes call control z rest ps v) p.1 ds) in
      (a_pair p.0 q.0, q.1)

  module _ (made : (s : S) (a : Access) → call s a (tells s a) (leaves s a)) where
    -- If every call can be made, any sequence can be done by word calls.
    pub words_made : (s : S) (l : List Sixteen) → (xs : List Answer) × (t : S) × ByWords call s l xs t
    words_made s [] = ([], s, no_word)
    words_made s (a ∷ rest) =
        let q = words_made (leaves s (on 3 a)) rest in
        (tells s (on 3 a) ∷ q.0, q.1, a_word a (made s (on 3 a)) q.2)

    -- If every call can be made, any sequence can be done by byte calls.
    pub bytes_made : (s : S) (l : List Sixteen) → (ps : List (Answer × Answer)) × (t : S) × ByBytes call control s l ps t
    bytes_made s [] = ([], s, no_byte)
    bytes_made s (a ∷ rest) =
        let f = on (first_lane (control s)) a in
        let l = on (last_lane (control s)) a in
        let m = leaves s f in
        let q = bytes_made (leaves m l) rest in
        ((tells s f, tells m l) ∷ q.0, q.1, two_bytes a (made s f) (made m l) q.2)
