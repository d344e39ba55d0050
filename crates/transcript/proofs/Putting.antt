-- Texts put into the bytes, one behind another.
use Prim.Native.Nat.{ℕ, suc, ◌+◌, ◌≤◌}
use native.Mathlib.Nat.{add-zero, zero-add, add_assoc}
use native.Mathlib.Omega.{arith}
use mathlib.Core.Path.{◌≡◌, sym, ap, ◌∙◌}
use mathlib.Core.List.{List, [], ◌∷◌, ◌++◌}
use lib.ListN.{length, drop, set, length-append}
use lib.Seq.{sets, length-sets, sets-eq}
use Rattle.words.proofs.One.{one_value}
use Rattle.transcript_spec.specs.Lists.{over}
use Rattle.transcript.specs.WriterParts.{Put}

-- Two texts, one put behind the other, are put together.
pub sets_behind : (o : List ℕ) (at : ℕ) (t u : List ℕ) → sets (sets o at t) (at + length t) u ≡ sets o at (t ++ u)
sets_behind o at [] u = ap (λ (n : ℕ). sets o n u) (add-zero at)
sets_behind o at (b ∷ t) u =
    let next : at + suc (length t) ≡ suc at + length t = omega arith in
    ap (λ (n : ℕ). sets (sets o at (b ∷ t)) n u) next ∙ sets_behind (set o at b) (suc at) t u

-- What is put behind a text that was put is put with it.
pub put_behind : {o o' o'' : List ℕ} {at e f : ℕ} {t u : List ℕ} → Put o at t e o' → Put o' e u f o'' → Put o at (t ++ u) f o''
put_behind {o = o} {at = at} {e = e} {t = t} {u = u} x y =
    record {
      end =
          y.end ∙
          ap (λ (n : ℕ). n + length u) x.end ∙
          add_assoc at (length t) (length u) ∙
          ap (λ (n : ℕ). at + n) (sym (length-append t u));
      bytes =
          y.bytes ∙
          ap (λ (l : List ℕ). sets l e u) x.bytes ∙
          ap (λ (n : ℕ). sets (sets o at t) n u) x.end ∙
          sets_behind o at t u;
    }

-- Where a text is put, there are as many bytes as there were.
pub put_length : {o o' t : List ℕ} {at e : ℕ} → Put o at t e o' → length o' ≡ length o
put_length {o = o} {t = t} {at = at} x = ap length x.bytes ∙ length-sets o at t

-- Any two outcomes of putting a text are one.
pub one_put : {o o' o'' t : List ℕ} {at e f : ℕ} → Put o at t e o' → Put o at t f o'' → (e ≡ f) × (o' ≡ o'')
one_put x y = (one_value x.end y.end, one_value x.bytes y.bytes)

-- A text that is put at the front takes the first places, and the later ones stay.
pub put_front : (o t : List ℕ) → length t ≤ length o → sets o 0 t ≡ over t o
put_front o t h = sets-eq t o 0 (omega arith) ∙ ap (λ (n : ℕ). t ++ drop n o) (zero-add (length t))
