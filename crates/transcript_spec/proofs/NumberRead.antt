-- A number as the reader has it after its last byte, beside what its bytes spell: padded exactly if they are; the same value below 65,536,
-- and 65,536 at least otherwise, however long it is.
use Prim.Native.Nat.{ℕ, ◌+◌, ◌*◌, ◌%◌, ◌^◌, ◌<◌, ◌≤◌}
use native.Mathlib.Nat.{pow-suc, one-le-pow, mul-le-mul_left, mul_assoc, mul_comm, add-mul, add_assoc, mul-one}
use native.Mathlib.Omega.{arith}
use mathlib.Core.Path.{◌≡◌, refl, sym, ap, ◌∙◌, subst}
use mathlib.Core.Bool.{Bool, true, cond}
use mathlib.Core.List.{List, [], ◌∷◌}
use mathlib.Core.Logic.{⊎_elim}
use lib.Dec.{eqb}
use lib.ListN.{length}
use borrow.Author.Tests.{lt-ltb, le-ltb}
use Rattle.std.proofs.lemmas.Bool.{cases_lt}
use Rattle.transcript_spec.specs.InPlainWords.{value_of}
use Rattle.transcript_spec.specs.Reading.{none, with_group, grown}
use Rattle.transcript_spec.specs.declared.Number.{Number}

-- the number with some bytes more
unfoldable pub grown_by : Number → List ℕ → Number
grown_by n [] = n
grown_by n (b ∷ rest) = grown_by (grown n b) rest

-- ---- its mark: that of the first byte
kept_mark : (n : Number) (s : List ℕ) → n.begun ≡ true → (grown_by n s).padded ≡ n.padded
unfolding grown_by
kept_mark n [] e = refl
kept_mark n (b ∷ s) e = kept_mark (grown n b) s refl ∙ ap (λ (t : Bool). cond t n.padded (eqb b 128)) e

-- A number is padded exactly if its first byte is 80h.
pub first_byte_pads : (b : ℕ) (s : List ℕ) → (grown_by none (b ∷ s)).padded ≡ eqb b 128
unfolding grown_by
first_byte_pads b s = kept_mark (grown none b) s refl

-- A number that is begun stays so with some bytes more.
pub is_begun : (n : Number) (s : List ℕ) → n.begun ≡ true → (grown_by n s).begun ≡ true
unfolding grown_by
is_begun n [] e = e
is_begun n (b ∷ s) e = is_begun (grown n b) s refl

-- ---- its value
-- what the bytes s make of a value v, with no limit
abbrev unlimited : ℕ → List ℕ → ℕ
unlimited v s = v * 128 ^ length s + value_of s

regroup : (v g p r : ℕ) → (v * 128 + g) * p + r ≡ v * (p * 128) + (g * p + r)
regroup v g p r =
    ap (λ (x : ℕ). x + r) (add-mul (v * 128) g p ∙ ap (λ (x : ℕ). x + g * p) (mul_assoc v 128 p ∙ ap (λ (x : ℕ). v * x) (mul_comm 128 p)))
    ∙ add_assoc (v * (p * 128)) (g * p) r

one_more : (v b : ℕ) (s : List ℕ) → unlimited (v * 128 + b % 128) s ≡ unlimited v (b ∷ s)
unfolding value_of
one_more v b s =
    regroup v (b % 128) (128 ^ length s) (value_of s)
    ∙ ap (λ (p : ℕ). v * p + (b % 128 * 128 ^ length s + value_of s)) (sym (pow-suc 128 (length s)))

at_least : (v : ℕ) (s : List ℕ) → v ≤ unlimited v s
at_least v s =
    let h : v * 1 ≤ v * 128 ^ length s = mul-le-mul_left v (one-le-pow (length s) 128 (omega arith)) in
    let e = mul-one v in
    omega arith

-- what the reader keeps as n of a number that is v: v itself below 65,536, and 65,536 at least otherwise
pub record Kept (n : Number) (v : ℕ) : Type 0 where
  pub below : v < 65536 → n.value ≡ v
  pub above : 65536 ≤ v → 65536 ≤ n.value

grows : (v g : ℕ) → v < 65536 → with_group v g ≡ v * 128 + g
unfolding with_group
grows v g h = rw (lt-ltb v 65536 h)

stays : (v g : ℕ) → 65536 ≤ v → with_group v g ≡ v
unfolding with_group
stays v g h = rw (le-ltb v 65536 h)

kept : (n : Number) (s : List ℕ) → Kept (grown_by n s) (unlimited n.value s)
unfolding grown_by value_of
kept n [] = record { below = λ h. omega arith; above = λ h. omega arith }
kept n (b ∷ s) =
    let k = kept (grown n b) s in
    ⊎_elim
    (λ h.
    subst (Kept (grown_by (grown n b) s)) (ap (λ (v : ℕ). unlimited v s) (grows n.value (b % 128) h) ∙ one_more n.value b s) k)
    (λ h.
    let l = at_least n.value (b ∷ s) in
    let m = at_least n.value s in
    let w : 65536 ≤ unlimited (grown n b).value s =
    subst (λ (v : ℕ). 65536 ≤ unlimited v s) (sym (stays n.value (b % 128) h)) (omega arith) in
    record { below = λ q. absurd (omega arith); above = λ q. k.above w })
    (cases_lt n.value 65536)

-- Of a number of any length the reader keeps its value below 65,536, and a value of at least 65,536 otherwise: it never wraps.
pub keeps_value : (s : List ℕ) → Kept (grown_by none s) (value_of s)
keeps_value s = subst (Kept (grown_by none s)) (omega arith) (kept none s)
