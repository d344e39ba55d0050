-- Any two outcomes that the statements of the two calls allow are one.
use Prim.Native.Nat.{ℕ}
use mathlib.Core.Path.{◌≡◌, sym, subst}
use mathlib.Core.List.{List}
use Rattle.std.specs.Prelude.{Result}
use Rattle.words.proofs.One.{one_value}
use Rattle.transcript_spec.specs.Lists.{Lists}
use Rattle.transcript_exchange.specs.Turning.{ToBytes, ToLines}
use Rattle.transcript_exchange.specs.declared.NotTurned.{NotTurned}

-- Turning a text into bytes has one outcome.
pub one_to_bytes : {t : List ℕ} {l : Lists} {out : List ℕ} {o p : Result ℕ NotTurned} {l' l'' : Lists} {out' out'' : List ℕ} →
    ToBytes t l out o l' out' → ToBytes t l out p l'' out'' → (o ≡ p) × (l' ≡ l'') × (out' ≡ out'')
one_to_bytes {t} {l} {out} {l'' = l''} {out'' = out''} x y =
    let same = one_value x.answer y.answer in
    let z = subst (λ (o : Result ℕ NotTurned). ToBytes t l out o l'' out'') (sym same) y in
    (same, one_value x.lists z.lists, one_value x.output z.output)

-- Turning a string into lines has one outcome.
pub one_to_lines : {s : List ℕ} {l : Lists} {out : List ℕ} {o p : Result ℕ NotTurned} {l' l'' : Lists} {out' out'' : List ℕ} →
    ToLines s l out o l' out' → ToLines s l out p l'' out'' → (o ≡ p) × (l' ≡ l'') × (out' ≡ out'')
one_to_lines {s} {l} {out} {l'' = l''} {out'' = out''} x y =
    let same = one_value x.answer y.answer in
    let z = subst (λ (o : Result ℕ NotTurned). ToLines s l out o l'' out'') (sym same) y in
    (same, one_value x.lists z.lists, one_value x.output z.output)
