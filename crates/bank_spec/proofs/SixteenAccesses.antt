-- Accesses one after another, and where the index comes to: it steps at each of sixteen bits, and at no other.
use Prim.Native.Nat.{◌+◌, ◌%◌, ◌<◌}
use native.Mathlib.Omega.{arith}
use mathlib.Core.Path.{◌≡◌, ◌∙◌}
use mathlib.Core.List.{List, [], ◌∷◌}
use mathlib.Core.Logic.{⊎_elim, ◌≢◌}
use borrow.Author.Tests.{eq-eqb, ne_eqb}
use Rattle.std.proofs.lemmas.Bool.{cases_eq}
use Rattle.bank_spec.specs.Access.{next, read_answer, write_answer}
use Rattle.bank_spec.specs.InPlainWords.{Access, read, write, answer_to, after, lanes_of, counted}
use Rattle.bank_spec.specs.declared.BankPort.{BankPort}
use Rattle.bank_spec.proofs.Numbers.{AccessNumbers, when, read_numbers, write_numbers}

-- Each access of a row, read or write, has its number by its lanes, and refused leaves all.
pub access_numbers : (p : BankPort) (x : Access) → AccessNumbers p (lanes_of x) (answer_to p x)
access_numbers p (read lanes) = read_numbers p lanes
access_numbers p (write lanes w) = write_numbers p lanes w

-- An access of sixteen bits steps the index.
pub steps : (p : BankPort) (x : Access) → lanes_of x ≡ 3 → (answer_to p x).port.index ≡ next p.index
unfolding read_answer write_answer
steps p (read lanes) e = rw ((when lanes).done.1 e)
steps p (write lanes w) e = rw ((when lanes).done.1 e)

-- An access that is not of sixteen bits, but of a byte or with no lanes, leaves the port.
pub stays : (p : BankPort) (x : Access) → lanes_of x ≢ 3 → (answer_to p x).port ≡ p
stays p x d = let k = access_numbers p x in (k.refused (λ z. d (k.number.done.0 z))).1

-- After a row of reads and writes, refused ones among them, the index has counted those of sixteen bits, modulo 16.
pub index_after : (p : BankPort) (xs : List Access) → (after p xs).index % 16 ≡ (p.index + counted xs) % 16
index_after p [] = omega arith
index_after p (x ∷ xs) =
    index_after (answer_to p x).port xs
    ∙ ⊎_elim
    (λ e. rw (steps p x e, eq-eqb (lanes_of x) 3 e) (omega arith))
    (λ d. rw (stays p x d, ne_eqb (lanes_of x) 3 d))
    (cases_eq (lanes_of x) 3)

-- Once it has stepped it is one of 0 to 15.
stays_small : (p : BankPort) (xs : List Access) → p.index < 16 → (after p xs).index < 16
stays_small p [] h = h
stays_small p (x ∷ xs) h =
    stays_small (answer_to p x).port xs
    (⊎_elim (λ e. rw (steps p x e) (omega arith)) (λ d. rw (stays p x d) h) (cases_eq (lanes_of x) 3))

-- After the first access of sixteen bits the index is 0 to 15.
pub index_small : (p : BankPort) (xs : List Access) → 0 < counted xs → (after p xs).index < 16
index_small p [] h = absurd (omega arith)
index_small p (x ∷ xs) h =
    ⊎_elim
    (λ e. stays_small (answer_to p x).port xs (rw (steps p x e) (omega arith)))
    (λ d. index_small (answer_to p x).port xs (rw (ne_eqb (lanes_of x) 3 d) at h))
    (cases_eq (lanes_of x) 3)

-- Sixteen accesses of sixteen bits, whatever others are refused between them, return the index to its start, modulo 16.
pub sixteen_return : (p : BankPort) (xs : List Access) → counted xs ≡ 16 → (after p xs).index ≡ p.index % 16
sixteen_return p xs e =
    let small = index_small p xs (omega (arith, e)) in
    omega (arith, e, index_after p xs, small)
