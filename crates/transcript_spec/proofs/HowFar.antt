-- How far a string is read: no further than it reaches, and to its end where no record is bad; each record begins behind the one before,
-- and has a byte of its own. A record that turns out to be bad has 21, 22 or 23: 20 comes only with the end.
use Prim.Native.Nat.{ℕ, suc, ◌+◌, ◌≤◌}
use native.Mathlib.Omega.{arith}
use mathlib.Core.Path.{◌≡◌, refl, sym, ap, ◌∙◌}
use mathlib.Core.Bool.{Bool, true, false, cond}
use mathlib.Core.List.{List, [], ◌∷◌}
use mathlib.Core.Logic.{◌⊎◌, inl, inr, ⊎_elim, ◌≢◌}
use lib.Dec.{eqb}
use lib.ListN.{length, length-append}
use borrow.Author.Tests.{eq-eqb, ne_eqb, eqb-false}
use Rattle.std.proofs.lemmas.Bool.{cases_Bool, cases_eq}
use Rattle.transcript_spec.specs.Reading.{Reading, byte_taken, fed, feed, feeds, cut_off, ended}
use Rattle.transcript_spec.specs.declared.Step.{Step}
use Rattle.transcript_spec.specs.declared.Step.TheVariants.{Goes, Whole, Bad}
use Rattle.transcript_spec.proofs.BadNumbers.{bad_range}
use Rattle.transcript_spec.proofs.ReadingOn.{stays_refused}

-- what k bytes more can make of the reading r: r'
pub record Further (r : Reading) (k : ℕ) (r' : Reading) : Type 0 where
  pub most : r'.next ≤ r.next + k
  pub all : r'.refusal ≡ 0 → r'.next ≡ r.next + k
  pub behind : r.from ≤ r.next → r'.from ≤ r'.next
  pub few : length r'.got ≤ length r.got + k

step_further : (r : Reading) (x : Step) → Further r 1 (fed r.got r.from (r.next + 1) x)
step_further r (Goes p) = record { most = omega arith; all = λ _. refl; behind = λ h. omega arith; few = omega arith }
step_further r (Whole e) =
    record { most = omega arith; all = λ _. refl; behind = λ h. omega arith; few = simp length-append (omega arith) }
step_further r (Bad n) = record { most = omega arith; all = λ _. refl; behind = λ h. omega arith; few = omega arith }

byte_further : (r : Reading) (b : ℕ) → Further r 1 (feed r b)
unfolding feed
byte_further r b = ⊎_elim goes stays (cases_Bool (eqb r.refusal 0))
  where
    goes : eqb r.refusal 0 ≡ true →
        Further r 1 (cond (eqb r.refusal 0) (fed r.got r.from (r.next + 1) (byte_taken r.part b)) r)
    goes e = rw e (step_further r (byte_taken r.part b))

    stays : eqb r.refusal 0 ≡ false →
        Further r 1 (cond (eqb r.refusal 0) (fed r.got r.from (r.next + 1) (byte_taken r.part b)) r)
    stays e =
        rw e
        (record {
          most = omega arith;
          all = λ z. absurd (eqb-false r.refusal 0 e z);
          behind = λ h. h;
          few = omega arith;
        })

-- Where nothing is refused in the end, nothing was before.
pub good_before : (r : Reading) (s : List ℕ) → (feeds r s).refusal ≡ 0 → r.refusal ≡ 0
good_before r s z =
    ⊎_elim (λ e. e) (λ d. absurd (d (sym (ap (λ (x : Reading). x.refusal) (stays_refused r s d)) ∙ z))) (cases_eq r.refusal 0)

two_further : (r r' r'' : Reading) (k : ℕ) → Further r 1 r' → Further r' k r'' → (r''.refusal ≡ 0 → r'.refusal ≡ 0) → Further r (suc k) r''
two_further r r' r'' k p q good =
    record {
      most = omega (arith, p.most, q.most);
      all = λ z. omega (arith, p.all (good z), q.all z);
      behind = λ h. q.behind (p.behind h);
      few = omega (arith, p.few, q.few);
    }

-- A string is read no further than it reaches, and to its end where nothing is refused; the record that is being read begins no later than
-- the next byte, if it did before; and no more entries are added than there are bytes.
pub goes_further : (r : Reading) (s : List ℕ) → Further r (length s) (feeds r s)
unfolding feeds
goes_further r [] = record { most = omega arith; all = λ _. omega arith; behind = λ h. h; few = omega arith }
goes_further r (b ∷ s) =
    two_further r (feed r b) (feeds (feed r b) s) (length s) (byte_further r b) (goes_further (feed r b) s) (good_before (feed r b) s)

-- ---- refusals

-- a refusal that can come before a string's end: none, or 21, 22 or 23
abbrev pub EarlyRefusal : ℕ → Type 0
EarlyRefusal n = (n ≡ 0) ⊎ ((21 ≤ n) × (n ≤ 23))

byte_early : (r : Reading) (b : ℕ) → EarlyRefusal r.refusal → EarlyRefusal (feed r b).refusal
unfolding feed
byte_early r b h = either (eqb r.refusal 0)
  where
    made : (x : Step) → byte_taken r.part b ≡ x → EarlyRefusal (fed r.got r.from (r.next + 1) x).refusal
    made (Goes p) e = inl refl
    made (Whole y) e = inl refl
    made (Bad n) e = inr (bad_range r.part b e)

    either : (t : Bool) → EarlyRefusal (cond t (fed r.got r.from (r.next + 1) (byte_taken r.part b)) r).refusal
    either true = made (byte_taken r.part b) refl
    either false = h

-- Before its end a string is refused with 21, 22 or 23 alone: 20 comes only with the end.
pub early_refusal : (r : Reading) (s : List ℕ) → EarlyRefusal r.refusal → EarlyRefusal (feeds r s).refusal
unfolding feeds
early_refusal r [] h = h
early_refusal r (b ∷ s) h = early_refusal (feed r b) s (byte_early r b h)

-- ---- the end

-- A string with a bad record is refused with that record's number.
pub ends_bad : (r : Reading) → r.refusal ≢ 0 → ended r ≡ r.refusal
ends_bad r d = ap (λ (t : Bool). cond t (cut_off r.part) r.refusal) (ne_eqb r.refusal 0 d)

-- A string without a bad record is refused with 20 if a number is cut off or missing at its end, and else not.
pub ends_good : (r : Reading) → r.refusal ≡ 0 → ended r ≡ cut_off r.part
ends_good r z = ap (λ (t : Bool). cond t (cut_off r.part) r.refusal) (eq-eqb r.refusal 0 z)
