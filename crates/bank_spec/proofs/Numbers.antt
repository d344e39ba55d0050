-- Demand 1 for the bank selects: each number of an access and of a decode "when, and only then", and what a refusal answers and leaves.
use Prim.Native.Nat.{ℕ, ◌<◌, ◌≤◌}
use native.Mathlib.Omega.{arith}
use mathlib.Core.Path.{◌≡◌, refl, sym, subst, ◌∙◌}
use mathlib.Core.Bool.{true, false, cond}
use mathlib.Core.Logic.{◌⊎◌, inl, inr, ⊎_elim, ◌↔◌, ◌≢◌}
use lib.Dec.{eqb}
use borrow.Author.Tests.{eq-eqb, ne_eqb, lt-ltb, le-ltb}
use Rattle.words.specs.Bytes.{are_lanes}
use Rattle.std.proofs.lemmas.Bool.{cases_Bool, cases_eq, cases_lt}
use Rattle.words.proofs.Lanes.{lanes_named, lanes_unnamed}
use Rattle.bank_spec.specs.Access.{refusal, refused, read_answer, write_answer}
use Rattle.bank_spec.specs.Decode.{decoded}
use Rattle.bank_spec.specs.declared.BankPort.{BankPort}
use Rattle.bank_spec.specs.declared.BankAnswer.{BankAnswer}
use Rattle.bank_spec.specs.declared.Banks.{Banks}
use Rattle.bank_spec.specs.declared.Decoded.{Decoded}
use Rattle.words.specs.declared.BitAddress.{BitAddress}

-- "when, and only then": the number is n and so is its reason, or neither
stated : {v n : ℕ} {A : Type 0} → v ≡ n → A → v ≡ n ↔ A
stated e a = (λ _. a, λ _. e)

unstated : {v n : ℕ} {A : Type 0} → v ≢ n → (A → ⊥) → v ≡ n ↔ A
unstated d f = (λ e. absurd (d e), λ a. absurd (f a))

-- ---- an access

-- v is the number for these lanes: 3 for those that are none, 30 for those of one byte
pub record BankWhen (lanes v : ℕ) : Type 0 where
  pub listed : (v ≡ 0) ⊎ (v ≡ 3) ⊎ (v ≡ 30)
  pub no_lanes : v ≡ 3 ↔ (lanes ≡ 0) ⊎ (3 < lanes)
  pub of_bytes : v ≡ 30 ↔ (lanes ≡ 1) ⊎ (lanes ≡ 2)
  pub done : v ≡ 0 ↔ lanes ≡ 3

-- The number for some lanes is 3 exactly if they are 0 or over 3, 30 exactly if they are 1 or 2, 0 exactly if they are 3, and no other.
pub when : (lanes : ℕ) → BankWhen lanes (refusal lanes)
unfolding refusal
when lanes = ⊎_elim (λ p. ⊎_elim (whole p) (byte p) (cases_eq lanes 3)) none (cases_Bool (are_lanes lanes))
  where
    none : are_lanes lanes ≡ false → BankWhen lanes (refusal lanes)
    none p =
        let u = lanes_unnamed lanes p in
        rw p
        (record {
          listed = inr (inl refl);
          no_lanes = stated refl (⊎_elim inl (λ d. inr (omega (arith, d, u))) (cases_eq lanes 0));
          of_bytes = unstated (omega arith) (⊎_elim u.0 u.1);
          done = unstated (omega arith) u.2;
        })

    byte : are_lanes lanes ≡ true → lanes ≢ 3 → BankWhen lanes (refusal lanes)
    byte p d =
        let k = (lanes_named lanes).0 p in
        rw (p, ne_eqb lanes 3 d)
        (record {
          listed = inr (inr refl);
          no_lanes = unstated (omega arith) (⊎_elim (λ z. omega (arith, k, z)) (λ l. omega (arith, k, l)));
          of_bytes = stated refl (⊎_elim inl (λ n. inr (omega (arith, k, d, n))) (cases_eq lanes 1));
          done = unstated (omega arith) d;
        })

    whole : are_lanes lanes ≡ true → lanes ≡ 3 → BankWhen lanes (refusal lanes)
    whole p e =
        rw (p, eq-eqb lanes 3 e)
        (record {
          listed = inl refl;
          no_lanes = unstated (omega arith) (⊎_elim (λ z. omega (arith, e, z)) (λ l. omega (arith, e, l)));
          of_bytes = unstated (omega arith) (⊎_elim (λ z. omega (arith, e, z)) (λ z. omega (arith, e, z)));
          done = stated refl e;
        })

-- what an access with these lanes may answer: its number is that of the lanes; refused, it answers no word, and the port is as it was
-- passed, its index too
pub record AccessNumbers (p : BankPort) (lanes : ℕ) (o : BankAnswer) : Type 0 where
  pub number : BankWhen lanes o.number
  pub refused : o.number ≢ 0 → (o.word ≡ 0) × (o.port ≡ p)

module _ (p : BankPort) (lanes : ℕ) where
  -- an access that is o where its lanes are not refused
  judged : (o : BankAnswer) → o.number ≡ 0 → AccessNumbers p lanes (cond (eqb (refusal lanes) 0) o (refused (refusal lanes) p))
  judged o z = ⊎_elim accepted barred (cases_eq (refusal lanes) 0)
    where
      accepted : refusal lanes ≡ 0 → AccessNumbers p lanes (cond (eqb (refusal lanes) 0) o (refused (refusal lanes) p))
      accepted e =
          rw (eq-eqb (refusal lanes) 0 e)
          (record { number = subst (BankWhen lanes) (e ∙ sym z) (when lanes); refused = λ d. absurd (d z) })

      barred : refusal lanes ≢ 0 → AccessNumbers p lanes (cond (eqb (refusal lanes) 0) o (refused (refusal lanes) p))
      barred d = rw (ne_eqb (refusal lanes) 0 d) (record { number = when lanes; refused = λ _. (refl, refl) })

  -- Of a read, the number is 3 exactly if the lanes are 0 or over 3, 30 exactly if they are 1 or 2, 0 exactly if they are 3, and no other;
  -- refused, the word is 0 and the port as it was passed, its index too.
  pub read_numbers : AccessNumbers p lanes (read_answer p lanes)
  unfolding read_answer
  read_numbers = judged _ refl

  -- Of a write, the number is 3 exactly if the lanes are 0 or over 3, 30 exactly if they are 1 or 2, 0 exactly if they are 3, and no other;
  -- refused, the word is 0 and the port as it was passed, its index too.
  pub write_numbers : (w : ℕ) → AccessNumbers p lanes (write_answer p lanes w)
  unfolding write_answer
  write_numbers w = judged _ refl

-- ---- a decode

-- what a decode of this kind may answer: 31 if the kind is not 0, 1 or 2; refused, it shows no bank
pub record DecodeNumbers (kind : ℕ) (o : Decoded) : Type 0 where
  pub listed : (o.number ≡ 0) ⊎ (o.number ≡ 31)
  pub unknown : o.number ≡ 31 ↔ 2 < kind
  pub done : o.number ≡ 0 ↔ kind ≤ 2
  pub refused : o.number ≢ 0 →
      (o.bank0 ≡ false) × (o.bank1 ≡ false) × (o.bank2 ≡ false) × (o.bank3 ≡ false)

-- Of a decode, the number is 31 exactly if the kind is over 2, and 0 exactly otherwise; refused, no bank is shown.
pub decode_numbers : (b : Banks) (c : ℕ) (a : BitAddress) (kind : ℕ) → DecodeNumbers kind (decoded b c a kind)
unfolding decoded
decode_numbers b c a kind = ⊎_elim unknown known (cases_lt 2 kind)
  where
    unknown : 2 < kind → DecodeNumbers kind (decoded b c a kind)
    unknown l =
        rw (lt-ltb 2 kind l)
        (record {
          listed = inr refl;
          unknown = stated refl l;
          done = unstated (omega arith) (λ k. omega (arith, l, k));
          refused = λ _. (refl, refl, refl, refl);
        })

    known : kind ≤ 2 → DecodeNumbers kind (decoded b c a kind)
    known l =
        rw (le-ltb 2 kind l)
        (record {
          listed = inl refl;
          unknown = unstated (omega arith) (λ k. omega (arith, l, k));
          done = stated refl l;
          refused = λ d. absurd (d refl);
        })
