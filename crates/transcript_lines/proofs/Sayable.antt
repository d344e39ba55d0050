-- Which entries a line can say, in plain words; and that an entry which a line can say is that of its access, both ways.
use Prim.Native.Nat.{ℕ}
use native.Mathlib.Omega.{arith}
use mathlib.Core.Path.{◌≡◌, refl, sym, ap, ◌∙◌}
use mathlib.Core.Bool.{Bool, true, false, true≢false, cond, not, ◌&&◌, ◌||◌}
use mathlib.Core.Logic.{◌⊎◌, inl, inr, ◌↔◌}
use lib.Dec.{eqb, ltb}
use borrow.Author.Tests.{eqb-true, eqb-false, eq-eqb, ltb-false, le-ltb}
use Rattle.std.proofs.lemmas.Bool.{cases_Bool, or_parts}
use Rattle.port_spec.specs.declared.Access.{Access}
use Rattle.port_spec.specs.declared.Access.TheVariants.{Read, Write}
use Rattle.listing.specs.Spelled.{Sayable}
use Rattle.transcript_spec.specs.Writing.{no_record}
use Rattle.transcript_spec.specs.declared.Entry.{Entry}
use Rattle.transcript_lines.specs.InPlainWords.{HasLine}
use Rattle.transcript_lines.specs.Lines.{entry_of, access_of, unsayable}

of_read_is : (k w : ℕ) → eqb k 0 && not (eqb w 0) ≡ false → k ≡ 0 → w ≡ 0
of_read_is k w e z = eqb-true w 0 (go (eqb w 0) (rw (eq-eqb k 0 z) at e))
  where
    go : (b : Bool) → not b ≡ false → b ≡ true
    go true h = refl
    go false h = cc

of_read_test : (k w : ℕ) → (k ≡ 0 → w ≡ 0) → eqb k 0 && not (eqb w 0) ≡ false
of_read_test k w h = go (cases_Bool (eqb k 0))
  where
    go : (eqb k 0 ≡ true) ⊎ (eqb k 0 ≡ false) → eqb k 0 && not (eqb w 0) ≡ false
    go (inl e) = rw (e, eq-eqb w 0 (h (eqb-true k 0 e))) refl
    go (inr e) = rw e refl

-- A line can say an entry exactly if its kind is 0 or 1, its register and its lanes have one digit, and its word 16 bits, and is 0 for a
-- read.
pub sayable_when : (e : Entry) → unsayable e ≡ false ↔ HasLine e
unfolding unsayable no_record
sayable_when e = (to, from)
  where
    to : (ltb 65535 e.word || (ltb 1 e.kind || (eqb e.kind 0 && not (eqb e.word 0)))) ||
        (ltb 9 e.register || ltb 9 e.lanes) ≡ false → HasLine e
    to h =
        let p = or_parts _ _ h in
        let q = or_parts _ _ p.0 in
        let r = or_parts _ _ q.1 in
        let s = or_parts _ _ p.1 in
        record {
          kind = ltb-false 1 e.kind r.0;
          register = ltb-false 9 e.register s.0;
          lanes = ltb-false 9 e.lanes s.1;
          word = ltb-false 65535 e.word q.0;
          of_read = of_read_is e.kind e.word r.1;
        }

    from : HasLine e → (ltb 65535 e.word || (ltb 1 e.kind || (eqb e.kind 0 && not (eqb e.word 0)))) ||
        (ltb 9 e.register || ltb 9 e.lanes) ≡ false
    from s =
        rw (
          le-ltb 65535 e.word s.word,
          le-ltb 1 e.kind s.kind,
          of_read_test e.kind e.word s.of_read,
          le-ltb 9 e.register s.register,
          le-ltb 9 e.lanes s.lanes,
        )
        refl

-- No line can say an entry exactly if it is not so that its kind is 0 or 1, its register and its lanes have one digit, and its word 16
-- bits, and is 0 for a read.
pub unsayable_when : (e : Entry) → unsayable e ≡ true ↔ (HasLine e → ⊥)
unsayable_when e = (λ h s. true≢false (sym h ∙ (sayable_when e).1 s), go (cases_Bool (unsayable e)))
  where
    go : (unsayable e ≡ true) ⊎ (unsayable e ≡ false) → (HasLine e → ⊥) → unsayable e ≡ true
    go (inl h) none = h
    go (inr h) none = absurd (none ((sayable_when e).0 h))

-- ---- an entry and its access

-- What a line can ask for is an entry that a line can say, and the entry's access is what the line asks for.
pub entry_said : (a : Access) → Sayable a → (unsayable (entry_of a) ≡ false) × (access_of (entry_of a) ≡ a)
unfolding access_of
entry_said (Read register lanes) h = (
  (sayable_when _).1
      (record { kind = omega arith; register = omega (arith, h.0); lanes = omega (arith, h.1); word = omega arith; of_read = λ z. refl }),
  refl,
)
entry_said (Write register lanes w) h = (
  (sayable_when _).1
      (record {
        kind = omega arith;
        register = omega (arith, h.0);
        lanes = omega (arith, h.1);
        word = omega (arith, h.2);
        of_read = λ z. absurd (omega (arith, z));
      }),
  refl,
)

-- an entry whose kind and word are these has all its parts
same_entry : (e : Entry) (k w : ℕ) → e.kind ≡ k → e.word ≡ w →
    ◌≡◌ {A = Entry} (record { kind = k; register = e.register; lanes = e.lanes; word = w }) e
same_entry e k w p q =
    ap (λ (n : ℕ). record { kind = n; register = e.register; lanes = e.lanes; word = w }) (sym p) ∙
    ap (λ (n : ℕ). record { kind = e.kind; register = e.register; lanes = e.lanes; word = n }) (sym q)

-- An entry that a line can say is that of its access, and a line can ask for this access.
pub said_entry : (e : Entry) → unsayable e ≡ false → Sayable (access_of e) × (entry_of (access_of e) ≡ e)
unfolding access_of
said_entry e h = go ((sayable_when e).0 h) (cases_Bool (eqb e.kind 0))
  where
    go : HasLine e → (eqb e.kind 0 ≡ true) ⊎ (eqb e.kind 0 ≡ false) →
        Sayable (cond (eqb e.kind 0) (Read e.register e.lanes) (Write e.register e.lanes e.word)) ×
        (entry_of (cond (eqb e.kind 0) (Read e.register e.lanes) (Write e.register e.lanes e.word)) ≡ e)
    go s (inl z) =
        let read = eqb-true e.kind 0 z in
        rw z ((omega (arith, s.register), omega (arith, s.lanes)), same_entry e 0 0 read (s.of_read read))
    go s (inr z) =
        let write : e.kind ≡ 1 = omega (arith, s.kind, eqb-false e.kind 0 z) in
        rw z ((omega (arith, s.register), omega (arith, s.lanes), omega (arith, s.word)), same_entry e 1 e.word write refl)
