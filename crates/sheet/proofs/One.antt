-- Any two outcomes that the statement of a part of a sheet allows are one. Of the whole sheet that is `one_struck`, in crate sheet_spec.
use Prim.Native.Nat.{ℕ}
use mathlib.Core.Path.{◌≡◌, ap, ◌∙◌}
use mathlib.Core.Bool.{Bool}
use mathlib.Core.List.{List}
use lib.Ieee.{Float}
use Rattle.words.specs.declared.BitAddress.{BitAddress}
use Rattle.words.proofs.One.{one_value}
use Rattle.registers.specs.declared.Registers.{Registers}
use Rattle.port_spec.specs.Sequences.{Machine}
use Rattle.sheet_spec.specs.declared.Sheet.{Sheet}
use Rattle.sheet.specs.Parts.{ReadTicks, TookTicks, ReadTable}
use Rattle.sheet.specs.declared.TicksRead.{TicksRead}

module _ {s : Machine} {n : ℕ} where
  -- The reads of some ticks have one outcome.
  pub one_read_ticks : {o p : TicksRead} {m' m'' x y : List ℕ} →
      ReadTicks s n o m' x → ReadTicks s n p m'' y → (o ≡ p) × (m' ≡ m'') × (x ≡ y)
  one_read_ticks {o} {p} a b =
      let e = one_value a.ends_at b.ends_at in (
        ap (λ (q : Registers). record { registers = q; hollow = o.hollow }) (ap (λ (t : Machine). t.registers) e) ∙
            ap (λ (h : Bool). record { registers = p.registers; hollow = h }) (one_value a.hollow b.hollow),
        ap (λ (t : Machine). t.memory) e,
        one_value a.words b.words,
      )

  -- Ticks that are read, judged and timed have one outcome.
  pub one_took_ticks : {rule : ℕ} {l : List Float} {o p : Sheet} {m' m'' : List ℕ} {l' l'' : List Float} →
      TookTicks s rule n l o m' l' → TookTicks s rule n l p m'' l'' → (o ≡ p) × (m' ≡ m'') × (l' ≡ l'')
  one_took_ticks a b = (one_value a.outcome b.outcome, one_value a.memory b.memory, one_value a.list b.list)

  -- A whole table, read from its count word on, has one outcome.
  pub one_read_table : {a : BitAddress} {rule : ℕ} {l : List Float} {o p : Sheet} {m' m'' : List ℕ} {l' l'' : List Float} →
      ReadTable s a rule n l o m' l' → ReadTable s a rule n l p m'' l'' → (o ≡ p) × (m' ≡ m'') × (l' ≡ l'')
  one_read_table a b = (one_value a.outcome b.outcome, one_value a.memory b.memory, one_value a.list b.list)
