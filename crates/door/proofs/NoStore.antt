-- A cycle that is no store: a read calls for no other, and by the tag of what is due a function tells it from a store.
use Prim.Native.Nat.{ℕ}
use native.Mathlib.Omega.{arith}
use mathlib.Core.Path.{◌≡◌, refl}
use mathlib.Core.Bool.{Bool, true, false, cond, ◌&&◌, true≢false}
use mathlib.Core.List.{List}
use mathlib.Core.Logic.{◌⊎◌, inl, inr, ◌≢◌}
use denote.Enum.Declared.{tag_of}
use lib.Dec.{eqb}
use Rattle.control.specs.Control.{closes}
use Rattle.registers.specs.declared.Registers.{Registers}
use Rattle.port_spec.specs.Cycle.{carried}
use Rattle.port_spec.specs.Host.{begin_access, read_due}
use Rattle.port_spec.specs.declared.Access.TheVariants.{Read}
use Rattle.port_spec.specs.declared.Cycle.TheVariants.{None}
use Rattle.port_spec.specs.declared.Due.{Due}
use Rattle.port_spec.specs.declared.Due.TheVariants.{Nothing, Fetch, Store}
use Rattle.port_spec.specs.contracts.Due.{the_type}
use Rattle.door.specs.Parts.{is_store, bytes_after, CycledBytes}

-- What a read calls for is no store, whatever its register and lanes.
pub read_is_no_store : (r : Registers) (register lanes : ℕ) → is_store (begin_access r (Read register lanes)).due ≡ false
unfolding begin_access read_due
read_is_no_store r register lanes = go (eqb register 2 && closes r.control lanes) _
  where
    go : (t s : Bool) → is_store (cond t (Fetch s) Nothing) ≡ false
    go true s = refl
    go false s = refl

-- Where the tag of what is due is not that of a store, it is no store.
pub tagged_no_store : (due : Due) → (tag_of the_type due ≡ 0) ⊎ (tag_of the_type due ≡ 1) → is_store due ≡ false
tagged_no_store Nothing k = refl
tagged_no_store (Fetch s) k = refl
tagged_no_store (Store s) (inl e) = absurd (omega (arith, e))
tagged_no_store (Store s) (inr e) = absurd (omega (arith, e))

-- Where no store is due, and by its tag no fetch, no cycle is: registers and bytes stay as they are.
pub idle_cycle : (r : Registers) (due : Due) (b : List ℕ) → is_store due ≡ false →
    (tag_of the_type due ≡ 0) ⊎ (tag_of the_type due ≡ 2) → CycledBytes r due b (record { registers = r; cycle = None }) b
unfolding carried bytes_after
idle_cycle r Nothing b n k = record { outcome = refl; memory = refl }
idle_cycle r (Fetch s) b n (inl e) = absurd (omega (arith, e))
idle_cycle r (Fetch s) b n (inr e) = absurd (omega (arith, e))
idle_cycle r (Store s) b n k = absurd (true≢false n)

-- What is due is no store where it is none of the stores.
pub no_store : (due : Due) → ((s : Bool) → due ≢ Store s) → is_store due ≡ false
no_store Nothing k = refl
no_store (Fetch s) k = refl
no_store (Store s) k = absurd (k s refl)

-- The tag of what is due, where it is none of the fetches.
pub tag_of_no_fetch : (due : Due) → ((s : Bool) → due ≢ Fetch s) → (tag_of the_type due ≡ 0) ⊎ (tag_of the_type due ≡ 2)
tag_of_no_fetch Nothing k = inl refl
tag_of_no_fetch (Fetch s) k = absurd (k s refl)
tag_of_no_fetch (Store s) k = inr refl
