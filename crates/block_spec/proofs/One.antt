-- Any two outcomes that a statement allows are one. The functions that are lent nothing to change state one equation each, and
-- `one_value` of crate words is their law.
use Prim.Native.Nat.{ℕ}
use mathlib.Core.Path.{◌≡◌, ap, ◌∙◌}
use mathlib.Core.List.{List}
use Rattle.words.proofs.One.{one_value}
use Rattle.registers.specs.declared.Registers.{Registers}
use Rattle.port_spec.specs.Sequences.{Machine}
use Rattle.block_spec.specs.Block.{ReadBlock, WrittenBlock}
use Rattle.block_spec.specs.Parts.{ReadInto, WrittenFrom}
use Rattle.block_spec.specs.declared.Run.{Run}
use Rattle.block_spec.specs.declared.BlockRead.{BlockRead}
use Rattle.block_spec.specs.declared.BlockWrite.{BlockWrite}

-- the two fields of what some accesses leave
one_run : {o p : Run} → o.registers ≡ p.registers → o.tallied ≡ p.tallied → o ≡ p
one_run {o} {p} e d =
    ap (λ (q : Registers). record { registers = q; tallied = o.tallied }) e ∙
    ap (λ (n : ℕ). record { registers = p.registers; tallied = n }) d

module _ {r : Registers} {m l : List ℕ} {place count : ℕ} where
  -- A block read has one outcome.
  pub one_block_read : {o p : BlockRead} {l' l'' : List ℕ} →
      ReadBlock r m l place count o l' → ReadBlock r m l place count p l'' → (o ≡ p) × (l' ≡ l'')
  one_block_read p q = (one_value p.outcome q.outcome, one_value p.list q.list)

  -- A block write has one outcome.
  pub one_block_write : {o p : BlockWrite} {m' m'' : List ℕ} →
      WrittenBlock r m l place count o m' → WrittenBlock r m l place count p m'' → (o ≡ p) × (m' ≡ m'')
  one_block_write p q = (one_value p.outcome q.outcome, one_value p.memory q.memory)

-- Some reads leave one outcome and fill their part in one way.
pub one_read_into : {s : Machine} {n : ℕ} {o p : Run} {x y : List ℕ} → ReadInto s n o x → ReadInto s n p y → (o ≡ p) × (x ≡ y)
one_read_into a b =
    (one_run (one_value a.registers b.registers) (one_value a.tallied b.tallied), one_value a.words b.words)

-- Some writes leave one outcome and one memory.
pub one_written_from : {s : Machine} {ws : List ℕ} {o p : Run} {x y : List ℕ} → WrittenFrom s ws o x → WrittenFrom s ws p y →
    (o ≡ p) × (x ≡ y)
one_written_from a b =
    (one_run (one_value a.registers b.registers) (one_value a.tallied b.tallied), one_value a.memory b.memory)
