-- What the host is told: a read its register's word as it stood, a write nothing. Document 01, 'The four host registers':
-- "word (0 for a write)", "hollow mark (false but for reads of register 2)".
use Prim.Native.Nat.{ℕ}
use mathlib.Core.Path.{◌≡◌, refl, ap}
use mathlib.Core.Bool.{false}
use mathlib.Core.List.{List}
use Rattle.words.specs.Bytes.{shown}
use Rattle.registers.specs.Registers.{register_word}
use Rattle.registers.specs.declared.Registers.{Registers}
use Rattle.port_spec.specs.Host.{begin_access, done, access}
use Rattle.port_spec.specs.declared.Access.TheVariants.{Read, Write}
use Rattle.port_spec.specs.declared.Outcome.{Outcome}
use Rattle.port_spec.proofs.Taken.{either_done, as_done}

-- A read that is done answers its register's word as it stood, on the lanes asked for.
pub read_answers : (r : Registers) (m : List ℕ) (k lanes : ℕ) → (access r m (Read k lanes)).answer.number ≡ 0 →
    (access r m (Read k lanes)).answer.word ≡ shown lanes (register_word r k)
unfolding done begin_access
read_answers r m k lanes n =
    ap (λ (o : Outcome). o.answer.word) (as_done r m (Read k lanes) n)

-- A write answers no word and no mark, done or refused.
pub record Silent (r : Registers) (m : List ℕ) (k lanes w : ℕ) : Type 0 where
  pub word : (access r m (Write k lanes w)).answer.word ≡ 0
  pub hollow : (access r m (Write k lanes w)).answer.hollow ≡ false

-- Every write answers word 0 and no mark, done or refused.
pub write_is_silent : (r : Registers) (m : List ℕ) (k lanes w : ℕ) → Silent r m k lanes w
unfolding done begin_access
write_is_silent r m k lanes w =
    record {
      word = either_done r m (Write k lanes w) (λ (o : Outcome). o.answer.word ≡ 0) refl (λ _. refl);
      hollow = either_done r m (Write k lanes w) (λ (o : Outcome). o.answer.hollow ≡ false) refl (λ _. refl);
    }
