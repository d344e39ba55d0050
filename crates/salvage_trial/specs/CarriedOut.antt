-- A record carried out: crates/salvage_trial/src/main.rt.
--   answer_from, bytes_from   of a salvage that is lent k places of the damaged transcript and m places to be written, or all where there
--                             are fewer: its answer, and all the bytes to be written afterwards
--   CarriedOut                these, as the contract of carrying out a record
use Rattle.std.specs.Prelude.{ℕ, ◌≡◌, List, length}
use Rattle.words.specs.Lent.{lent, given_back}
use Rattle.salvage_spec.specs.Salvage.{salvage_answer, bytes_after}
use Rattle.salvage_spec.specs.declared.Salvaged.{Salvaged}

module _ (k m : ℕ) (s out : List ℕ) where
  unfoldable pub answer_from : Salvaged
  answer_from = salvage_answer (lent k s) (length (lent m out))

  unfoldable pub bytes_from : List ℕ
  bytes_from = given_back m out (bytes_after (lent k s) (lent m out))

pub record CarriedOut (k m : ℕ) (s out : List ℕ) (o : Salvaged) (out' : List ℕ) : Type 0 where
  pub answer : o ≡ answer_from k m s out
  pub bytes : out' ≡ bytes_from k m s out
