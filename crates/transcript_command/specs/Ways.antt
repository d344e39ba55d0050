-- The two ways of the program, by its argument.
--   bytes_word, lines_word   `bytes`, `lines`
--   Named a w                the argument a names the way w, or none
--   TurnedTo                 what turning leaves, to bytes or to lines
use Rattle.std.specs.Prelude.{◌≡◌, ℕ, ◌≢◌, List, [], ◌∷◌, Option, Some, None, Result}
use Rattle.transcript_spec.specs.Lists.{Lists}
use Rattle.transcript_exchange.specs.Turning.{ToBytes, ToLines}
use Rattle.transcript_exchange.specs.declared.NotTurned.{NotTurned}
use Rattle.transcript_command.specs.declared.Way.{Way}
use Rattle.transcript_command.specs.declared.Way.TheVariants.{Bytes, Lines}

abbrev pub bytes_word : List ℕ
bytes_word = 98 ∷ 121 ∷ 116 ∷ 101 ∷ 115 ∷ []

abbrev pub lines_word : List ℕ
lines_word = 108 ∷ 105 ∷ 110 ∷ 101 ∷ 115 ∷ []

abbrev pub Named : List ℕ → Option Way → Type 0
Named a (Some Bytes) = a ≡ bytes_word
Named a (Some Lines) = a ≡ lines_word
Named a None = (a ≢ bytes_word) × (a ≢ lines_word)

pub data TurnedTo : Way → List ℕ → Lists → List ℕ → Result ℕ NotTurned → Lists → List ℕ → Type 0 where
  lines_turned : {t : List ℕ} {l : Lists} {out : List ℕ} {o : Result ℕ NotTurned} {l' : Lists} {out' : List ℕ} →
      ToBytes t l out o l' out' → TurnedTo Bytes t l out o l' out'
  bytes_turned : {s : List ℕ} {l : Lists} {out : List ℕ} {o : Result ℕ NotTurned} {l' : Lists} {out' : List ℕ} →
      ToLines s l out o l' out' → TurnedTo Lines s l out o l' out'
