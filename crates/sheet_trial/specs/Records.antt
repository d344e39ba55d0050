-- Records of a script, carried out one after another. What the bytes of a record are that was read, nothing here can know.
--   StruckTurn  what a turn leaves: it carried out its record, the bytes b
--   Ran         what a run leaves: some records, each carried out on what the one before it left
use Rattle.std.specs.Prelude.{ℕ, List, Float}
use Rattle.sheet_spec.specs.declared.Sheet.{Sheet}
use Rattle.sheet_trial.specs.CarriedOut.{CarriedOut}

pub data StruckTurn (b room : List ℕ) (list : List Float) : List ℕ → List Float → Type 0 where
  one_record : {room' : List ℕ} {list' : List Float} {o : Sheet} → CarriedOut b room list o room' list' → StruckTurn b room list room' list'

-- "Both persist from sheet to sheet"
pub data Ran (room : List ℕ) (list : List Float) : List ℕ → List Float → Type 0 where
  no_records : Ran room list room list
  and_one :
      {b room₁ room₂ : List ℕ} {list₁ list₂ : List Float} {o : Sheet} →
      Ran room list room₁ list₁ → CarriedOut b room₁ list₁ o room₂ list₂ → Ran room list room₂ list₂
