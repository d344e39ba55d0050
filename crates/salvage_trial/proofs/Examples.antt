-- Short records, carried out, by computation.
use mathlib.Core.Path.{refl}
use mathlib.Core.List.{List, [], ◌∷◌}
use Prim.Native.Nat.{ℕ}
use Rattle.transcript_spec.specs.Reading.{with_group, head_read, word_read, byte_taken, feed, feeds}
use Rattle.salvage_spec.specs.InPlainWords.{answer}
use Rattle.salvage_spec.specs.Salvage.{salvage_answer, bytes_after}
use Rattle.salvage_trial.specs.CarriedOut.{answer_from, bytes_from, CarriedOut}

-- a read, a write of 1234h, a bad head
abbrev six : List ℕ
six = 0x1E ∷ 0x1D ∷ 0xA4 ∷ 0x34 ∷ 0x07 ∷ 0x20 ∷ []

abbrev blank : List ℕ
blank = 0xEE ∷ 0xEE ∷ 0xEE ∷ 0xEE ∷ 0xEE ∷ []

-- what short records leave, carried out
pub record Leaves : Type 0 where
  -- four bytes of six, and room for four of five
  pub all_good : CarriedOut 4 4 six blank (answer 0 2 0 0) (0x1E ∷ 0x1D ∷ 0xA4 ∷ 0x34 ∷ 0xEE ∷ [])
  -- three: the second record is cut off
  pub cut_off : CarriedOut 3 4 six blank (answer 0 1 2 20) (0x1E ∷ 0xEE ∷ 0xEE ∷ 0xEE ∷ 0xEE ∷ [])
  -- more than there are of both: the third record is bad
  pub all_lent : CarriedOut 255 6 six blank (answer 0 2 2 23) (0x1E ∷ 0x1D ∷ 0xA4 ∷ 0x34 ∷ 0xEE ∷ [])
  -- room for three, though four would be there
  pub no_room : CarriedOut 6 3 six blank (answer 24 0 0 0) blank

-- By computation: good records alone, one that is cut off behind them, a bad one, and too little room for them.
pub they_leave : Leaves
unfolding answer_from bytes_from with_group head_read word_read byte_taken feed feeds salvage_answer bytes_after
they_leave =
    record {
      all_good = record { answer = refl; bytes = refl };
      cut_off = record { answer = refl; bytes = refl };
      all_lent = record { answer = refl; bytes = refl };
      no_room = record { answer = refl; bytes = refl };
    }
