-- Lines of a script, carried out one after another.
--   World, world      the state, the room and the list
--   line_at s n       line n of a script's bytes
--   answered, called  what a call answers, and the world that it leaves
--   all_calls s n     each of the first n lines is a call
--   after_lines w s n the world after them
--   printed w s n     what is printed of them
--   RanLines          what carrying out the whole lines of a piece of the input leaves
--   CalledTurn        what a turn leaves
use Rattle.std.specs.Prelude.{ℕ, zero, suc, ◌*◌, ◌/◌, ◌≤◌, ◌<◌, Bool, true, false, ◌&&◌, List, [], ◌++◌, ◌≡◌, length, take, drop}
use Rattle.script.specs.Script.{is_call, call_in}
use Rattle.script.specs.Answers.{line_of}
use Rattle.trial.specs.Calls.{answer_to, room_after, list_after}
use Rattle.script.specs.declared.Call.{Call}
use Rattle.script.specs.declared.State.{State}
use Rattle.script.specs.declared.Done.{Done}
use Rattle.trial.specs.declared.turns.Ran.{Ran}
use Rattle.trial.specs.declared.turns.Turn.{Turn}

pub record World : Type 0 where
  pub state : State
  pub room : List ℕ
  pub list : List ℕ

abbrev pub world : State → List ℕ → List ℕ → World
world s room list = record { state = s; room = room; list = list }

-- "lines of exactly 38 bytes"
abbrev pub line_at : List ℕ → ℕ → List ℕ
line_at s n = take 38 (drop (38 * n) s)

abbrev pub answered : World → Call → Done
answered w c = answer_to w.state w.room w.list c

abbrev pub called : World → Call → World
called w c =
    record {
      state = (answered w c).state;
      room = room_after w.state w.room w.list c;
      list = list_after w.state w.room w.list c;
    }

unfoldable pub all_calls : List ℕ → ℕ → Bool
all_calls s zero = true
all_calls s (suc n) = all_calls s n && is_call (line_at s n)

unfoldable pub after_lines : World → List ℕ → ℕ → World
after_lines w s zero = w
after_lines w s (suc n) = called (after_lines w s n) (call_in (line_at s n))

-- "a line of exactly 47 bytes for each call"
unfoldable pub printed : World → List ℕ → ℕ → List ℕ
printed w s zero = []
printed w s (suc n) =
    printed w s n ++ line_of (call_in (line_at s n)).letter (answered (after_lines w s n) (call_in (line_at s n)))

-- "Anything else in the input .. ends the run ..; the calls before it are carried out"
pub record RanLines (w : World) (s : List ℕ) (r : Ran) (room list output : List ℕ) : Type 0 where
  pub most : r.calls ≤ length s / 38
  pub calls : all_calls s r.calls ≡ true
  pub cut : r.calls < length s / 38 → is_call (line_at s r.calls) ≡ false
  pub left : world r.state room list ≡ after_lines w s r.calls
  pub written : take (47 * r.calls) output ≡ printed w s r.calls

-- what a turn leaves: of the bytes that it read, which nothing here can know, it carried out some lines, all of them calls
pub record CalledTurn (w : World) (t : Turn) (room list : List ℕ) : Type 0 where
  pub script : List ℕ
  pub lines : ℕ
  pub calls : all_calls script lines ≡ true
  pub left : world t.state room list ≡ after_lines w script lines
