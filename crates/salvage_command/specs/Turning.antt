-- One turn of `salvage`: what the bytes at hand leave for the next one, and what is written of them. Crate `salvage_spec` has the meaning.
--   progress_of p piece    the progress p, with the bytes that are held at the front of the piece
--   held_count k left      how many bytes are held, of so many that are left, where k stopped it
--   leaving p all          what a turn leaves behind a bad record
--   Room                   what a turn begins with: buffers, and counts that can grow by a piece
--   Ready                  the same, when so many bytes are at hand: those that are held, and those that came behind them
--   Took                   what is made of the bytes at hand
--   SalvagedTurn           a whole turn: some bytes came behind those that are held
--   UnreadTurn             a turn that gives up: its read failed, the bytes stay, and nothing is laid out
--   SoFar                  between two turns: some pieces came one after another, and the progress is theirs
--   Tells                  a report of an input that came in pieces, what is held at the end being left too: `in_pieces` of crate
--                          `salvage_spec` says that it is that of the whole
use Rattle.std.specs.Prelude.{ℕ, ◌+◌, ◌-◌, ◌<◌, ◌≤◌, min, cond, List, ◌≡◌, ltb, length, take, drop, Result, Err}
use Rattle.input.specs.declared.Unread.{Unread}
use Rattle.salvage_spec.specs.Pieces.{beginning, may_go_on, piece_taken, piece_written, pieces_taken, Progress as SalvageProgress}
use Rattle.salvage_command.specs.declared.Turn.{Turn}
use Rattle.salvage_command.specs.declared.pieces.Progress.{Progress}
use Rattle.salvage_command.specs.declared.pieces.Taken.{Taken}
use Rattle.salvage_command.specs.declared.report.Report.{Report}

abbrev pub progress_of : Progress → List ℕ → SalvageProgress
progress_of p piece = record { kept = p.kept; held = take p.held piece; gone = p.gone; stop = p.stop }

abbrev pub held_count : ℕ → ℕ → ℕ
held_count k left = cond (may_go_on k) (min 4 left) 0

abbrev pub leaving : Progress → ℕ → Taken
leaving p all =
    record { progress = record { kept = p.kept; gone = p.gone + (all - p.held); held = p.held; stop = p.stop }; wrote = 0 }

pub record Room (p : Progress) (piece sound : List ℕ) : Type 0 where
  pub few : p.held ≤ 4
  pub holds : 4 < length piece
  pub fits : length piece ≤ length sound
  pub kept : p.kept + length piece < 18446744073709551616
  pub gone : p.gone + length piece < 18446744073709551616

pub record Ready (p : Progress) (piece sound : List ℕ) (all : ℕ) : Type 0 where
  pub room : Room p piece sound
  pub behind : p.held ≤ all
  pub within : all ≤ length piece

pub record Took (p : Progress) (bytes : List ℕ) (t : Taken) (piece' sound' : List ℕ) : Type 0 where
  pub progress : progress_of t.progress piece' ≡ piece_taken (progress_of p bytes) (drop p.held bytes)
  pub written : take t.wrote sound' ≡ piece_written (progress_of p bytes) (drop p.held bytes)
  pub few : t.progress.held ≤ 4
  pub fits : t.wrote ≤ length sound'
  pub kept : t.progress.kept ≤ p.kept + length bytes
  pub gone : t.progress.gone ≤ p.gone + length bytes

-- what came is `came`; no contract says which bytes that is
pub record SalvagedTurn (p : Progress) (piece : List ℕ) (t : Turn) (piece' sound' : List ℕ) : Type 0 where
  pub came : List ℕ
  pub progress : progress_of t.taken.progress piece' ≡ piece_taken (progress_of p piece) came
  pub written : take t.taken.wrote sound' ≡ piece_written (progress_of p piece) came
  pub fits : t.taken.wrote ≤ length sound'
  pub more : t.more ≡ ltb 0 (length came)
  pub few : t.taken.progress.held ≤ 4
  pub kept : t.taken.progress.kept ≤ p.kept + length piece
  pub gone : t.taken.progress.gone ≤ p.gone + length piece

pub record UnreadTurn (read : Result ℕ Unread) (piece sound : List ℕ) (u : Unread) (piece' sound' : List ℕ) : Type 0 where
  pub failed : read ≡ Err u
  pub stays : piece' ≡ piece
  pub nothing_laid : sound' ≡ sound

pub record SoFar (p : Progress) (piece : List ℕ) : Type 0 where
  pub pieces : List (List ℕ)
  pub made : progress_of p piece ≡ pieces_taken beginning pieces

pub record Tells (r : Report) : Type 0 where
  pub pieces : List (List ℕ)
  pub kept : r.kept ≡ (pieces_taken beginning pieces).kept
  pub left : r.left ≡ (pieces_taken beginning pieces).gone + length (pieces_taken beginning pieces).held
  pub stop : r.stop ≡ (pieces_taken beginning pieces).stop
