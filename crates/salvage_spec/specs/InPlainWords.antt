-- Salvage in plain words, record by record: what the laws say of it. Document 02, request (xii).
--   Rest u n               what is left behind good records: nothing, with n 0, or a bad record, whose refusal is n
--   Divides s es t u n     the string s is good records t, those of the entries es, and the rest u, stopped by n
--   answer n kept left k   an answer, by its parts
--   SalvagedAs             what salvage answers of a string: each answer, when and only then
--   SalvagedAll            what a salvage leaves that is done
--   written s o out'       the bytes that it wrote: as many as it did not leave
use Rattle.std.specs.Prelude.{ℕ, ◌-◌, ◌<◌, ◌≤◌, ◌≡◌, List, [], ◌++◌, length, take, drop}
use Rattle.transcript_spec.specs.InPlainWords.{Sound, BadRecord}
use Rattle.transcript_spec.specs.declared.Entry.{Entry}
use Rattle.salvage_spec.specs.declared.Salvaged.{Salvaged}

-- "the next record, if any, is bad"
pub data Rest : List ℕ → ℕ → Type 0 where
  none_left : Rest [] 0
  next_bad : {u : List ℕ} {n : ℕ} → BadRecord u n → Rest u n

-- "whole good records from the start"
pub record Divides (s : List ℕ) (es : List Entry) (t u : List ℕ) (n : ℕ) : Type 0 where
  pub all : s ≡ t ++ u
  pub good : Sound t es
  pub behind : Rest u n

abbrev pub answer : ℕ → ℕ → ℕ → ℕ → Salvaged
answer n kept left k = record { number = n; kept = kept; left = left; stop = k }

-- "24 when that run doesn't fit the caller's bytes": all parts 0
pub data SalvagedAs (s : List ℕ) (room : ℕ) : Salvaged → Type 0 where
  done : {es : List Entry} {t u : List ℕ} {n : ℕ} → Divides s es t u n → length t ≤ room →
      SalvagedAs s room (answer 0 (length es) (length u) n)
  too_small : {es : List Entry} {t u : List ℕ} {n : ℕ} → Divides s es t u n → room < length t → SalvagedAs s room (answer 24 0 0 0)

-- the entries and the bytes that were kept, and the bytes that were left
pub record SalvagedAll (s out : List ℕ) (o : Salvaged) (out' : List ℕ) : Type 0 where
  pub entries : List Entry
  pub kept : List ℕ
  pub left : List ℕ
  pub divides : Divides s entries kept left o.stop
  pub count : o.kept ≡ length entries
  pub bytes_left : o.left ≡ length left
  pub fits : length kept ≤ length out
  pub written : take (length kept) out' ≡ kept
  pub later : drop (length kept) out' ≡ drop (length kept) out

abbrev pub written : List ℕ → Salvaged → List ℕ → List ℕ
written s o out' = take (length s - o.left) out'
