-- A day at the bench: accesses done in place one after another, on one register record and one memory. The words of the laws in
-- `WholeDay`. Document 01, 'Blocks and the two doors'.
--   in_place                  what an access in place may do, by its contract
--   Day s l xs t              the accesses l, done in place from s on, answered xs and left t
--   ByteDay s l ps t          the sixteen-bit accesses l, each done in place as two byte accesses, answered the pairs ps and left t
--   day_answers, day_ends     the same accesses done by value, each on what the last one returned: what they answer, where they end
--   wholes l                  sixteen-bit accesses, each done whole
--   by_host l                 accesses as deeds of the host
use Rattle.std.specs.Prelude.{List, [], ◌∷◌, map}
use Rattle.port_spec.specs.Calls.{Call, ByBytes, control_of}
use Rattle.port_spec.specs.Sequences.{Machine, answer_of, after, Sixteen, on}
use Rattle.port_spec.specs.Deeds.{Deed, host}
use Rattle.port_spec.specs.declared.Access.{Access}
use Rattle.port_spec.specs.declared.Answer.{Answer}
use Rattle.in_place.specs.InPlace.{AccessedInPlace}

abbrev pub in_place : Call Machine
in_place s a x t = AccessedInPlace s.registers s.memory a x t.registers t.memory

-- "The bench keeps one register record for the day": each access finds the record and the memory as the one before left them
pub data Day : Machine → List Access → List Answer → Machine → Type 0 where
  over : {s : Machine} → Day s [] [] s
  next : {s u t : Machine} {a : Access} {x : Answer} {l : List Access} {xs : List Answer} →
      in_place s a x u → Day u l xs t → Day s (a ∷ l) (x ∷ xs) t

-- demand 3, on the bench's record
abbrev pub ByteDay : Machine → List Sixteen → List (Answer × Answer) → Machine → Type 0
ByteDay s l ps t = ByBytes in_place control_of s l ps t

-- "besides the form by value"
unfoldable pub day_answers : Machine → List Access → List Answer
day_answers s [] = []
day_answers s (a ∷ rest) = answer_of s a ∷ day_answers (after s a) rest

unfoldable pub day_ends : Machine → List Access → Machine
day_ends s [] = s
day_ends s (a ∷ rest) = day_ends (after s a) rest

abbrev pub wholes : List Sixteen → List Access
wholes l = map (on 3) l

abbrev pub by_host : List Access → List Deed
by_host l = map host l
