-- Calls one after the other on what is lent, each access done by one call or by two: the words of demand 3 at the door.
--   Lent, told, left         what is lent, and what one call tells and leaves
--   control_in               HSTCTL, as the image has it
--   opening, closing         the two byte calls of a sixteen-bit access, in the order that LBL commands when it begins
--   Unpacks p x              the number p is the answer x, packed
--   at_the_door              what a call may do, by its contract
use Rattle.std.specs.Prelude.{ℕ, cond, List, ◌≡◌}
use Rattle.control.specs.Control.{first_lane, last_lane}
use Rattle.port_spec.specs.Calls.{Call}
use Rattle.port_spec.specs.Cycle.{cycle_number}
use Rattle.port_spec.specs.Sequences.{Sixteen, on}
use Rattle.port_spec.specs.declared.Access.{Access}
use Rattle.port_spec.specs.declared.Answer.{Answer}
use Rattle.door_spec.specs.Image.{registers_of}
use Rattle.door_spec.specs.Door.{call_tells, call_image, call_memory, Called}
use Rattle.door_spec.specs.InPlainWords.{word_in, number_in, hollow_in, cycle_in, rest_in}

pub record Lent : Type 0 where
  pub image : List ℕ
  pub memory : List ℕ

abbrev pub told : Lent → Access → Answer
told l a = call_tells l.image l.memory a

abbrev pub left : Lent → Access → Lent
left l a = record { image = call_image l.image l.memory a; memory = call_memory l.image l.memory a }

abbrev pub control_in : Lent → ℕ
control_in l = (registers_of l.image).control

-- "A word done byte by byte ends with its closing byte"
abbrev pub opening : Lent → Sixteen → Access
opening l x = on (first_lane (control_in l)) x

abbrev pub closing : Lent → Sixteen → Access
closing l x = on (last_lane (control_in l)) x

pub record Unpacks (p : ℕ) (a : Answer) : Type 0 where
  pub word : word_in p ≡ a.word
  pub number : number_in p ≡ a.number
  pub hollow : hollow_in p ≡ cond a.hollow 1 0
  pub cycle : cycle_in p ≡ cycle_number a.cycle
  pub rest : rest_in p ≡ 0

-- a call that answers with some number, and that number tells the answer x
abbrev pub at_the_door : Call Lent
at_the_door l a x t = (p : ℕ) × Called l.image l.memory a p t.image t.memory × Unpacks p x
