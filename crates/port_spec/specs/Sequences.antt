-- Sequences of sixteen-bit accesses, each done whole or as two byte accesses: the words of demand 3.
--   Machine, machine r m        registers with a memory
--   after, answer_of            what one access leaves and answers there
--   Sixteen, on lanes a         a sixteen-bit access, and that access on some lanes
--   opening, closing            its two byte accesses, in the order that LBL commands when it begins
--   together                    what two byte answers tell together
--   answers, ends               a sequence done whole: what it answers, and where it ends
--   words_in                    the words that answers hand out
--   byte_answers, byte_ends     the same sequence done by bytes
use Rattle.std.specs.Prelude.{ℕ, ◌+◌, List, [], ◌∷◌, map}
use Rattle.control.specs.Control.{first_lane, last_lane}
use Rattle.registers.specs.declared.Registers.{Registers}
use Rattle.port_spec.specs.Host.{access, access_memory}
use Rattle.port_spec.specs.declared.Access.{Access}
use Rattle.port_spec.specs.declared.Access.TheVariants.{Read, Write}
use Rattle.port_spec.specs.declared.Answer.{Answer}

pub record Machine : Type 0 where
  pub registers : Registers
  pub memory : List ℕ

abbrev pub machine : Registers → List ℕ → Machine
machine r m = record { registers = r; memory = m }

unfoldable pub answer_of : Machine → Access → Answer
answer_of s a = (access s.registers s.memory a).answer

unfoldable pub after : Machine → Access → Machine
after s a =
    record {
      registers = (access s.registers s.memory a).registers;
      memory = access_memory s.registers s.memory a;
    }

-- a sixteen-bit access: a read of a register, or a write of a word to it
pub data Sixteen : Type 0 where
  load : ℕ → Sixteen
  save : ℕ → ℕ → Sixteen

abbrev pub on : ℕ → Sixteen → Access
on lanes (load register) = Read register lanes
on lanes (save register w) = Write register lanes w

-- the two byte accesses, in the order that LBL commands before the first of them (demand 3)
abbrev pub opening : Machine → Sixteen → Access
opening s a = on (first_lane s.registers.control) a

abbrev pub closing : Machine → Sixteen → Access
closing s a = on (last_lane s.registers.control) a

abbrev pub between : Machine → Sixteen → Machine
between s a = after s (opening s a)

-- the bytes' sum, and the second answer's number and marks
abbrev pub together : Answer → Answer → Answer
together x y = record { number = y.number; word = x.word + y.word; hollow = y.hollow; cycle = y.cycle }

unfoldable pub answers : Machine → List Sixteen → List Answer
answers s [] = []
answers s (a ∷ rest) = answer_of s (on 3 a) ∷ answers (after s (on 3 a)) rest

unfoldable pub ends : Machine → List Sixteen → Machine
ends s [] = s
ends s (a ∷ rest) = ends (after s (on 3 a)) rest

abbrev pub words_in : List Answer → List ℕ
words_in xs = map (λ x. x.word) xs

unfoldable pub byte_answers : Machine → List Sixteen → List Answer
byte_answers s [] = []
byte_answers s (a ∷ rest) =
    together (answer_of s (opening s a)) (answer_of (between s a) (closing s a)) ∷
    byte_answers (after (between s a) (closing s a)) rest

unfoldable pub byte_ends : Machine → List Sixteen → Machine
byte_ends s [] = s
byte_ends s (a ∷ rest) = byte_ends (after (between s a) (closing s a)) rest
