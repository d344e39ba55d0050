-- What an example is told with: document 01, 'Checked examples'. An example is a script in two columns: what is done or looked at, and what
-- comes out. Nothing here says how the model behaves: `seen` and `later` hand each act to the definitions of the other crates.
--   World              all that an act can change: the registers with the memory, and the bus
--   Act                what is done, or looked at
--   Seen               what comes out of it
--   seen, later        what comes out of an act by the definitions, and the world that it leaves
--   act ⇒ what         a step of an example: what is done, and what must come out
--   Example            a world to start with, and steps
--   replayed e         the example with its second column made anew by the definitions
--   left e             the world at its end
use Rattle.std.specs.Prelude.{ℕ, ℤ, List, [], ◌∷◌, length}
use Rattle.words.specs.Addresses.{address}
use Rattle.words.specs.Bytes.{lo}
use Rattle.bus.specs.Order.{granted, released}
use Rattle.bus.specs.declared.Bus.{Bus}
use Rattle.registers.specs.Processor.{processor_writes}
use Rattle.registers.specs.declared.Registers.{Registers}
use Rattle.port_spec.specs.Sequences.{Machine, answer_of, after}
use Rattle.port_spec.specs.declared.Access.{Access}
use Rattle.port_spec.specs.declared.Answer.{Answer}
use Rattle.field_spec.specs.Answers.{taken, taken_signed, put_answer, put_memory}
use Rattle.field_spec.specs.declared.Taken.{Taken}
use Rattle.field_spec.specs.declared.Put.{Put}

pub record World : Type 0 where
  pub machine : Machine
  pub bus : Bus

-- ---- what is done, and what comes out

pub data Act : Type 0 where
  -- by the host: `Read register lanes` or `Write register lanes word`
  host : Access → Act
  -- by the processor: a word written to a register
  processor : (register word : ℕ) → Act
  -- a field, by its size and bit address
  put : (size bit value : ℕ) → Act
  take : (size bit : ℕ) → Act
  take_signed : (size bit : ℕ) → Act
  -- of the bus
  grant : Act
  release : Act
  -- looked at, and left as it stands
  pointer : Act
  hstdata : Act
  low_control_byte : Act
  memory : Act

pub data Seen : Type 0 where
  answered : Answer → Seen
  put_in : Put → Seen
  taken_out : Taken ℕ → Seen
  taken_out_signed : Taken ℤ → Seen
  granted_to : (number source : ℕ) → Seen
  -- of the processor's write, and of a release
  number : ℕ → Seen
  -- of what is looked at
  is : ℕ → Seen
  words : List ℕ → Seen

unfoldable pub seen : World → Act → Seen
seen w (host a) = answered (answer_of w.machine a)
seen w (processor k v) = number (processor_writes w.machine.registers k v).number
seen w (put n b v) = put_in (put_answer (length w.machine.memory) (address b) n)
seen w (take n b) = taken_out (taken w.machine.memory (address b) n)
seen w (take_signed n b) = taken_out_signed (taken_signed w.machine.memory (address b) n)
seen w grant = granted_to (granted w.bus).number (granted w.bus).source
seen w release = number (released w.bus).number
seen w pointer = is w.machine.registers.pointer.0
seen w hstdata = is w.machine.registers.latch
seen w low_control_byte = is (lo w.machine.registers.control)
seen w memory = words w.machine.memory

-- ---- the world that an act leaves

abbrev pub with_registers : World → Registers → World
with_registers w r = record { machine = record { registers = r; memory = w.machine.memory }; bus = w.bus }

abbrev pub with_memory : World → List ℕ → World
with_memory w m = record { machine = record { registers = w.machine.registers; memory = m }; bus = w.bus }

abbrev pub with_bus : World → Bus → World
with_bus w b = record { machine = w.machine; bus = b }

unfoldable pub later : World → Act → World
later w (host a) = record { machine = after w.machine a; bus = w.bus }
later w (processor k v) = with_registers w (processor_writes w.machine.registers k v).registers
later w (put n b v) = with_memory w (put_memory w.machine.memory (address b) n v)
later w (take n b) = w
later w (take_signed n b) = w
later w grant = with_bus w (granted w.bus).bus
later w release = with_bus w (released w.bus).bus
later w pointer = w
later w hstdata = w
later w low_control_byte = w
later w memory = w

-- ---- an example

pub record Step : Type 0 where
  pub act : Act
  pub what : Seen

infix 70 ◌⇒◌
abbrev pub ◌⇒◌ : Act → Seen → Step
a ⇒ x = record { act = a; what = x }

pub record Example : Type 0 where
  pub start : World
  pub steps : List Step

unfoldable pub replay : World → List Step → List Step
replay w [] = []
replay w (s ∷ rest) = s.act ⇒ seen w s.act ∷ replay (later w s.act) rest

unfoldable pub replayed : Example → Example
replayed e = record { start = e.start; steps = replay e.start e.steps }

unfoldable pub after_all : World → List Step → World
after_all w [] = w
after_all w (s ∷ rest) = after_all (later w s.act) rest

abbrev pub left : Example → World
left e = after_all e.start e.steps
