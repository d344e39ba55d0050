-- A call of a script, carried out: crates/script/src/lib.rt, the table of 'A script' and the second one of 'What is printed'.
--   with_registers, with_bus, with_lengths, woken_state, first_state  the state: with a part replaced, after reset, at the start
--   done_with s n x y           a call's answer, beside the state that it leaves
--   .._answer, .._memory, .._room, .._list   what calls of one kind answer, and leave of what they have
--   access_in, place_of, registers_in, state_set   what the numbers of a call say
--   filled, digest              the words that M and J lay down; the digest of the first n words of a list
--   answer_to, room_after, list_after, CarriedOut  any call
use Rattle.std.specs.Prelude.{ℕ, zero, suc, ◌+◌, ◌*◌, ◌-◌, ◌%◌, ◌^◌, cond, ◌||◌, List, [], ◌∷◌, ◌++◌, ◌≡◌, eqb, ℤ, pos, negsuc, length, get_or}
use Rattle.words.specs.Lent.{lent, given_back}
use Rattle.words.specs.Addresses.{address}
use Rattle.bus.specs.Order.{asked, granted, released}
use Rattle.bus.specs.declared.Bus.{Bus}
use Rattle.bus.specs.declared.BusAnswer.{BusAnswer}
use Rattle.bus.specs.declared.Granted.{Granted}
use Rattle.registers.specs.Processor.{processor_reads, processor_writes, at_reset}
use Rattle.registers.specs.declared.Registers.{Registers}
use Rattle.registers.specs.declared.ProcessorRead.{ProcessorRead}
use Rattle.registers.specs.declared.ProcessorWrite.{ProcessorWrite}
use Rattle.port_spec.specs.Host.{access, access_memory}
use Rattle.port_spec.specs.declared.Access.{Access}
use Rattle.port_spec.specs.declared.Access.TheVariants.{Read, Write}
use Rattle.port_spec.specs.Cycle.{cycle_number}
use Rattle.port_spec.specs.declared.Answer.{Answer}
use Rattle.port_spec.specs.declared.Outcome.{Outcome}
use Rattle.field_spec.specs.Answers.{taken, taken_signed, put_answer, put_memory}
use Rattle.field_spec.specs.declared.Taken.{Taken}
use Rattle.field_spec.specs.declared.Put.{Put}
use Rattle.block_spec.specs.Block.{block_read, block_write, memory_left, list_after as read_list}
use Rattle.block_spec.specs.declared.BlockRead.{BlockRead}
use Rattle.block_spec.specs.declared.BlockWrite.{BlockWrite}
use Rattle.script.specs.Script.{host_letter, processor_letter, field_letter, bus_letter, whole_letter, plain_letter}
use Rattle.script.specs.Answers.{counted}
use Rattle.script.specs.declared.Call.{Call}
use Rattle.script.specs.declared.State.{State}
use Rattle.script.specs.declared.Done.{Done}

abbrev pub with_registers : State → Registers → State
with_registers s r = record { registers = r; bus = s.bus; length = s.length; size = s.size }

abbrev pub with_bus : State → Bus → State
with_bus s b = record { registers = s.registers; bus = b; length = s.length; size = s.size }

abbrev pub with_lengths : State → ℕ → ℕ → State
with_lengths s n m = record { registers = s.registers; bus = s.bus; length = n; size = m }

-- "reset (registers and bus; memory stays)"
abbrev pub woken_state : ℕ → ℕ → State
woken_state n m = record { registers = at_reset.registers; bus = at_reset.bus; length = n; size = m }

-- "as reset leaves them", "at the start the length is 32,768", "at the start all of them"
abbrev pub first_state : State
first_state = woken_state 32768 8192

abbrev pub done_with : State → ℕ → ℕ → ℕ → Done
done_with s n x y = record { state = s; number = n; x = x; y = y }

-- ---- R, W, H, K: an access by the host, on the lent memory m; one in place leaves in the record what the one by value returns

-- "a: register, b: lanes, c: word mod 65,536"
unfoldable pub access_in : Call → Access
access_in c =
    cond (eqb c.letter 0x52 || eqb c.letter 0x48) (Read c.a c.b) (Write c.a c.b (c.c % 65536))

-- "16 if the answer is hollow, plus 0 for no cycle, 1 for inside, 2 for empty"
unfoldable pub hollow_and_cycle : Answer → ℕ
hollow_and_cycle a = 16 * counted a.hollow + cycle_number a.cycle

-- "x: the word answered"
abbrev pub host_done : State → Outcome → Done
host_done s o = done_with (with_registers s o.registers) o.answer.number o.answer.word (hollow_and_cycle o.answer)

abbrev pub host_answer : State → List ℕ → Call → Done
host_answer s m c = host_done s (access s.registers m (access_in c))

abbrev pub host_memory : State → List ℕ → Call → List ℕ
host_memory s m c = access_memory s.registers m (access_in c)

-- what it leaves: its answer with the state, and the memory
pub record HostDone (s : State) (m : List ℕ) (c : Call) (d : Done) (m' : List ℕ) : Type 0 where
  pub answer : d ≡ host_answer s m c
  pub memory : m' ≡ host_memory s m c

-- ---- P, Q: an access by the processor

abbrev pub read_done : State → ProcessorRead → Done
read_done s o = done_with s o.number o.word 0

abbrev pub written_done : State → ProcessorWrite → Done
written_done s o = done_with (with_registers s o.registers) o.number 0 0

unfoldable pub processor_answer : State → Call → Done
processor_answer s c =
    cond (eqb c.letter 0x50) (read_done s (processor_reads s.registers c.a))
    (written_done s (processor_writes s.registers c.a (c.b % 65536)))

-- ---- T, S, F: fields of the lent memory m

-- "signed: modulo 2^32"
abbrev pub modulo : ℤ → ℕ
modulo (pos n) = n
modulo (negsuc n) = 2 ^ 32 - 1 - n

abbrev pub taken_done : State → Taken ℕ → Done
taken_done s t = done_with s t.number t.value t.cycles

abbrev pub signed_done : State → Taken ℤ → Done
signed_done s t = done_with s t.number (modulo t.value) t.cycles

abbrev pub put_done : State → Put → Done
put_done s p = done_with s p.number 0 p.cycles

-- "a: bit address, b: size, c: value"
unfoldable pub field_answer : State → List ℕ → Call → Done
field_answer s m c =
    cond (eqb c.letter 0x54) (taken_done s (taken m (address c.a) c.b))
    (cond (eqb c.letter 0x53) (signed_done s (taken_signed m (address c.a) c.b))
    (put_done s (put_answer (length m) (address c.a) c.b)))

unfoldable pub field_memory : List ℕ → Call → List ℕ
field_memory m c =
    cond (eqb c.letter 0x54) m
    (cond (eqb c.letter 0x53) m
    (put_memory m (address c.a) c.b c.c))

pub record FieldDone (s : State) (m : List ℕ) (c : Call) (d : Done) (m' : List ℕ) : Type 0 where
  pub answer : d ≡ field_answer s m c
  pub memory : m' ≡ field_memory m c

-- ---- A, B, C: the bus

abbrev pub bus_done : State → BusAnswer → Done
bus_done s o = done_with (with_bus s o.bus) o.number 0 0

-- "x: the source granted"
abbrev pub granted_done : State → Granted → Done
granted_done s o = done_with (with_bus s o.bus) o.number o.source 0

unfoldable pub bus_answer : State → Call → Done
bus_answer s c =
    cond (eqb c.letter 0x41) (bus_done s (asked s.bus c.a))
    (cond (eqb c.letter 0x43) (bus_done s (released s.bus)) (granted_done s (granted s.bus)))

-- ---- I, O: blocks between the lent memory m and the lent list l

-- "a + b * 2^32: place"
abbrev pub place_of : ℕ → ℕ → ℕ
place_of a b = a + 2 ^ 32 * b

-- "x: the hollow words handed out"
abbrev pub block_read_done : State → BlockRead → Done
block_read_done s o = done_with (with_registers s o.registers) o.number o.hollows 0

-- "x: the stores that fell empty"
abbrev pub block_write_done : State → BlockWrite → Done
block_write_done s o = done_with (with_registers s o.registers) o.number o.empties 0

unfoldable pub block_answer : State → List ℕ → List ℕ → Call → Done
block_answer s m l c =
    cond (eqb c.letter 0x49) (block_read_done s (block_read s.registers m l (place_of c.a c.b) c.c))
    (block_write_done s (block_write s.registers m l (place_of c.a c.b) c.c))

unfoldable pub block_memory : State → List ℕ → List ℕ → Call → List ℕ
block_memory s m l c =
    cond (eqb c.letter 0x49) m (memory_left s.registers m l (place_of c.a c.b) c.c)

unfoldable pub block_list : State → List ℕ → List ℕ → Call → List ℕ
block_list s m l c =
    cond (eqb c.letter 0x49) (read_list s.registers m l (place_of c.a c.b) c.c) l

pub record BlockDone (s : State) (m l : List ℕ) (c : Call) (d : Done) (m' l' : List ℕ) : Type 0 where
  pub answer : d ≡ block_answer s m l c
  pub memory : m' ≡ block_memory s m l c
  pub list : l' ≡ block_list s m l c

-- ---- N, L, G, Z: the state set

-- "a: pointer, b: HSTDATA mod 65,536, c: HSTCTL mod 65,536, d: hollow if odd"
abbrev pub registers_in : Call → Registers
registers_in c =
    record {
      pointer = address c.a;
      latch = c.b % 65536;
      control = c.c % 65536;
      hollow = eqb (c.d % 2) 1;
    }

unfoldable pub state_set : State → Call → State
state_set s c =
    cond (eqb c.letter 0x4e) (with_lengths s c.a s.size)
    (cond (eqb c.letter 0x4c) (with_lengths s s.length c.a)
    (cond (eqb c.letter 0x47) (with_registers s (registers_in c)) (woken_state s.length s.size)))

-- ---- M, J, D: the whole room and the whole list

-- "word k becomes (a + k * b) mod 65,536", for the first n words
unfoldable pub filled : ℕ → ℕ → ℕ → List ℕ
filled a b zero = []
filled a b (suc k) = filled a b k ++ ((a + k * b) % 65536 ∷ [])

-- "it starts as 0; for each word w, in order of their places, h becomes (h * 31 + w) mod 2^32"
unfoldable pub digest : List ℕ → ℕ → ℕ
digest l zero = 0
digest l (suc k) = (digest l k * 31 + get_or l k 0) % 2 ^ 32

unfoldable pub whole_answer : State → List ℕ → List ℕ → Call → Done
whole_answer s room list c =
    cond (eqb c.letter 0x44) (done_with s 0 (digest room (length room)) (digest list (length list))) (done_with s 0 0 0)

unfoldable pub whole_room : List ℕ → Call → List ℕ
whole_room room c =
    cond (eqb c.letter 0x44) room (cond (eqb c.letter 0x4d) (filled c.a c.b (length room)) room)

unfoldable pub whole_list : List ℕ → Call → List ℕ
whole_list list c =
    cond (eqb c.letter 0x44) list (cond (eqb c.letter 0x4d) list (filled c.a c.b (length list)))

pub record WholeDone (s : State) (room list : List ℕ) (c : Call) (d : Done) (room' list' : List ℕ) : Type 0 where
  pub answer : d ≡ whole_answer s room list c
  pub left : room' ≡ whole_room room c
  pub list_left : list' ≡ whole_list list c

-- ---- any call, by its letter

-- one that is lent nothing
unfoldable pub plain_answer : State → Call → Done
plain_answer s c =
    cond (processor_letter c.letter) (processor_answer s c)
    (cond (bus_letter c.letter) (bus_answer s c) (done_with (state_set s c) 0 0 0))

-- one that is lent the memory m and the list l
unfoldable pub lent_answer : State → List ℕ → List ℕ → Call → Done
lent_answer s m l c =
    cond (host_letter c.letter) (host_answer s m c)
    (cond (field_letter c.letter) (field_answer s m c) (block_answer s m l c))

unfoldable pub lent_memory : State → List ℕ → List ℕ → Call → List ℕ
lent_memory s m l c =
    cond (host_letter c.letter) (host_memory s m c)
    (cond (field_letter c.letter) (field_memory m c) (block_memory s m l c))

unfoldable pub lent_list : State → List ℕ → List ℕ → Call → List ℕ
lent_list s m l c =
    cond (host_letter c.letter) l (cond (field_letter c.letter) l (block_list s m l c))

pub record LentDone (s : State) (m l : List ℕ) (c : Call) (d : Done) (m' l' : List ℕ) : Type 0 where
  pub answer : d ≡ lent_answer s m l c
  pub memory : m' ≡ lent_memory s m l c
  pub list : l' ≡ lent_list s m l c

-- "The lent memory is its first `length` words", "The lent list is its first `size` words"; no more than there are
unfoldable pub answer_to : State → List ℕ → List ℕ → Call → Done
answer_to s room list c =
    cond (plain_letter c.letter) (plain_answer s c)
    (cond (whole_letter c.letter) (whole_answer s room list c)
    (lent_answer s (lent s.length room) (lent s.size list) c))

unfoldable pub room_after : State → List ℕ → List ℕ → Call → List ℕ
room_after s room list c =
    cond (plain_letter c.letter) room
    (cond (whole_letter c.letter) (whole_room room c)
    (given_back s.length room (lent_memory s (lent s.length room) (lent s.size list) c)))

unfoldable pub list_after : State → List ℕ → List ℕ → Call → List ℕ
list_after s room list c =
    cond (plain_letter c.letter) list
    (cond (whole_letter c.letter) (whole_list list c)
    (given_back s.size list (lent_list s (lent s.length room) (lent s.size list) c)))

pub record CarriedOut (s : State) (room list : List ℕ) (c : Call) (d : Done) (room' list' : List ℕ) : Type 0 where
  pub answer : d ≡ answer_to s room list c
  pub left : room' ≡ room_after s room list c
  pub list_left : list' ≡ list_after s room list c
