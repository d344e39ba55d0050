-- One access by the host: document 01, 'The four host registers' and 'Numbers returned'.
--   read_due, write_due    the cycle that an access calls for
--   begin_access r a       an access that is not refused, before its cycle
--   refusal                number 1, 2 or 3, or 0 where none applies
--   access, access_memory  the whole access: its outcome and the memory
use Rattle.std.specs.Prelude.{ℕ, false, cond, ◌&&◌, List, ◌≡◌, eqb, ltb, length}
use Rattle.words.specs.Bytes.{are_lanes, shown}
use Rattle.words.specs.Memory.{over_limit}
use Rattle.control.specs.Control.{incw, incr, closes, fetches}
use Rattle.registers.specs.Registers.{register_word, written}
use Rattle.registers.specs.declared.Registers.{Registers}
use Rattle.port_spec.specs.Cycle.{carried, memory_after}
use Rattle.port_spec.specs.declared.Access.{Access}
use Rattle.port_spec.specs.declared.Access.TheVariants.{Read, Write}
use Rattle.port_spec.specs.declared.Due.{Due}
use Rattle.port_spec.specs.declared.Due.TheVariants.{Nothing, Fetch, Store}
use Rattle.port_spec.specs.declared.Cycle.TheVariants.{None}
use Rattle.port_spec.specs.declared.Begun.{Begun}
use Rattle.port_spec.specs.declared.Carried.{Carried}
use Rattle.port_spec.specs.declared.Outcome.{Outcome}

-- ---- the cycle that an access calls for

-- "Reading register 2 ..: If the closing byte is selected, then: with INCR 1 the pointer gains 16; then a fetch"
unfoldable pub read_due : ℕ → ℕ → ℕ → Due
read_due c register lanes = cond (eqb register 2 && closes c lanes) (Fetch (incr c)) Nothing

-- "Writing register 2 ..: If the closing byte is selected: .. stored at the pointer, .. then with INCW 1 the pointer gains 16";
-- registers 0 and 1: "This fetch doesn't increment, whatever INCR says"
unfoldable pub write_due : ℕ → ℕ → ℕ → Due
write_due c register lanes =
    cond (closes c lanes)
    (cond (eqb register 2) (Store (incw c)) (cond (fetches c register) (Fetch false) Nothing))
    Nothing

-- ---- an access before its cycle; LBL "as it stands before the access" (and INCR, INCW, which an access of register 2 can't change)

-- "Reading register 2 answers what HSTDATA held at entry, with its hollow mark at entry"; "hollow mark (false but for
-- reads of register 2)"; "word (0 for a write)"
unfoldable pub begin_access : Registers → Access → Begun
begin_access r (Read register lanes) =
    record {
      word = shown lanes (register_word r register);
      hollow = eqb register 2 && r.hollow;
      registers = r;
      due = read_due r.control register lanes;
    }
begin_access r (Write register lanes w) =
    record {
      word = 0;
      hollow = false;
      registers = written r register lanes w;
      due = write_due r.control register lanes;
    }

-- ---- the whole access

abbrev pub register_of : Access → ℕ
register_of (Read register lanes) = register
register_of (Write register lanes w) = register

abbrev pub lanes_of : Access → ℕ
lanes_of (Read register lanes) = lanes
lanes_of (Write register lanes w) = lanes

-- "1 memory over 32,768 words; 2 register not listed for that side; 3 lanes not 1, 2 or 3", tested in this order
unfoldable pub refusal : ℕ → ℕ → ℕ → ℕ
refusal words register lanes =
    cond (over_limit words) 1
    (cond (ltb 3 register) 2
    (cond (are_lanes lanes) 0 3))

abbrev pub number_for : List ℕ → Access → ℕ
number_for m a = refusal (length m) (register_of a) (lanes_of a)

-- "A refusal returns zeros and false marks, cycle none; nothing lent or passed on changes"
abbrev pub refused : ℕ → Registers → Outcome
refused n r = record { answer = record { number = n; word = 0; hollow = false; cycle = None }; registers = r }

-- "Each host answer has: number, word .., hollow mark .., and the cycle"
abbrev pub finished : Begun → Carried → Outcome
finished b c =
    record {
      answer = record { number = 0; word = b.word; hollow = b.hollow; cycle = c.cycle };
      registers = c.registers;
    }

unfoldable pub done : Begun → List ℕ → Outcome
done b m = finished b (carried b.registers b.due m)

unfoldable pub access : Registers → List ℕ → Access → Outcome
access r m a = cond (eqb (number_for m a) 0) (done (begin_access r a) m) (refused (number_for m a) r)

unfoldable pub access_memory : Registers → List ℕ → Access → List ℕ
access_memory r m a =
    cond (eqb (number_for m a) 0) (memory_after (begin_access r a).registers (begin_access r a).due m) m

-- what one access by the host leaves: its outcome and the memory
pub record Accessed (r : Registers) (m : List ℕ) (a : Access) (o : Outcome) (m' : List ℕ) : Type 0 where
  pub outcome : o ≡ access r m a
  pub memory : m' ≡ access_memory r m a
