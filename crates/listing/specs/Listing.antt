-- A listing, byte by byte: document 01, 'Blocks and the two doors', the program `portlist`.
--   Listing           how far a listing has come
--   start s           a listing that begins, on a machine
--   answered x a      a good line done: its access, and its answer printed
--   stopped x         a bad line: "prints `bad line` and ends it"
--   next x b          one byte more
--   listing x t       a whole text more
--   fitting room      how many bytes of input surely have room for their answers
--   ListedPiece       what a piece of input leaves, as a contract
use Rattle.std.specs.Prelude.{ℕ, ◌+◌, ◌*◌, ◌-◌, ◌/◌, Bool, true, false, cond, List, [], ◌∷◌, ◌++◌, ◌≡◌, eqb, length, take, drop}
use Rattle.registers.specs.declared.Registers.{Registers}
use Rattle.port_spec.specs.Sequences.{Machine, after, answer_of}
use Rattle.port_spec.specs.declared.Access.{Access}
use Rattle.listing.specs.Line.{Line, good, bad, line_of}
use Rattle.listing.specs.Answer.{answer_text, bad_line}
use Rattle.listing.specs.declared.Listed.{Listed}

-- machine: the port and its memory; text: what is printed; used: the bytes of the lines that were answered; begun: those of
-- the line that has not ended yet; ended: a bad line ended it
pub record Listing : Type 0 where
  pub machine : Machine
  pub text : List ℕ
  pub used : ℕ
  pub begun : List ℕ
  pub ended : Bool

abbrev pub start : Machine → Listing
start s = record { machine = s; text = []; used = 0; begun = []; ended = false }

-- its line feed counts among the bytes used
abbrev pub answered : Listing → Access → Listing
answered x a =
    record {
      machine = after x.machine a;
      text = x.text ++ answer_text a (answer_of x.machine a);
      used = x.used + (length x.begun + 1);
      begun = [];
      ended = false;
    }

-- "A line of another shape .. prints `bad line` and ends it"
abbrev pub stopped : Listing → Listing
stopped x = record { machine = x.machine; text = x.text ++ bad_line; used = x.used; begun = []; ended = true }

abbrev pub line_ends : Listing → Line → Listing
line_ends x (good a) = answered x a
line_ends x bad = stopped x

abbrev pub line_goes_on : Listing → ℕ → Listing
line_goes_on x b =
    record { machine = x.machine; text = x.text; used = x.used; begun = x.begun ++ (b ∷ []); ended = false }

-- after a bad line nothing more is done; a line feed (10) ends a line; "at most 32 bytes each"
unfoldable pub next : Listing → ℕ → Listing
next x b =
    cond x.ended x
    (cond (eqb b 10) (line_ends x (line_of x.begun))
    (cond (eqb (length x.begun) 31) (stopped x) (line_goes_on x b)))

unfoldable pub listing : Listing → List ℕ → Listing
listing x [] = x
listing x (b ∷ rest) = listing (next x b) rest

-- ---- a piece of input, whose answers go to an output of so many bytes

-- (ours) a good line has 6 bytes or more and its answer at most 20, and after the last of them `bad line` may come, with 9
abbrev pub fitting : ℕ → ℕ
fitting room = (room - 9) / 10 * 3

abbrev pub piece_listing : Registers → List ℕ → List ℕ → List ℕ → Listing
piece_listing r m input output =
    listing (start (record { registers = r; memory = m })) (take (fitting (length output)) input)

abbrev pub listed : Listing → Listed
listed x =
    record { registers = x.machine.registers; used = x.used; wrote = length x.text; ended = x.ended }

-- the text lies at the output's beginning; its other places stay
abbrev pub with_text : List ℕ → List ℕ → List ℕ
with_text output text = text ++ drop (length text) output

pub record ListedPiece (r : Registers) (m input out : List ℕ) (o : Listed) (m' out' : List ℕ) : Type 0 where
  pub outcome : o ≡ listed (piece_listing r m input out)
  pub memory : m' ≡ (piece_listing r m input out).machine.memory
  pub output : out' ≡ with_text out (piece_listing r m input out).text
