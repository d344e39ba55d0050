-- The memory cycle that an access calls for: document 01, 'Memory and addresses' and 'The four host registers'.
--   cycle_number c      the number of a cycle: 0 none, 1 inside, 2 empty
--   stepped s r         the registers with the pointer stepped, where s says so
--   cycle_of inside     what the answer says of a cycle that was called for
--   word_or_filler f    the word that a fetch found, or the filler where it found none
--   brought f           what a fetch brings that found f
--   after_fetch r f     the registers and the cycle after a fetch that brought f
--   after_store r s i   the registers and the cycle after a store
--   carried, memory_after   the cycle that is due, done on a memory
--   shows m a           the word that a fetch at bit address a brings, or the filler
--   standing m c a      the registers after a fetch at a
use Rattle.std.specs.Prelude.{ℕ, Bool, false, cond, not, Option, List, ◌≡◌}
use Rattle.std.specs.Option.{is_some, unwrap_or}
use Rattle.words.specs.Addresses.{word_at, stepped_from}
use Rattle.words.specs.Memory.{in_memory, fetch_at, store_at}
use Rattle.words.specs.declared.BitAddress.{BitAddress}
use Rattle.registers.specs.Registers.{with_pointer, with_latch}
use Rattle.registers.specs.declared.Registers.{Registers}
use Rattle.port_spec.specs.declared.Fetched.{Fetched}
use Rattle.port_spec.specs.declared.Due.{Due}
use Rattle.port_spec.specs.declared.Due.TheVariants.{Nothing, Fetch, Store}
use Rattle.port_spec.specs.declared.Cycle.{Cycle}
use Rattle.port_spec.specs.declared.Cycle.TheVariants.{None, Inside, Empty}
use Rattle.port_spec.specs.declared.Carried.{Carried}

-- "the cycle: none, inside or empty", as a number (ours)
abbrev pub cycle_number : Cycle → ℕ
cycle_number None = 0
cycle_number Inside = 1
cycle_number Empty = 2

-- "the pointer gains 16"
unfoldable pub stepped : Bool → Registers → Registers
stepped s r = with_pointer r (stepped_from s r.pointer)

-- "A cycle whose word is not in the lent memory is empty"
unfoldable pub cycle_of : Bool → Cycle
cycle_of inside = cond inside Inside Empty

-- "An empty fetch puts FFFFh in HSTDATA" (house)
abbrev pub word_or_filler : Option ℕ → ℕ
word_or_filler f = unwrap_or f 0xffff

abbrev pub brought : Option ℕ → Fetched
brought f = record { word = word_or_filler f; inside = is_some f }

-- "An empty fetch .. makes it hollow" (house); "A fetch inside memory clears the hollow mark"
unfoldable pub after_fetch : Registers → Fetched → Carried
after_fetch r f = record { registers = with_latch r f.word (not f.inside); cycle = cycle_of f.inside }

-- "the hollow mark clears, then with INCW 1 the pointer gains 16", also where the store was dropped
unfoldable pub after_store : Registers → Bool → Bool → Carried
after_store r s inside = record { registers = stepped s (with_latch r r.latch false); cycle = cycle_of inside }

-- a fetch: "the pointer gains 16; then a fetch"; a store: "the whole of HSTDATA is stored at the pointer"
unfoldable pub carried : Registers → Due → List ℕ → Carried
carried r Nothing m = record { registers = r; cycle = None }
carried r (Fetch s) m = after_fetch (stepped s r) (brought (fetch_at m (word_at (stepped s r).pointer)))
carried r (Store s) m = after_store r s (in_memory m (word_at r.pointer))

unfoldable pub memory_after : Registers → Due → List ℕ → List ℕ
memory_after r Nothing m = m
memory_after r (Fetch s) m = m
memory_after r (Store s) m = store_at m (word_at r.pointer) r.latch

-- what a cycle leaves: the registers with what the answer says of it, and the memory
pub record Cycled (r : Registers) (due : Due) (m : List ℕ) (c : Carried) (m' : List ℕ) : Type 0 where
  pub outcome : c ≡ carried r due m
  pub memory : m' ≡ memory_after r due m

-- ---- what a fetch at bit address a brings, and the registers that it leaves with control word c: hollow exactly if it missed
abbrev pub shows : List ℕ → BitAddress → ℕ
shows m a = (brought (fetch_at m (word_at a))).word

unfoldable pub standing : List ℕ → ℕ → BitAddress → Registers
standing m c a = record { pointer = a; latch = shows m a; control = c; hollow = not (in_memory m (word_at a)) }
