-- The parts of a call, and its memory cycle over lent bytes: one word's two bytes are read or written, and the rest is not touched.
--   put_word b n w              the bytes with those of word n made the bytes of w
--   store_bytes b n w           the bytes after a store of w to word n
--   is_store due                whether the cycle that is due is a store
--   bytes_after r due b         the bytes after the cycle that is due
--   StoredBytes, CycledBytes    what a store and a cycle leave, as contracts
--   Closed                      what a call answers and leaves in the image, from the outcome of its access, as a contract
use Rattle.std.specs.Prelude.{ℕ, ◌+◌, ◌*◌, Bool, true, false, cond, List, ◌≡◌, set}
use Rattle.words.specs.Addresses.{word_at}
use Rattle.words.specs.Bytes.{lo, hi}
use Rattle.words.specs.Memory.{in_memory}
use Rattle.words.specs.declared.WordNumber.{WordNumber}
use Rattle.registers.specs.declared.Registers.{Registers}
use Rattle.port_spec.specs.Cycle.{carried}
use Rattle.port_spec.specs.declared.Due.{Due}
use Rattle.port_spec.specs.declared.Due.TheVariants.{Nothing, Fetch, Store}
use Rattle.port_spec.specs.declared.Carried.{Carried}
use Rattle.port_spec.specs.declared.Outcome.{Outcome}
use Rattle.door_spec.specs.Bytes.{words_of}
use Rattle.door_spec.specs.Image.{image_of}
use Rattle.door_spec.specs.Answer.{packed}

-- "memory two bytes a word, low first"
abbrev pub put_word : List ℕ → ℕ → ℕ → List ℕ
put_word b n w = set (set b (2 * n) (lo w)) (2 * n + 1) (hi w)

-- "an empty store is dropped" (house)
unfoldable pub store_bytes : List ℕ → WordNumber → ℕ → List ℕ
store_bytes b n w = cond (in_memory (words_of b) n) (put_word b n.0 w) b

-- what a store leaves: whether it fell inside, and the bytes
pub record StoredBytes (b : List ℕ) (n : WordNumber) (w : ℕ) (inside : Bool) (b' : List ℕ) : Type 0 where
  pub fell : inside ≡ in_memory (words_of b) n
  pub memory : b' ≡ store_bytes b n w

-- whether the cycle that is due is a store, which alone changes memory
abbrev pub is_store : Due → Bool
is_store Nothing = false
is_store (Fetch s) = false
is_store (Store s) = true

-- "the whole of HSTDATA is stored at the pointer"
unfoldable pub bytes_after : Registers → Due → List ℕ → List ℕ
bytes_after r Nothing b = b
bytes_after r (Fetch s) b = b
bytes_after r (Store s) b = store_bytes b (word_at r.pointer) r.latch

-- what a cycle leaves: the registers with its mark, and the bytes
pub record CycledBytes (r : Registers) (due : Due) (b : List ℕ) (c : Carried) (b' : List ℕ) : Type 0 where
  pub outcome : c ≡ carried r due (words_of b)
  pub memory : b' ≡ bytes_after r due b

-- what an accepted call leaves from o, the outcome of its access: its answer and the image
pub record Closed (o : Outcome) (answer : ℕ) (image' : List ℕ) : Type 0 where
  pub answered : answer ≡ packed o.answer
  pub image_left : image' ≡ image_of o.registers
