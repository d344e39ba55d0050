-- The story of the word in HSTDATA, over any run of deeds. Document 01, 'Memory and addresses', 'The four host registers' and 'The
-- processor's side'.
--   Origin             what happened to the word, the latest event outermost
--   value, is_held     the word that it comes to, and whether that is held
--   as_content         both, as HSTDATA has them
--   story_after        the story after one deed
--   story              the story after a run of deeds
--   real, Real         a byte is no filler: memory, the processor or the host gave it; so are both, if the word is held
--   Came               the word came out of memory, or was written
--   Whole, AllWhole   the host writes HSTDATA in whole words
use Rattle.std.specs.Prelude.{ℕ, ◌≡◌, Bool, true, false, cond, not, ◌||◌, List, [], ◌∷◌, eqb, get_or}
use Rattle.words.specs.Bytes.{takes_low, takes_high, replaced}
use Rattle.words.specs.Memory.{in_memory}
use Rattle.words.specs.declared.WordNumber.{WordNumber}
use Rattle.port_spec.specs.Host.{number_for}
use Rattle.port_spec.specs.Sequences.{Machine}
use Rattle.port_spec.specs.Deeds.{Deed, host, processor, reset, elsewhere, does, Content, writes_data, has_cycle, word_used}
use Rattle.port_spec.specs.declared.Access.{Access}
use Rattle.port_spec.specs.declared.Access.TheVariants.{Read, Write}

pub data Origin : Type 0 where
  -- nothing fetched since a reset
  unset : Origin
  -- a fetch that missed memory
  missed : Origin
  -- a fetch of word n of memory, which then was w
  memory : WordNumber → ℕ → Origin
  -- the processor's word
  by_processor : ℕ → Origin
  -- the host's bytes of w on some lanes, over what was there
  laid : ℕ → ℕ → Origin → Origin
  -- the host's closing byte: what is there is now the host's word, and was stored
  stored : Origin → Origin

unfoldable pub value : Origin → ℕ
value unset = 0
value missed = 0xffff
value (memory n w) = w
value (by_processor w) = w
value (laid lanes w o) = replaced lanes (value o) w
value (stored o) = value o

unfoldable pub is_held : Origin → Bool
is_held unset = false
is_held missed = false
is_held (memory n w) = true
is_held (by_processor w) = true
is_held (laid lanes w o) = is_held o
is_held (stored o) = true

abbrev pub as_content : Origin → Content
as_content o = record { word = value o; hollow = not (is_held o) }

-- ---- what a deed adds to the story

-- the host's bytes land before any cycle
unfoldable pub landed : Access → Origin → Origin
landed (Read register lanes) o = o
landed (Write register lanes w) o = cond (eqb register 2) (laid lanes w o) o

-- a fetch brings memory's word, or nothing
unfoldable pub looked : List ℕ → WordNumber → Origin
looked m n = cond (in_memory m n) (memory n (get_or m n.0 0)) missed

-- the cycle of a write of HSTDATA is a store, any other a fetch; an access that is refused adds nothing
unfoldable pub story_after : Machine → Deed → Origin → Origin
story_after s (host a) o =
    cond (eqb (number_for s.memory a) 0)
    (cond (has_cycle s.registers a)
    (cond (writes_data a) (stored (landed a o)) (looked s.memory (word_used s.registers a)))
    (landed a o))
    o
story_after s (processor register w) o = cond (eqb register 2) (by_processor w) o
story_after s reset o = unset
story_after s (elsewhere m) o = o

unfoldable pub story : Machine → List Deed → Origin → Origin
story s [] o = o
story s (d ∷ rest) o = story (does s d) rest (story_after s d o)

-- ---- where a word came from
pub data Came : Origin → Type 0 where
  from_memory : {n : WordNumber} {w : ℕ} → Came (memory n w)
  from_processor : {w : ℕ} → Came (by_processor w)
  from_host : {o : Origin} → Came (stored o)
  -- with bytes laid over it that no store has closed yet
  under_bytes : {lanes w : ℕ} {o : Origin} → Came o → Came (laid lanes w o)

-- ---- bytes that came from somewhere: memory, the processor or the host

-- the low byte or the high one, by the test of the lanes that select it
unfoldable pub real : (ℕ → Bool) → Origin → Bool
real takes unset = false
real takes missed = false
real takes (memory n w) = true
real takes (by_processor w) = true
real takes (laid lanes w o) = takes lanes || real takes o
real takes (stored o) = real takes o

abbrev pub BothReal : Origin → Type 0
BothReal o = (real takes_low o ≡ true) × (real takes_high o ≡ true)

abbrev pub Real : Origin → Type 0
Real o = is_held o ≡ true → BothReal o

abbrev pub Whole : Deed → Type 0
Whole (host (Read register lanes)) = Unit
Whole (host (Write register lanes w)) = register ≡ 2 → lanes ≡ 3
Whole (processor register w) = Unit
Whole reset = Unit
Whole (elsewhere m) = Unit

abbrev pub AllWhole : List Deed → Type 0
AllWhole [] = Unit
AllWhole (d ∷ rest) = Whole d × AllWhole rest
