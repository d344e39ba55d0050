-- A host that writes HSTDATA in whole words never reads a byte of filler in a held word; one that sends a lone closing byte may.
-- Document 01, 'The four host registers'. Only a write of HSTDATA stores, and a whole one has laid both its bytes before; all else that
-- makes a word held brings both bytes at once.
use Prim.Native.Nat.{ℕ, ◌<◌}
use mathlib.Core.Path.{◌≡◌, refl, sym, ◌∙◌}
use mathlib.Core.Bool.{Bool, true, false, false≢true, cond}
use mathlib.Core.List.{List, [], ◌∷◌}
use lib.Dec.{eqb}
use lib.ListN.{get_or}
use borrow.Author.Tests.{eqb-true, not-false}
use Rattle.words.specs.Bytes.{bit, takes_low, takes_high, are_lanes, lay}
use Rattle.words.specs.Memory.{in_memory, fetch_at, store_at}
use Rattle.words.specs.declared.WordNumber.{WordNumber}
use Rattle.words.proofs.Lanes.{replaced_whole}
use Rattle.control.specs.Control.{closes, fetches}
use Rattle.registers.specs.Registers.{register_word, half_written, written}
use Rattle.port_spec.specs.Cycle.{stepped, cycle_of, after_fetch, after_store, carried, memory_after}
use Rattle.port_spec.specs.Host.{read_due, write_due, begin_access, refusal, number_for, done, access, access_memory}
use Rattle.port_spec.specs.Sequences.{Machine, answer_of, after}
use Rattle.port_spec.specs.Deeds.{Deed, host, processor, reset, elsewhere, woken, does, ran, writes_data, has_cycle, word_used}
use Rattle.port_spec.specs.Origin.{Origin, unset, missed, memory, by_processor, laid, stored, value, is_held, landed, looked}
use Rattle.port_spec.specs.Origin.{story_after, story, real, BothReal, Real, Whole, AllWhole}
use Rattle.port_spec.specs.declared.Access.{Access}
use Rattle.port_spec.specs.declared.Access.TheVariants.{Read, Write}
use Rattle.port_spec.specs.declared.Cycle.TheVariants.{Empty}
use Rattle.port_spec.proofs.NoMiss.{since_reset}

-- ---- whole words
whole_real : (lanes w : ℕ) (o : Origin) → lanes ≡ 3 → BothReal (laid lanes w o)
unfolding real takes_low takes_high
whole_real lanes w o e = rw e (refl, refl)

landed_whole : (a : Access) (o : Origin) → Whole (host a) → writes_data a ≡ true → BothReal (landed a o)
unfolding landed
landed_whole (Read register lanes) o h e = absurd (false≢true e)
landed_whole (Write register lanes w) o h e = rw e (whole_real lanes w o (h (eqb-true register 2 e)))

landed_real : (a : Access) (o : Origin) → Whole (host a) → Real o → Real (landed a o)
unfolding landed
landed_real (Read register lanes) o h k = k
landed_real (Write register lanes w) o h k = go (eqb register 2) refl
  where
    go : (t : Bool) → eqb register 2 ≡ t → Real (cond t (laid lanes w o) o)
    go true e = λ _. whole_real lanes w o (h (eqb-true register 2 e))
    go false e = k

looked_real : (m : List ℕ) (n : WordNumber) → Real (looked m n)
unfolding looked is_held real
looked_real m n = go (in_memory m n)
  where
    go : (t : Bool) → Real (cond t (memory n (get_or m n.0 0)) missed)
    go true = λ _. (refl, refl)
    go false = λ g. absurd (false≢true g)

deed_real : (s : Machine) (d : Deed) (o : Origin) → Whole d → Real o → Real (story_after s d o)
unfolding story_after is_held real
deed_real s (host a) o h k = go (eqb (number_for s.memory a) 0) (has_cycle s.registers a) (writes_data a) refl
  where
    go : (t called stores : Bool) → writes_data a ≡ stores →
        Real (cond t (cond called (cond stores (stored (landed a o)) (looked s.memory (word_used s.registers a))) (landed a o)) o)
    go true true true e = λ _. landed_whole a o h e
    go true true false e = looked_real s.memory (word_used s.registers a)
    go true false stores e = landed_real a o h k
    go false called stores e = k
deed_real s (processor register w) o h k = go (eqb register 2)
  where
    go : (t : Bool) → Real (cond t (by_processor w) o)
    go true = λ _. (refl, refl)
    go false = k
deed_real s reset o h k = λ g. absurd (false≢true g)
deed_real s (elsewhere m) o h k = k

-- Over any run of deeds in which the host writes HSTDATA in whole words, on lanes 3, both bytes of a held word came out of memory or were
-- written, if that was so when the run began.
pub both_bytes_real : (s : Machine) (l : List Deed) (o : Origin) → AllWhole l → Real o → Real (story s l o)
unfolding story
both_bytes_real s [] o h k = k
both_bytes_real s (d ∷ rest) o h k = both_bytes_real (does s d) rest (story_after s d o) h.1 (deed_real s d o h.0 k)

-- From reset on, if the host writes HSTDATA in whole words, a read that says held hands out no byte of filler: both bytes came out of
-- memory or were written.
pub no_filler_in_held : (m : List ℕ) (l : List Deed) (lanes : ℕ) → AllWhole l →
    (answer_of (ran (woken m) l) (Read 2 lanes)).number ≡ 0 → (answer_of (ran (woken m) l) (Read 2 lanes)).hollow ≡ false →
    BothReal (story (woken m) l unset)
unfolding is_held
no_filler_in_held m l lanes h n e =
    both_bytes_real (woken m) l unset h (λ g. absurd (false≢true g)) (not-false _ (sym (since_reset m l lanes n).hollow ∙ e))

-- A whole word that the host stored is that word, whatever was there.
pub stored_whole : (w : ℕ) (o : Origin) → w < 65536 → value (stored (laid 3 w o)) ≡ w
unfolding value
stored_whole w o h = replaced_whole (value o) w h

-- ---- the limit: "the whole of HSTDATA is stored at the pointer, the hollow mark clears", also where only its closing byte was sent

-- after these deeds, with no memory at all, a read says that w is held, and its low byte came from nowhere
pub record HalfReal (l : List Deed) (w : ℕ) : Type 0 where
  pub answer : answer_of (ran (woken []) l) (Read 2 3) ≡ record { number = 0; word = w; hollow = false; cycle = Empty }
  pub low_byte : real takes_low (story (woken []) l unset) ≡ false

abbrev lone_byte : Deed
lone_byte = host (Write 2 2 0x1200)

-- The limit: with no memory, a lone closing byte 12h gives a held 12FFh over the filler of a load that missed, and a held 1200h after
-- reset; the low byte came from nowhere.
pub lone_closing_byte : HalfReal (host (Write 1 3 0) ∷ lone_byte ∷ []) 0x12ff × HalfReal (lone_byte ∷ []) 0x1200
unfolding
    answer_of ran does after access access_memory refusal are_lanes done begin_access register_word half_written written read_due
    write_due closes fetches carried memory_after after_fetch after_store stepped cycle_of fetch_at store_at bit lay takes_low takes_high
    story story_after landed looked has_cycle word_used real
lone_closing_byte = (record { answer = refl; low_byte = refl }, record { answer = refl; low_byte = refl })
