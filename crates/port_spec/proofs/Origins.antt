-- HSTDATA is always as its story has it: document 01, 'The four host registers' and 'The processor's side'. The host's bytes that land,
-- the cycle after them, the processor's word and a reset each carry this on, and so does any run of deeds.
use Prim.Native.Nat.{ℕ}
use mathlib.Core.Path.{◌≡◌, refl, ap, ◌∙◌}
use mathlib.Core.Bool.{Bool, true, false, cond, not}
use mathlib.Core.List.{List, [], ◌∷◌}
use lib.Dec.{eqb}
use lib.ListN.{get_or}
use Rattle.words.specs.Bytes.{replaced}
use Rattle.words.specs.Memory.{in_memory}
use Rattle.words.specs.declared.WordNumber.{WordNumber}
use Rattle.words.proofs.MemoryWords.{fetched_or}
use Rattle.registers.specs.declared.Registers.{Registers}
use Rattle.port_spec.specs.Host.{begin_access, number_for, refused, done, access}
use Rattle.port_spec.specs.Sequences.{Machine, after}
use Rattle.port_spec.specs.Deeds.{Deed, host, processor, reset, elsewhere, does, ran, Content, content, writes_data, has_cycle}
use Rattle.port_spec.specs.Deeds.{word_used}
use Rattle.port_spec.specs.Origin.{Origin, missed, memory, by_processor, laid, stored, value, is_held, as_content, landed, looked}
use Rattle.port_spec.specs.Origin.{story_after, story}
use Rattle.port_spec.specs.declared.Access.{Access}
use Rattle.port_spec.specs.declared.Access.TheVariants.{Read, Write}
use Rattle.port_spec.proofs.Marks.{found, kept, leaves, data_begun, data_put}

-- ---- the host
landed_told : (r : Registers) (a : Access) (o : Origin) → content r ≡ as_content o →
    content (begin_access r a).registers ≡ as_content (landed a o)
unfolding begin_access landed value is_held
landed_told r (Read register lanes) o k = k
landed_told r (Write register lanes w) o k = data_begun r (Write register lanes w) ∙ go (eqb register 2)
  where
    go : (t : Bool) → record { word = cond t (replaced lanes r.latch w) r.latch; hollow = r.hollow } ≡ as_content
        (cond t (laid lanes w o) o)
    go true = ap (λ (c : Content). record { word = replaced lanes c.word w; hollow = c.hollow }) k
    go false = k

looked_told : (m : List ℕ) (n : WordNumber) → found m n ≡ as_content (looked m n)
unfolding looked value is_held
looked_told m n = rw (fetched_or m n 0xffff) (go (in_memory m n))
  where
    go : (t : Bool) → record { word = cond t (get_or m n.0 0) 0xffff; hollow = not t } ≡ as_content
        (cond t (memory n (get_or m n.0 0)) missed)
    go true = refl
    go false = refl

cycle_told : (r : Registers) (m : List ℕ) (n : WordNumber) (o : Origin) → content r ≡ as_content o → (called stores : Bool) →
    cond called (cond stores (kept r) (found m n)) (content r) ≡ as_content (cond called (cond stores (stored o) (looked m n)) o)
unfolding value is_held
cycle_told r m n o k true true = ap (λ (c : Content). record { word = c.word; hollow = false }) k
cycle_told r m n o k true false = looked_told m n
cycle_told r m n o k false stores = k

-- ---- one deed
deed_told : (s : Machine) (d : Deed) (o : Origin) → content s.registers ≡ as_content o →
    content (does s d).registers ≡ as_content (story_after s d o)
unfolding does after access done story_after value is_held
deed_told s (host a) o k = go (eqb (number_for s.memory a) 0)
  where
    r : Registers
    r = s.registers

    m : List ℕ
    m = s.memory

    go : (t : Bool) →
        content (cond t (done (begin_access r a) m) (refused (number_for m a) r)).registers ≡
        as_content (cond t (cond (has_cycle r a) (cond (writes_data a) (stored (landed a o)) (looked m (word_used r a))) (landed a o)) o)
    go true =
        (leaves r m a).data_left ∙
        cycle_told (begin_access r a).registers m (word_used r a) (landed a o) (landed_told r a o k) (has_cycle r a) (writes_data a)
    go false = k
deed_told s (processor register w) o k = data_put s.registers register w ∙ go (eqb register 2)
  where
    go : (t : Bool) → cond t (record { word = w; hollow = false }) (content s.registers) ≡ as_content (cond t (by_processor w) o)
    go true = refl
    go false = k
deed_told s reset o k = refl
deed_told s (elsewhere m) o k = k

-- ---- any run of deeds

-- After any run of deeds HSTDATA is the word of its story, hollow as the story has it.
pub run_told : (s : Machine) (l : List Deed) (o : Origin) → content s.registers ≡ as_content o →
    content (ran s l).registers ≡ as_content (story s l o)
unfolding ran story
run_told s [] o k = k
run_told s (d ∷ rest) o k = run_told (does s d) rest (story_after s d o) (deed_told s d o k)
