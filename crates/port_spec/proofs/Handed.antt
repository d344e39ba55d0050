-- What reads of HSTDATA hand out, wherever the pointer was loaded: memory as it lies from there on, word after word, each
-- with its own mark, also where the pointer comes round. Document 01, 'The four host registers'.
-- Loading the pointer leaves the registers `standing` at its address. One read of such registers hands out the word there
-- and leaves them standing one word on. The rest is a count of reads.
use Prim.Native.Nat.{ℕ, zero, suc, ◌+◌, ◌*◌, ◌%◌, ◌^◌, ◌<◌}
use native.Mathlib.Omega.{arith}
use mathlib.Core.Path.{◌≡◌, refl, ap, ◌∙◌}
use mathlib.Core.Bool.{true, false}
use mathlib.Core.Logic.{⊎_elim}
use lib.Dec.{ltb}
use lib.ListN.{length}
use borrow.Author.Tests.{le-ltb}
use Rattle.words.specs.Addresses.{word_at, step}
use Rattle.words.specs.Bytes.{takes_low, takes_high, are_lanes, replaced}
use Rattle.words.specs.declared.BitAddress.{BitAddress}
use Rattle.words.proofs.Addresses.{step_fits}
use Rattle.std.proofs.lemmas.Bool.{cases_Bool}
use Rattle.words.proofs.Lanes.{shown_whole, replaced_whole}
use Rattle.words.proofs.MemoryWords.{fetched_some, fetched_word}
use Rattle.control.specs.Control.{lbl, incr, closes, fetches}
use Rattle.control.proofs.ClosingByte.{both_close}
use Rattle.registers.specs.declared.Registers.{Registers}
use Rattle.registers.specs.Registers.{with_pointer, low_half, high_half, halves, register_word, half_written, written}
use Rattle.port_spec.specs.Cycle.{stepped, after_fetch, carried, memory_after, shows, standing}
use Rattle.port_spec.specs.Host.{read_due, write_due, begin_access, refusal, done, access, access_memory}
use Rattle.port_spec.specs.Sequences.{Machine, machine, answer_of, after, answers, ends}
use Rattle.port_spec.specs.Table.{Memory, loading, loaded, stands, reading, hand, handed, on_by}
use Rattle.port_spec.specs.declared.Access.TheVariants.{Read}
use Rattle.port_spec.specs.declared.Outcome.{Outcome}
use Rattle.port_spec.proofs.Leaves.{fetched_here}

-- ---- the pointer
-- The pointer n words on has gained 16 n modulo 2^32.
pub on_by_gains : (n : ℕ) (a : BitAddress) → a.0 < 2 ^ 32 → (on_by n a).0 ≡ (a.0 + 16 * n) % 2 ^ 32
unfolding on_by
on_by_gains zero a h = omega arith
on_by_gains (suc n) a h = on_by_gains n (step a) (step_fits a) ∙ omega arith

-- the pointer after two whole writes of its halves, in either order; x, y and q stood there before
module _ (a : BitAddress) (h : a.0 < 2 ^ 32) (x y : ℕ) (q : BitAddress) where
  low_whole : replaced 3 x (low_half a) ≡ low_half a
  low_whole = replaced_whole x (low_half a) (omega arith)

  high_whole : replaced 3 y (high_half a) ≡ high_half a
  high_whole = replaced_whole y (high_half a) (omega arith)

  high_then_low : (halves (replaced 3 x (low_half a)) (high_half (halves (low_half q) (replaced 3 y (high_half a))))).0 ≡ a.0
  high_then_low = rw (low_whole, high_whole) (omega arith)

  low_then_high : (halves (low_half (halves (replaced 3 x (low_half a)) (high_half q))) (replaced 3 y (high_half a))).0 ≡ a.0
  low_then_high = rw (low_whole, high_whole) (omega arith)

module _ (s : Machine) (k : Memory s.memory) where
  not_over : ltb 32768 (length s.memory) ≡ false
  not_over = le-ltb 32768 (length s.memory) k.size

  -- ---- loading the pointer
  -- The two writes that load the pointer fetch the word there; memory and the control register stay.
  pub loads : (a : BitAddress) → a.0 < 2 ^ 32 → loaded s a ≡ stands s a
  unfolding
      loading ends after access access_memory refusal are_lanes done begin_access write_due half_written written closes fetches
      takes_low takes_high carried memory_after stepped after_fetch standing
  loads a h =
      let there = ap (λ (r : Registers). machine r s.memory) (fetched_here (with_pointer s.registers a) s.memory) in
      ⊎_elim
      (λ e. rw e (rw (not_over, e) (rw (not_over, e, high_then_low a h) there)))
      (λ e. rw e (rw (not_over, e) (rw (not_over, e, low_then_high a h) there)))
      (cases_Bool (lbl s.registers.control))

  -- ---- reading
  -- What a fetch brings is a word.
  pub shows_word : (a : BitAddress) → shows s.memory a < 65536
  shows_word a = fetched_word s.memory (word_at a) k.words _ (omega arith)

  module _ (i : incr s.registers.control ≡ true) where
    one_read : (a : BitAddress) →
        access (stands s a).registers s.memory (Read 2 3)
        ≡ record { answer = hand s.memory a; registers = (stands s (step a)).registers }
    unfolding access refusal are_lanes done begin_access register_word read_due carried stepped after_fetch hand standing
    one_read a = rw (not_over, both_close s.registers.control, i, fetched_some s.memory (word_at (step a)), shown_whole _ (shows_word a))

    -- A read hands out the word that the registers stand at.
    pub read_answer : (a : BitAddress) → answer_of (stands s a) (Read 2 3) ≡ hand s.memory a
    unfolding answer_of
    read_answer a = ap (λ (o : Outcome). o.answer) (one_read a)

    -- A read leaves the registers standing one word on.
    pub read_after : (a : BitAddress) → after (stands s a) (Read 2 3) ≡ stands s (step a)
    unfolding after access_memory refusal are_lanes begin_access read_due memory_after standing
    read_after a = rw (one_read a, not_over, both_close s.registers.control)

    -- n reads hand out n words, one after the other.
    pub reads_answer : (n : ℕ) (a : BitAddress) → answers (stands s a) (reading n) ≡ handed s.memory a n
    unfolding answers reading handed
    reads_answer zero a = refl
    reads_answer (suc n) a = rw (read_answer a, read_after a, reads_answer n (step a))

    -- n reads leave the registers standing n words on.
    pub reads_end : (n : ℕ) (a : BitAddress) → ends (stands s a) (reading n) ≡ stands s (on_by n a)
    unfolding ends reading on_by
    reads_end zero a = refl
    reads_end (suc n) a = ap (λ (t : Machine). ends t (reading n)) (read_after a) ∙ reads_end n (step a)

    -- With INCR set and the pointer loaded anywhere, n reads hand out memory as it lies from there on, each word with its own marks, also
    -- where the pointer comes round.
    pub reads_hand : (a : BitAddress) → a.0 < 2 ^ 32 → (n : ℕ) → answers (loaded s a) (reading n) ≡ handed s.memory a n
    reads_hand a h n = rw (loads a h) (reads_answer n a)

    -- With INCR set and the pointer loaded anywhere, n reads leave the registers standing n words on; memory and the control register stay.
    pub reads_leave : (a : BitAddress) → a.0 < 2 ^ 32 → (n : ℕ) → ends (loaded s a) (reading n) ≡ stands s (on_by n a)
    reads_leave a h n = rw (loads a h) (reads_end n a)
