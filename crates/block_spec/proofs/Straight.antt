-- Accesses that step from word to word inside memory, all at once: what reads hand out and leave, and what writes store and
-- leave. Reads by what crate port_spec says of registers that stand at an address (`Handed`); writes one after the other.
use Prim.Native.Nat.{ℕ, zero, suc, ◌+◌, ◌-◌, ◌*◌, ◌%◌, ◌^◌, ◌≤◌, ◌<◌, min}
use native.Mathlib.Nat.{add-zero}
use native.Mathlib.Omega.{arith}
use mathlib.Core.Path.{◌≡◌, refl, sym, ap, ◌∙◌, subst}
use mathlib.Core.Bool.{Bool, true, false, cond}
use mathlib.Core.List.{List, [], ◌∷◌, ◌++◌, map, append_assoc}
use mathlib.Core.Logic.{◌≢◌}
use lib.ListN.{length, get_or, set, take, drop, length-set}
use lib.Seq.{drop-cons, sets, sets-eq}
use borrow.Author.Tests.{lt-ltb}
use Rattle.words.specs.Addresses.{word_at, step}
use Rattle.words.specs.Memory.{AreWords, fetch_at, store_at}
use Rattle.words.specs.declared.BitAddress.{BitAddress}
use Rattle.words.specs.declared.WordNumber.{WordNumber}
use Rattle.words.proofs.Addresses.{step_fits}
use Rattle.control.specs.Control.{incr, incw}
use Rattle.registers.specs.Registers.{with_latch}
use Rattle.registers.specs.declared.Registers.{Registers}
use Rattle.port_spec.specs.Cycle.{standing, stepped}
use Rattle.port_spec.specs.Sequences.{Machine, machine, words_in, answers, ends}
use Rattle.port_spec.specs.Table.{Memory, stands, reading, on_by, table, Lies, given}
use Rattle.port_spec.proofs.Handed.{on_by_gains, reads_answer, reads_end}
use Rattle.port_spec.proofs.TableWords.{table_handed}
use Rattle.block_spec.specs.Block.{counted, hollows_in}
use Rattle.block_spec.specs.Parts.{first_fetched, straight_reads, straight_writes, GoesStraight}
use Rattle.block_spec.specs.Parts.{stepped_by, ReadInto, WrittenFrom}
use Rattle.block_spec.proofs.HandedOut.{all_held}
use Rattle.block_spec.proofs.Joining.{join_reads, join_writes}
use Rattle.block_spec.proofs.OneAccess.{one_read, one_write}

-- ---- how many there are
goes_straight : (steps : Bool) (first : WordNumber) (words count n : ℕ) → words ≤ 32768 →
    n ≡ cond steps (min count (words - first.0)) 0 → n ≢ 0 → (n ≤ count) × GoesStraight steps first words n
goes_straight true first words count n few e h = (
  omega arith,
  record { memory = few; some = omega arith; stepping = refl; inside = omega arith },
)
goes_straight false first words count n few e h = absurd (h e)

-- The step before a read's fetch leads to the word that is fetched first, unless the pointer wraps.
pub first_fetched_is : (r : Registers) → r.pointer.0 + 16 < 2 ^ 32 → (word_at (step r.pointer)).0 ≡ (first_fetched r).0
first_fetched_is r h = omega arith

-- Reads go straight, if any, while the word after the pointer's, which they fetch, is in memory.
pub reads_go_straight : (r : Registers) (words count n : ℕ) → words ≤ 32768 → n ≡ straight_reads r words count → n ≢ 0 →
    (n ≤ count) × GoesStraight (incr r.control) (first_fetched r) words n
unfolding straight_reads
reads_go_straight r words count n = goes_straight (incr r.control) (first_fetched r) words count n

-- Writes go straight, if any, while the pointer's word is in memory.
pub writes_go_straight : (r : Registers) (words count n : ℕ) → words ≤ 32768 → n ≡ straight_writes r words count → n ≢ 0 →
    (n ≤ count) × GoesStraight (incw r.control) (word_at r.pointer) words n
unfolding straight_writes
writes_go_straight r words count n = goes_straight (incw r.control) (word_at r.pointer) words count n

-- ---- reads
-- the registers n words on
abbrev pub moved : Registers → List ℕ → ℕ → Registers
moved r m n =
    record {
      pointer = stepped_by n r.pointer;
      latch = get_or m ((word_at r.pointer).0 + n) 0;
      control = r.control;
      hollow = false;
    }

module _ (r : Registers) (m : List ℕ) (k : Memory m) (i : incr r.control ≡ true) where
  abbrev s : Machine
  s = machine r m

  -- Registers that stand inside memory.
  stands_inside : (a : BitAddress) → (word_at a).0 < length m →
      standing m r.control a ≡ record { pointer = a; latch = get_or m (word_at a).0 0; control = r.control; hollow = false }
  unfolding standing fetch_at
  stands_inside a h = rw (lt-ltb (word_at a).0 (length m) h)

  -- reads of registers that stand at a
  later : (n : ℕ) (a : BitAddress) → Lies m a n →
      ReadInto (machine (standing m r.control a) m) n
      (record { registers = standing m r.control (on_by n a); tallied = 0 }) (table m a n)
  later n a h =
      let given_so = ap (map given) (reads_answer s k i n a) ∙ table_handed m k.size n a h in
      let g = all_held (answers (stands s a) (reading n)) (table m a n) given_so in
      record {
        registers = sym (ap (λ (t : Machine). t.registers) (reads_end s k i n a));
        tallied = sym g.1;
        words = sym g.0;
      }

  -- Of reads that go straight the first word is the one already held; the others are copied from memory, and so is the word that is held in
  -- the end.
  pub straight_read : (n : ℕ) → r.latch < 65536 → (word_at r.pointer).0 + suc n < length m →
      ReadInto s (suc n) (record { registers = moved r m (suc n); tallied = counted r.hollow })
      (r.latch ∷ table m (step r.pointer) n)
  straight_read n f h =
      let a = r.pointer in
      let first : ReadInto s 1 (record { registers = standing m r.control (step a); tallied = counted r.hollow }) (r.latch ∷ []) =
      rw i at (one_read r m k.size f) in
      let both = join_reads r m 1 n _ _ _ _ first (later n (step a) (omega (arith, k.size))) in
      let count : 1 + n ≡ suc n = omega arith in
      let gained : (on_by n (step a)).0 ≡ (a.0 + 16 * suc n) % 2 ^ 32 = on_by_gains n (step a) (step_fits a) ∙ omega arith in
      let there : on_by n (step a) ≡ stepped_by (suc n) a = ap (λ (x : ℕ). record { 0 = x }) gained in
      let word : (word_at (stepped_by (suc n) a)).0 ≡ (word_at a).0 + suc n = omega (arith, k.size) in
      let stands_at = ap (standing m r.control) there ∙ stands_inside (stepped_by (suc n) a) (omega (arith, word)) in
      let at_end = stands_at ∙ ap (λ (x : ℕ). with_latch (moved r m (suc n)) (get_or m x 0) false) word in
      record {
        registers = sym at_end ∙ both.registers ∙ ap (λ (x : ℕ). (ends s (reading x)).registers) count;
        tallied = sym (add-zero _) ∙ both.tallied ∙ ap (λ (x : ℕ). hollows_in (answers s (reading x))) count;
        words = both.words ∙ ap (λ (x : ℕ). words_in (answers s (reading x))) count;
      }

  -- the same by a copy from the pointer's word on, with the word already held laid over the first
  laid_over : (n : ℕ) → 0 < n → r.latch < 65536 → (word_at r.pointer).0 + n < length m →
      ReadInto s n (record { registers = moved r m n; tallied = counted r.hollow })
      (set (take n (drop (word_at r.pointer).0 m)) 0 r.latch)
  laid_over zero p f h = absurd (omega (arith, p))
  laid_over (suc n) p f h =
      let x = (word_at r.pointer).0 in
      let next : (word_at (step r.pointer)).0 ≡ suc x = omega (arith, k.size, h) in
      rw (drop-cons m x 0 (omega (arith, h))) (rw next at (straight_read n f h))

-- Reads that go straight hand out a copy from the pointer's word on, with the word already held laid over the first.
pub copied_read : (r : Registers) (m : List ℕ) (n : ℕ) → GoesStraight (incr r.control) (first_fetched r) (length m) n →
    AreWords m → r.latch < 65536 →
    ReadInto (machine r m) n (record { registers = moved r m n; tallied = counted r.hollow })
    (set (take n (drop (word_at r.pointer).0 m)) 0 r.latch)
copied_read r m n g w f =
    laid_over r m (record { size = g.memory; words = w }) g.stepping n g.some f (omega (arith, g.inside))

-- ---- writes
-- the registers after n writes, the last of them of the word w
abbrev pub wrote : Registers → ℕ → ℕ → Registers
wrote r n w = record { pointer = stepped_by n r.pointer; latch = w; control = r.control; hollow = false }

one_straight : (r : Registers) (m : List ℕ) (w : ℕ) →
    length m ≤ 32768 → incw r.control ≡ true → w < 65536 → (word_at r.pointer).0 < length m →
    WrittenFrom (machine r m) (w ∷ []) (record { registers = wrote r 1 w; tallied = 0 }) (set m (word_at r.pointer).0 w)
unfolding stepped store_at
one_straight r m w few i f h = rw (i, lt-ltb (word_at r.pointer).0 (length m) h) at (one_write r m few w f)

-- The words of writes that go straight lie in memory from the pointer's word on, and the last is held.
pub straight_write : (ws : List ℕ) (w : ℕ) (r : Registers) (m : List ℕ) → length m ≤ 32768 → incw r.control ≡ true →
    AreWords (w ∷ ws) → (word_at r.pointer).0 + suc (length ws) ≤ length m →
    WrittenFrom (machine r m) (w ∷ ws) (record { registers = wrote r (suc (length ws)) (get_or (w ∷ ws) (length ws) 0); tallied = 0 })
    (sets m (word_at r.pointer).0 (w ∷ ws))
straight_write [] w r m few i f h = one_straight r m w few i (f 0) (omega arith)
straight_write (v ∷ vs) w r m few i f h =
    let x = (word_at r.pointer).0 in
    let n = suc (length vs) in
    let next : (word_at (stepped_by 1 r.pointer)).0 ≡ suc x = omega (arith, few, h) in
    let size : length (set m x w) ≡ length m = length-set m x w in
    let first = one_straight r m w few i (f 0) (omega (arith, h)) in
    let rest = straight_write vs v (wrote r 1 w) (set m x w) (rw size few) i (λ j. f (suc j)) (rw (size, next) (omega (arith, h))) in
    let gained : ((r.pointer.0 + 16 * 1) % 2 ^ 32 + 16 * n) % 2 ^ 32 ≡ (r.pointer.0 + 16 * suc n) % 2 ^ 32 = omega arith in
    rw (gained, next, add-zero) at (join_writes (machine r m) (set m x w) _ _ _ (w ∷ []) (v ∷ vs) first rest)

-- Writes that go straight leave a copy of their words from the pointer's word on.
pub copied_write : (ws : List ℕ) (r : Registers) (m : List ℕ) →
    GoesStraight (incw r.control) (word_at r.pointer) (length m) (length ws) → AreWords ws →
    WrittenFrom (machine r m) ws (record { registers = wrote r (length ws) (get_or ws (length ws - 1) 0); tallied = 0 })
    (take (word_at r.pointer).0 m ++ (ws ++ drop ((word_at r.pointer).0 + length ws) m))
copied_write [] r m g f = absurd (omega (arith, g.some))
copied_write (w ∷ ws) r m g f =
    let x = (word_at r.pointer).0 in
    let last : suc (length ws) - 1 ≡ length ws = omega arith in
    let laid = sets-eq (w ∷ ws) m x g.inside ∙ append_assoc (take x m) (w ∷ ws) (drop (x + suc (length ws)) m) in
    rw last (subst (WrittenFrom (machine r m) (w ∷ ws) _) laid (straight_write ws w r m g.memory g.stepping f g.inside))
