-- "A pointer keeps its four low bits; a cycle uses pointer div 16": document 01, 'Memory and addresses'.
-- The step is by whole words, so it keeps the low bits, and from two addresses of one word it goes to one word.
use Prim.Native.Nat.{ℕ, ◌%◌}
use mathlib.Core.Path.{◌≡◌, refl, sym, ap, ◌∙◌}
use mathlib.Core.Bool.{Bool, true, false, cond, not}
use mathlib.Core.List.{List}
use lib.Dec.{eqb}
use Rattle.std.specs.Option.{is_some}
use Rattle.words.specs.Addresses.{word_at, stepped_from}
use Rattle.words.specs.Memory.{in_memory, fetch_at}
use Rattle.words.specs.declared.BitAddress.{BitAddress}
use Rattle.words.specs.declared.WordNumber.{WordNumber}
use Rattle.words.proofs.Addresses.{step_keeps_low_bits, step_of_word}
use Rattle.registers.specs.Registers.{with_pointer, register_word, written}
use Rattle.registers.specs.declared.Registers.{Registers}
use Rattle.port_spec.specs.Cycle.{stepped, cycle_of, brought, after_fetch, after_store, carried, memory_after}
use Rattle.port_spec.specs.Host.{begin_access, number_for, refused, done, access, access_memory}
use Rattle.port_spec.specs.Deeds.{Content, content}
use Rattle.port_spec.specs.declared.Access.{Access}
use Rattle.port_spec.specs.declared.Access.TheVariants.{Read, Write}
use Rattle.port_spec.specs.declared.Due.{Due}
use Rattle.port_spec.specs.declared.Due.TheVariants.{Nothing, Fetch, Store}
use Rattle.port_spec.specs.declared.Begun.{Begun}
use Rattle.port_spec.specs.declared.Carried.{Carried}
use Rattle.port_spec.specs.declared.Outcome.{Outcome}

abbrev low_bits : Registers → ℕ
low_bits r = r.pointer.0 % 16

-- ---- no cycle changes the low bits
step_keeps : (s : Bool) (r : Registers) → low_bits (stepped s r) ≡ low_bits r
unfolding stepped
step_keeps true r = step_keeps_low_bits r.pointer
step_keeps false r = refl

-- Whatever cycle is due, the four low bits of the pointer stay.
pub cycle_keeps_low_bits : (r : Registers) (d : Due) (m : List ℕ) → low_bits (carried r d m).registers ≡ low_bits r
unfolding carried after_fetch after_store
cycle_keeps_low_bits r Nothing m = refl
cycle_keeps_low_bits r (Fetch s) m = step_keeps s r
cycle_keeps_low_bits r (Store s) m = step_keeps s _

-- ---- a cycle uses the word that the pointer lies in, and of the pointer nothing else
one_word : (s : Bool) (a b : BitAddress) → word_at a ≡ word_at b → word_at (stepped_from s a) ≡ word_at (stepped_from s b)
one_word true a b e =
    let n = ap (λ (x : WordNumber). x.0) e in
    ap (λ (x : ℕ). record { 0 = x }) (step_of_word a ∙ rw n (sym (step_of_word b)))
one_word false a b e = e

-- what a cycle leaves that shows: its mark, HSTDATA with its hollow mark, and the word that the pointer lies in
pub record SameCycle (x y : Carried) : Type 0 where
  pub cycle : x.cycle ≡ y.cycle
  pub data_left : content x.registers ≡ content y.registers
  pub next : word_at x.registers.pointer ≡ word_at y.registers.pointer

module _ (m : List ℕ) (q r : Registers) (e : word_at q.pointer ≡ word_at r.pointer) (k : content q ≡ content r) where
  -- Two pointers into one word, with HSTDATA alike: every cycle leaves alike all that shows.
  pub cycle_by_word : (d : Due) → SameCycle (carried q d m) (carried r d m)
  unfolding carried after_fetch after_store stepped
  cycle_by_word Nothing = record { cycle = refl; data_left = k; next = e }
  cycle_by_word (Fetch s) =
      let w = one_word s q.pointer r.pointer e in
      record {
        cycle = ap (λ (n : WordNumber). cycle_of (is_some (fetch_at m n))) w;
        data_left = ap (λ (n : WordNumber). record { word = (brought (fetch_at m n)).word; hollow = not (is_some (fetch_at m n)) }) w;
        next = w;
      }
  cycle_by_word (Store s) =
      record {
        cycle = ap (λ (n : WordNumber). cycle_of (in_memory m n)) e;
        data_left = ap (λ (c : Content). record { word = c.word; hollow = false }) k;
        next = one_word s q.pointer r.pointer e;
      }

  -- Two pointers into one word, with HSTDATA alike: every cycle leaves the same memory.
  pub memory_by_word : (d : Due) → memory_after q d m ≡ memory_after r d m
  unfolding memory_after
  memory_by_word Nothing = refl
  memory_by_word (Fetch s) = refl
  memory_by_word (Store s) = rw (e, ap (λ (c : Content). c.word) k)

-- ---- so two pointers into one word read and write HSTDATA alike, and go on alike

-- access x, with the pointer at a and at b: the same answer and memory, the same HSTDATA, and pointers into one word again
pub record Unused (r : Registers) (m : List ℕ) (a b : BitAddress) (x : Access) : Type 0 where
  pub answer : (access (with_pointer r a) m x).answer ≡ (access (with_pointer r b) m x).answer
  pub data_left : content (access (with_pointer r a) m x).registers ≡ content (access (with_pointer r b) m x).registers
  pub next : word_at (access (with_pointer r a) m x).registers.pointer ≡ word_at (access (with_pointer r b) m x).registers.pointer
  pub memory : access_memory (with_pointer r a) m x ≡ access_memory (with_pointer r b) m x

-- x and y are begun alike: the same answer so far, the same HSTDATA and cycle, and pointers into one word
record BegunAlike (x y : Begun) : Type 0 where
  word : x.word ≡ y.word
  hollow : x.hollow ≡ y.hollow
  data_left : content x.registers ≡ content y.registers
  due : x.due ≡ y.due
  aim : word_at x.registers.pointer ≡ word_at y.registers.pointer

module _ (r : Registers) (m : List ℕ) (a b : BitAddress) (e : word_at a ≡ word_at b) (x : Access) where
  abbrev at : BitAddress → Begun
  at p = begin_access (with_pointer r p) x

  abbrev from : BitAddress → Bool → Outcome
  from p t = cond t (done (at p) m) (refused (number_for m x) (with_pointer r p))

  unused : BegunAlike (at a) (at b) → Unused r m a b x
  unfolding access access_memory done
  unused h =
      record {
        answer = answers (eqb (number_for m x) 0);
        data_left = contents (eqb (number_for m x) 0);
        next = pointers (eqb (number_for m x) 0);
        memory = memories (eqb (number_for m x) 0);
      }
    where
      same : SameCycle (carried (at a).registers (at a).due m) (carried (at b).registers (at b).due m)
      same = rw h.due (cycle_by_word m (at a).registers (at b).registers h.aim h.data_left (at b).due)

      answers : (t : Bool) → (from a t).answer ≡ (from b t).answer
      answers true = rw (h.word, h.hollow, same.cycle)
      answers false = refl

      contents : (t : Bool) → content (from a t).registers ≡ content (from b t).registers
      contents true = same.data_left
      contents false = refl

      pointers : (t : Bool) → word_at (from a t).registers.pointer ≡ word_at (from b t).registers.pointer
      pointers true = same.next
      pointers false = e

      memories : (t : Bool) → cond t (memory_after (at a).registers (at a).due m) m ≡ cond t
          (memory_after (at b).registers (at b).due m) m
      memories true = rw h.due (memory_by_word m (at a).registers (at b).registers h.aim h.data_left (at b).due)
      memories false = refl

module _ (r : Registers) (m : List ℕ) (a b : BitAddress) (e : word_at a ≡ word_at b) where
  -- With two pointers into one word a read of HSTDATA answers the same, leaves the same memory, HSTDATA and mark, and pointers into one
  -- word again: it does not use the low bits.
  pub read_low_bits_unused : (lanes : ℕ) → Unused r m a b (Read 2 lanes)
  unfolding begin_access register_word
  read_low_bits_unused lanes = unused r m a b e (Read 2 lanes)
      (record { word = refl; hollow = refl; data_left = refl; due = refl; aim = e })

  -- With two pointers into one word a write of HSTDATA answers and stores the same, leaves the same HSTDATA and mark, and pointers into one
  -- word again.
  pub write_low_bits_unused : (lanes w : ℕ) → Unused r m a b (Write 2 lanes w)
  unfolding begin_access written
  write_low_bits_unused lanes w = unused r m a b e (Write 2 lanes w)
      (record { word = refl; hollow = refl; data_left = refl; due = refl; aim = e })
