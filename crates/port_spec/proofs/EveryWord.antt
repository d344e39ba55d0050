-- The watch tuner's law: every word is handed out, the last included; and what the reads after the last one say.
-- Document 01, 'The four host registers' and, for the port that fails it, the first of the 'Mistakes that look right'.
-- By `Handed`, reads hand out memory as it lies from the table on; by `TableWords`, that is the table, and then filler.
use Prim.Native.Nat.{ℕ, ◌+◌, ◌*◌, ◌^◌, ◌<◌, ◌≤◌}
use native.Mathlib.Omega.{arith}
use mathlib.Core.Path.{◌≡◌, ap, ◌∙◌}
use mathlib.Core.Bool.{true, false}
use mathlib.Core.List.{◌++◌, map}
use lib.ListN.{length, get_or, replicate, length-take, length-drop}
use Rattle.words.specs.Addresses.{word_at}
use Rattle.words.specs.declared.BitAddress.{BitAddress}
use Rattle.control.specs.Control.{incr}
use Rattle.port_spec.specs.Cycle.{standing}
use Rattle.port_spec.specs.Sequences.{Machine, load, on, answer_of, answers, ends, byte_answers}
use Rattle.port_spec.specs.Table.{Memory, loading, loaded, byte_loaded, reading, on_by, table, Lies, Given, given, held_word, filler}
use Rattle.port_spec.specs.declared.Answer.{Answer}
use Rattle.port_spec.specs.declared.Cycle.TheVariants.{Empty}
use Rattle.port_spec.proofs.Alike.{answers_alike, ends_alike}
use Rattle.port_spec.proofs.Handed.{on_by_gains, read_answer, reads_hand, reads_leave}
use Rattle.port_spec.proofs.TableWords.{held_here, ahead_empty, table_handed, filler_handed, handed_on}

-- Load the pointer at a table of n words and read n times. The answers hand out the table's words in order, the last
-- included, each numbered 0 and held, whatever lies after the table; the same where every access is done as two byte
-- accesses. Memory and the control register stay, and the pointer stands just past the table.
pub record EveryWord (s : Machine) (a : BitAddress) (n : ℕ) : Type 0 where
  pub count : length (table s.memory a n) ≡ n
  pub words : map given (answers (loaded s a) (reading n)) ≡ map held_word (table s.memory a n)
  pub bytes : map given (byte_answers (byte_loaded s a) (reading n)) ≡ map held_word (table s.memory a n)
  pub memory : (ends (loaded s a) (reading n)).memory ≡ s.memory
  pub control : (ends (loaded s a) (reading n)).registers.control ≡ s.registers.control
  pub pointer : (ends (loaded s a) (reading n)).registers.pointer.0 ≡ a.0 + 16 * n

-- what the next read answers, once the pointer is loaded with a and n words are read
abbrev pub next_answer : Machine → BitAddress → ℕ → Answer
next_answer s a n = answer_of (ends (loaded s a) (reading n)) (on 3 (load 2))

-- The last word of a table of n + 1 words is handed out like the others: its read is numbered 0, answers word a div 16 + n
-- of memory, and is held. At the end of memory too, where the fetch ahead of that read is empty.
pub record LastWord (s : Machine) (a : BitAddress) (n : ℕ) : Type 0 where
  pub number : (next_answer s a n).number ≡ 0
  pub word : (next_answer s a n).word ≡ get_or s.memory ((word_at a).0 + n) 0
  pub held : (next_answer s a n).hollow ≡ false
  pub ahead : (word_at a).0 + n + 1 ≡ length s.memory → (next_answer s a n).cycle ≡ Empty

-- a memory that is not refused, INCR set, and the address that the pointer is loaded with
module _ (s : Machine) (k : Memory s.memory) (i : incr s.registers.control ≡ true) (a : BitAddress) where
  fits : (n : ℕ) → Lies s.memory a n → a.0 < 2 ^ 32
  fits n h = omega (arith, k.size)

  just_past : (n : ℕ) → Lies s.memory a n → (on_by n a).0 ≡ a.0 + 16 * n
  just_past n h = on_by_gains n a (fits n h) ∙ omega (arith, k.size)

  by_bytes : (n : ℕ) → byte_answers (byte_loaded s a) (reading n) ≡ answers (loaded s a) (reading n)
  by_bytes n = rw (ends_alike s (loading s.registers.control a)) (answers_alike (loaded s a) (reading n))

  -- With a memory that is not refused, INCR set, and the pointer loaded at a table of n words that lies in memory, n reads answer exactly
  -- the table's words in order, the last included, each numbered 0 and held, whatever lies after it; the same where all is done by bytes.
  -- Memory and HSTCTL stay, and the pointer stands just past the table.
  pub every_word : (n : ℕ) → Lies s.memory a n → EveryWord s a n
  unfolding standing
  every_word n h =
      let w = ap (map given) (reads_hand s k i a (fits n h) n) ∙ table_handed s.memory k.size n a h in
      let e = reads_leave s k i a (fits n h) n in
      record {
        count = simp (length-take, length-drop) (omega arith);
        words = w;
        bytes = ap (map given) (by_bytes n) ∙ w;
        memory = ap (λ (t : Machine). t.memory) e;
        control = ap (λ (t : Machine). t.registers.control) e;
        pointer = ap (λ (t : Machine). t.registers.pointer.0) e ∙ just_past n h;
      }

  -- The read of the table's last word is numbered 0, answers that word, and is held; if the table ends with memory, its cycle is empty.
  pub last_word_held : (n : ℕ) → Lies s.memory a (n + 1) → LastWord s a n
  last_word_held n h =
      let p = just_past n (omega arith) in
      let here : (word_at (on_by n a)).0 ≡ (word_at a).0 + n = omega arith in
      let t = reads_leave s k i a (fits n (omega arith)) n in
      let e = ap (λ (x : Machine). answer_of x (on 3 (load 2))) t ∙ read_answer s k i (on_by n a) in
      let g = rw here at (ap given e ∙ held_here s.memory (on_by n a) (omega arith)) in
      record {
        number = ap (λ (x : Given). x.number) g;
        word = ap (λ (x : Given). x.word) g;
        held = ap (λ (x : Given). x.hollow) g;
        ahead = λ q. ap (λ (x : Answer). x.cycle) e ∙ ahead_empty s.memory (on_by n a) (omega arith);
      }

  -- With INCR set, reads that run past the end of memory answer its words, held, and after the last of them FFFFh, marked hollow, up to
  -- word 2^28, where the pointer comes round.
  pub then_hollow : (n j : ℕ) → (word_at a).0 + n ≡ length s.memory → (word_at a).0 + n + j ≤ 2 ^ 28 →
      map given (answers (loaded s a) (reading (n + j))) ≡ map held_word (table s.memory a n) ++ replicate j filler
  then_hollow n j h q =
      let p = just_past n (omega arith) in
      let rest = filler_handed s.memory j (on_by n a) (omega arith) (omega arith) in
      ap (map given) (reads_hand s k i a (fits n (omega arith)) (n + j)) ∙
      handed_on s.memory n j a ∙
      rw (table_handed s.memory k.size n a (omega arith), rest)

  -- With INCR set and the pointer loaded past the end of memory, reads answer nothing but FFFFh, marked hollow, up to word 2^28, where the
  -- pointer comes round.
  pub only_hollow : (j : ℕ) → a.0 < 2 ^ 32 → length s.memory ≤ (word_at a).0 → (word_at a).0 + j ≤ 2 ^ 28 →
      map given (answers (loaded s a) (reading j)) ≡ replicate j filler
  only_hollow j b h q = ap (map given) (reads_hand s k i a b j) ∙ filler_handed s.memory j a h q
