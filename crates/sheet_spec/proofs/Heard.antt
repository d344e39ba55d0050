-- What the reader is told, by the table as it lies in memory. Reads hand memory out as it lies (crate port_spec, `Handed`), so the first
-- answer is the count word's and the others are the ticks'; a word that is not there is hollow.
use Prim.Native.Nat.{ℕ, zero, suc, ◌+◌, ◌^◌, ◌<◌, ◌≤◌}
use native.Mathlib.Omega.{arith}
use mathlib.Core.Path.{◌≡◌, refl, ap, ◌∙◌}
use mathlib.Core.Bool.{true, false}
use mathlib.Core.List.{List}
use mathlib.Core.Logic.{⊎_elim, ◌≢◌}
use lib.ListN.{length, get_or, drop, length-take, length-drop}
use lib.Seq.{drop-cons, get_or-take, get_or-drop}
use borrow.Author.Tests.{lt-ltb, le-ltb, eq-eqb, ne_eqb}
use Rattle.words.specs.Addresses.{word_at, step}
use Rattle.words.specs.Memory.{fetch_at}
use Rattle.words.specs.declared.BitAddress.{BitAddress}
use Rattle.words.proofs.Addresses.{step_next}
use Rattle.std.proofs.lemmas.Bool.{cases_lt}
use Rattle.control.specs.Control.{incr}
use Rattle.port_spec.specs.Sequences.{Machine, words_in}
use Rattle.port_spec.specs.Table.{Memory, hand, handed, table, Lies}
use Rattle.port_spec.proofs.Handed.{reads_hand}
use Rattle.sheet_spec.specs.InPlainWords.{count_word, tick}
use Rattle.sheet_spec.specs.Reading.{whole, table_read, any_hollow}
use Rattle.sheet_spec.specs.Sheet.{count_refusal, heard, ticks_heard, count_number}

-- ---- answers that hand memory out from b on
module _ (m : List ℕ) (k : length m ≤ 32768) where
  -- the pointer's step goes to the next word, where memory has this one
  next_word : (b : BitAddress) → (word_at b).0 < length m → (word_at (step b)).0 ≡ suc (word_at b).0
  next_word b h = step_next b (omega arith)

  held_first : (b : BitAddress) → (word_at b).0 < length m → (hand m b).hollow ≡ false
  unfolding hand
  held_first b h = rw (lt-ltb (word_at b).0 (length m) h)

  hollow_first : (b : BitAddress) → length m ≤ (word_at b).0 → (hand m b).hollow ≡ true
  unfolding hand
  hollow_first b h = rw (le-ltb (word_at b).0 (length m) h)

  word_first : (b : BitAddress) → (word_at b).0 < length m → (hand m b).word ≡ get_or m (word_at b).0 0
  unfolding hand fetch_at
  word_first b h = rw (lt-ltb (word_at b).0 (length m) h)

  -- None of the answers that hand memory out from b on is hollow, if all their words lie in memory.
  pub all_held : (n : ℕ) (b : BitAddress) → Lies m b n → any_hollow (handed m b n) ≡ false
  unfolding any_hollow handed
  all_held zero b h = refl
  all_held (suc n) b h =
      let next = next_word b (omega arith) in
      rw (held_first b (omega arith)) (all_held n (step b) (rw next (omega arith)))

  -- Some of the answers that hand memory out from b on is hollow, if one of their words does not lie in memory, and the first lies there or
  -- just past its end.
  pub some_hollow : (n : ℕ) (b : BitAddress) → (word_at b).0 ≤ length m → length m < (word_at b).0 + n → any_hollow (handed m b n) ≡ true
  unfolding any_hollow handed
  some_hollow zero b l h = absurd (omega arith)
  some_hollow (suc n) b l h =
      ⊎_elim
      (λ x. let next = next_word b x in
      rw (held_first b x) (some_hollow n (step b) (rw next (omega arith)) (rw next (omega arith))))
      (λ x. rw (hollow_first b x))
      (cases_lt (word_at b).0 (length m))

  -- The answers that hand memory out from b on hand out the words of the table there, if all these lie in memory.
  pub words_handed : (n : ℕ) (b : BitAddress) → Lies m b n → words_in (handed m b n) ≡ table m b n
  unfolding handed
  words_handed zero b h = refl
  words_handed (suc n) b h =
      let next = next_word b (omega arith) in
      let rest = words_handed n (step b) (rw next (omega arith)) in
      rw (word_first b (omega arith), drop-cons m (word_at b).0 0 (omega arith), rest, next)

-- ---- a sheet of n strokes that is begun: a memory that is not refused, INCR set, and the table's address
module _ (s : Machine) (k : Memory s.memory) (i : incr s.registers.control ≡ true) (a : BitAddress) (h : a.0 < 2 ^ 32) (n : ℕ) where
  -- The reader is told what memory has from the table's address on.
  pub heard_is : heard whole s a n ≡ handed s.memory a (suc n)
  unfolding table_read
  heard_is = reads_hand s k i a h (suc n)

  -- A count word that is not in memory is refused with 42.
  pub count_missed_says : length s.memory ≤ (word_at a).0 → count_number whole s a n ≡ 42
  unfolding count_refusal any_hollow handed
  count_missed_says q = rw heard_is (rw (hollow_first s.memory k.size a q))

  -- A count word that lies in memory and says another number is refused with 43.
  pub count_wrong_says : (word_at a).0 < length s.memory → count_word s.memory a ≢ n → count_number whole s a n ≡ 43
  unfolding count_refusal any_hollow handed
  count_wrong_says q d =
      rw heard_is (rw (held_first s.memory k.size a q, word_first s.memory k.size a q, ne_eqb _ _ d))

  -- A count word that lies in memory and says the right number is not refused.
  pub count_right_says : (word_at a).0 < length s.memory → count_word s.memory a ≡ n → count_number whole s a n ≡ 0
  unfolding count_refusal any_hollow handed
  count_right_says q e =
      rw heard_is (rw (held_first s.memory k.size a q, word_first s.memory k.size a q, eq-eqb _ _ e))

  ticks_are : drop 1 (heard whole s a n) ≡ handed s.memory (step a) n
  unfolding handed
  ticks_are = rw heard_is

  -- A tick that is not in memory is told as hollow, if the count word is there.
  pub tick_missed_says : (word_at a).0 < length s.memory → length s.memory < (word_at a).0 + suc n →
      any_hollow (drop 1 (heard whole s a n)) ≡ true
  tick_missed_says q l =
      let next = next_word s.memory k.size a (omega arith) in
      rw ticks_are (some_hollow s.memory k.size n (step a) (rw next (omega arith)) (rw next (omega arith)))

  -- Of a table that lies in memory no tick is told as hollow.
  pub ticks_held : Lies s.memory a (suc n) → any_hollow (drop 1 (heard whole s a n)) ≡ false
  ticks_held l =
      let next = next_word s.memory k.size a (omega arith) in
      rw ticks_are (all_held s.memory k.size n (step a) (rw next (omega arith)))

  -- The ticks that the reader is told of a table that lies in memory are the table's.
  pub ticks_told : Lies s.memory a (suc n) → ticks_heard whole s a n ≡ table s.memory (step a) n
  unfolding handed
  ticks_told l =
      let next = next_word s.memory k.size a (omega arith) in
      rw heard_is (words_handed s.memory k.size n (step a) (rw next (omega arith)))

  -- Where the table lies in memory, the tick that the reader is told for stroke j is word a div 16 + 1 + j.
  pub tick_told : Lies s.memory a (suc n) → (j : ℕ) → j < n → get_or (ticks_heard whole s a n) j 0 ≡ tick s.memory a j
  tick_told l j q =
      let next = next_word s.memory k.size a (omega arith) in
      ap (λ (ts : List ℕ). get_or ts j 0) (ticks_told l) ∙
      get_or-take n (drop (word_at (step a)).0 s.memory) j 0 q ∙
      get_or-drop (word_at (step a)).0 s.memory j 0 ∙
      ap (λ (x : ℕ). get_or s.memory x 0) (rw next (omega arith))

  -- Of a table of n strokes that lies in memory the reader is told n ticks.
  pub ticks_count : Lies s.memory a (suc n) → length (ticks_heard whole s a n) ≡ n
  ticks_count l =
      let next = next_word s.memory k.size a (omega arith) in
      ap length (ticks_told l) ∙ simp (length-take, length-drop) (rw next (omega arith))
