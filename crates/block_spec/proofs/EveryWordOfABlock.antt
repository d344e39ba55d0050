-- The watch tuner's law once more, for a block: every word of a table is handed out, the last included; and the keeper's: of a block
-- that reads on past the end of memory, or begins there, the words past the end are counted, all of them and no other. By crate
-- port_spec's `EveryWord`.
use Prim.Native.Nat.{ℕ, ◌+◌, ◌^◌, ◌<◌, ◌≤◌}
use native.Mathlib.Omega.{arith}
use mathlib.Core.Path.{◌≡◌, ap, ◌∙◌}
use mathlib.Core.Bool.{true}
use mathlib.Core.List.{List, [], ◌++◌, map}
use lib.ListN.{length, replicate}
use Rattle.words.specs.Addresses.{word_at}
use Rattle.words.specs.declared.BitAddress.{BitAddress}
use Rattle.control.specs.Control.{incr}
use Rattle.port_spec.specs.Sequences.{Machine, machine, words_in, answers}
use Rattle.port_spec.specs.Table.{Memory, loaded, reading, table, Lies, given}
use Rattle.port_spec.proofs.Handed.{loads}
use Rattle.port_spec.proofs.EveryWord.{every_word, then_hollow, only_hollow}
use Rattle.block_spec.specs.Block.{list_part, hollows_in, block_read, list_after}
use Rattle.block_spec.specs.InPlainWords.{Fits}
use Rattle.block_spec.specs.declared.BlockRead.{BlockRead}
use Rattle.block_spec.proofs.Numbers.{when, read_taken, list_taken}
use Rattle.block_spec.proofs.Lent.{laid_part}
use Rattle.block_spec.proofs.HandedOut.{held_then_hollow, all_held}
use Rattle.port_spec.proofs.Joined.{filled_length}

-- Load the pointer at a table of n words that lies in memory, with INCR set, and read a block of n: it is done, every word of the
-- table lies in the list's part, in order, the last included, and none is counted hollow, whatever lies after the table.
pub record EveryWord (s : Machine) (a : BitAddress) (l : List ℕ) (place n : ℕ) : Type 0 where
  pub number : (block_read (loaded s a).registers s.memory l place n).number ≡ 0
  pub words : list_part (list_after (loaded s a).registers s.memory l place n) place n ≡ table s.memory a n
  pub hollows : (block_read (loaded s a).registers s.memory l place n).hollows ≡ 0

-- Read a block past the end of memory: of n + j words the n that are left in memory and then j fillers, and j are counted hollow.
pub record ThenHollow (s : Machine) (a : BitAddress) (l : List ℕ) (place n j : ℕ) : Type 0 where
  pub number : (block_read (loaded s a).registers s.memory l place (n + j)).number ≡ 0
  pub words :
      list_part (list_after (loaded s a).registers s.memory l place (n + j)) place (n + j) ≡ table s.memory a n ++ replicate j 0xffff
  pub hollows : (block_read (loaded s a).registers s.memory l place (n + j)).hollows ≡ j

module _ (s : Machine) (k : Memory s.memory) (i : incr s.registers.control ≡ true) (a : BitAddress)
    (l : List ℕ) (place : ℕ) where
  -- loading leaves the memory
  just_loaded : a.0 < 2 ^ 32 → machine (loaded s a).registers s.memory ≡ loaded s a
  just_loaded b = rw (loads s k a b)

  -- a block of so many words that hands out ws, of which j are hollow
  handed_out : (n : ℕ) (ws : List ℕ) (j : ℕ) → Fits l place n →
      let r = (loaded s a).registers in
      let x = answers (machine r s.memory) (reading n) in
      (words_in x ≡ ws) × (hollows_in x ≡ j) →
      ((block_read r s.memory l place n).number ≡ 0)
      × (list_part (list_after r s.memory l place n) place n ≡ ws)
      × ((block_read r s.memory l place n).hollows ≡ j)
  handed_out n ws j f told =
      let r = (loaded s a).registers in
      let m = s.memory in
      let e = (when (length m) (length l) place n).done.1 (k.size, f.0, f.1) in
      let o = read_taken r m l place n e in
      let x = words_in (answers (machine r m) (reading n)) in (
        ap (λ (x : BlockRead). x.number) o,
        rw (list_taken r m l place n e) (laid_part place n l x f.1 (filled_length (machine r m) n)) ∙ told.0,
        ap (λ (x : BlockRead). x.hollows) o ∙ told.1,
      )

  -- With a memory that is not refused, INCR set, and the pointer loaded at a table of n words that lies in memory, a block of n reads that
  -- its list does not refuse is done, fills its part of the list with the table, and counts none hollow.
  pub every_word_of_a_block : (n : ℕ) → Lies s.memory a n → Fits l place n → EveryWord s a l place n
  every_word_of_a_block n h f =
      let given_so = ap (λ (t : Machine). map given (answers t (reading n))) (just_loaded (omega (arith, k.size))) ∙
      (every_word s k i a n h).words in
      let told = handed_out n (table s.memory a n) 0 f (all_held _ _ given_so) in
      record { number = told.0; words = told.1; hollows = told.2 }

  -- Past the end of memory, up to word 2^28, where the pointer comes round, a block that its list does not refuse is done: the words that
  -- are left, and then FFFFh; its count is exactly that of the words that memory did not have.
  pub block_past_the_end : (n j : ℕ) → (word_at a).0 + n ≡ length s.memory → (word_at a).0 + n + j ≤ 2 ^ 28 → Fits l place (n + j) →
      ThenHollow s a l place n j
  block_past_the_end n j h q f =
      let here = just_loaded (omega (arith, k.size)) in
      let given_so = ap (λ (t : Machine). map given (answers t (reading (n + j)))) here ∙ then_hollow s k i a n j h q in
      let words = table s.memory a n in
      let told = handed_out (n + j) (words ++ replicate j 0xffff) j f (held_then_hollow _ words j given_so) in
      record { number = told.0; words = told.1; hollows = told.2 }

  -- Begun past the end of memory, a block that its list does not refuse is done, up to word 2^28, and every word of it is filler, and
  -- counted.
  pub block_beyond : (j : ℕ) → a.0 < 2 ^ 32 → length s.memory ≤ (word_at a).0 → (word_at a).0 + j ≤ 2 ^ 28 → Fits l place j →
      ((block_read (loaded s a).registers s.memory l place j).number ≡ 0)
      × (list_part (list_after (loaded s a).registers s.memory l place j) place j ≡ replicate j 0xffff)
      × ((block_read (loaded s a).registers s.memory l place j).hollows ≡ j)
  block_beyond j b h q f =
      let given_so = ap (λ (t : Machine). map given (answers t (reading j))) (just_loaded b) ∙ only_hollow s k i a j b h q in
      handed_out j (replicate j 0xffff) j f (held_then_hollow _ [] j given_so)
