-- What a fetch brings (`brought`), beside what the memory has: its word, or the filler FFFFh.
-- Each law is that of what the fetch found (`words/MemoryWords`), with the filler for a word that is not there.
use Prim.Native.Nat.{ℕ, ◌<◌}
use native.Mathlib.Omega.{arith}
use mathlib.Core.Path.{◌≡◌, refl}
use mathlib.Core.Bool.{true, false}
use mathlib.Core.List.{List}
use lib.ListN.{get_or}
use Rattle.words.specs.Memory.{AreWords, in_memory, fetch_at, store_at}
use Rattle.words.specs.declared.WordNumber.{WordNumber}
use Rattle.words.proofs.MemoryWords.{fetched_inside, fetched_beyond, fetch_stored, store_fetched, fetched_word}
use Rattle.port_spec.specs.Cycle.{brought}

module _ (m : List ℕ) (n : WordNumber) where
  -- A fetch inside memory brings its word, and says so.
  pub brought_inside : in_memory m n ≡ true → brought (fetch_at m n) ≡ record { word = get_or m n.0 0; inside = true }
  brought_inside e = rw (fetched_inside m n e) refl

  -- A fetch beyond memory brings FFFFh, and says so.
  pub brought_beyond : in_memory m n ≡ false → brought (fetch_at m n) ≡ record { word = 65535; inside = false }
  brought_beyond e = rw (fetched_beyond m n e) refl

  -- What was stored inside memory is brought by a fetch again.
  pub brought_again : (w : ℕ) → in_memory m n ≡ true → brought (fetch_at (store_at m n w) n) ≡ record { word = w; inside = true }
  brought_again w e = rw (fetch_stored m n w e) refl

  -- What a fetch brought, stored again, changes nothing.
  pub store_brought : store_at m n (brought (fetch_at m n)).word ≡ m
  store_brought = store_fetched m n 0xffff

  -- What a fetch brings has 16 bits, inside memory and beyond it.
  pub brought_word : AreWords m → (brought (fetch_at m n)).word < 65536
  brought_word h = fetched_word m n h 0xffff (omega arith)
