-- A call changes at most two bytes of the memory: those of the word that the pointer names when it begins, and only where it stores.
-- An access stores at that word or nowhere; the bytes of the other words are theirs.
use Prim.Native.Nat.{ℕ, ◌+◌, ◌*◌, ◌/◌, ◌%◌}
use native.Mathlib.Omega.{arith}
use mathlib.Core.Path.{◌≡◌, refl, sym, ap, subst, ◌∙◌}
use mathlib.Core.Bool.{Bool, true, false, cond, ◌&&◌}
use mathlib.Core.List.{List}
use mathlib.Core.Logic.{◌≢◌, ⊎_elim}
use lib.Dec.{eqb}
use lib.ListN.{get_or}
use borrow.Author.Tests.{eqb-true}
use Rattle.words.specs.Addresses.{word_at}
use Rattle.words.specs.Bytes.{lo, hi, AreBytes}
use Rattle.std.proofs.lemmas.Bool.{cases_Bool, cases_eq}
use Rattle.words.proofs.MemoryWords.{stored_elsewhere}
use Rattle.control.specs.Control.{closes, fetches}
use Rattle.registers.specs.Registers.{written}
use Rattle.registers.specs.declared.Registers.{Registers}
use Rattle.port_spec.specs.Cycle.{memory_after}
use Rattle.port_spec.specs.Host.{read_due, write_due, begin_access, number_for, access_memory}
use Rattle.port_spec.specs.declared.Access.{Access}
use Rattle.port_spec.specs.declared.Access.TheVariants.{Read, Write}
use Rattle.port_spec.specs.declared.Due.TheVariants.{Nothing, Fetch, Store}
use Rattle.port_spec.proofs.DataRegister.{read_keeps_memory}
use Rattle.door_spec.specs.Bytes.{words_of, bytes_of, byte}
use Rattle.door_spec.specs.Image.{registers_of}
use Rattle.door_spec.specs.Door.{misfit, call_memory}
use Rattle.door_spec.proofs.WordsAndBytes.{low_byte_first, high_byte_second, bytes_of_words}
use Rattle.door_spec.proofs.Numbers.{fitting, unfit_refused}
use Rattle.door_spec.proofs.Refusals.{refuses}
use Rattle.door_spec.proofs.AsByValue.{memory_as_access}

-- ---- the words

pointer_stays : (r : Registers) (k lanes w : ℕ) → k ≡ 2 → (written r k lanes w).pointer ≡ r.pointer
unfolding written
pointer_stays r k lanes w e = rw e

module _ (r : Registers) (m : List ℕ) (j : ℕ) (d : j ≢ (word_at r.pointer).0) where
  begun_elsewhere : (a : Access) → get_or (memory_after (begin_access r a).registers (begin_access r a).due m) j 0 ≡ get_or m j 0
  unfolding begin_access read_due write_due memory_after
  begun_elsewhere (Read k lanes) = go (eqb k 2 && closes r.control lanes) _
    where
      go : (t s : Bool) → get_or (memory_after r (cond t (Fetch s) Nothing) m) j 0 ≡ get_or m j 0
      go true s = refl
      go false s = refl
  begun_elsewhere (Write k lanes w) = go (closes r.control lanes) (eqb k 2) (fetches r.control k) _ refl
    where
      go : (t u v s : Bool) → eqb k 2 ≡ u →
          get_or (memory_after (written r k lanes w) (cond t (cond u (Store s) (cond v (Fetch false) Nothing)) Nothing) m) j 0
          ≡ get_or m j 0
      go true true v s e =
          stored_elsewhere m (word_at (written r k lanes w).pointer) (written r k lanes w).latch j
          (rw (pointer_stays r k lanes w (eqb-true k 2 e)) d)
      go true false true s e = refl
      go true false false s e = refl
      go false u v s e = refl

  elsewhere : (a : Access) → get_or (access_memory r m a) j 0 ≡ get_or m j 0
  unfolding access_memory
  elsewhere a = go (eqb (number_for m a) 0)
    where
      go : (t : Bool) → get_or (cond t (memory_after (begin_access r a).registers (begin_access r a).due m) m) j 0 ≡ get_or m j 0
      go true = begun_elsewhere a
      go false = refl

-- ---- their bytes

module _ (m n : List ℕ) where
  even_byte : (j : ℕ) → get_or m j 0 ≡ get_or n j 0 → byte (bytes_of m) (2 * j) ≡ byte (bytes_of n) (2 * j)
  even_byte j h = low_byte_first m j ∙ ap lo h ∙ sym (low_byte_first n j)

  odd_byte : (j : ℕ) → get_or m j 0 ≡ get_or n j 0 → byte (bytes_of m) (2 * j + 1) ≡ byte (bytes_of n) (2 * j + 1)
  odd_byte j h = high_byte_second m j ∙ ap hi h ∙ sym (high_byte_second n j)

  same_bytes : (k : ℕ) → get_or m (k / 2) 0 ≡ get_or n (k / 2) 0 → byte (bytes_of m) k ≡ byte (bytes_of n) k
  same_bytes k h =
      ⊎_elim
      (λ e. subst (λ (x : ℕ). byte (bytes_of m) x ≡ byte (bytes_of n) x) (omega arith) (even_byte (k / 2) h))
      (λ e. subst (λ (x : ℕ). byte (bytes_of m) x ≡ byte (bytes_of n) x) (omega arith) (odd_byte (k / 2) h))
      (cases_eq (k % 2) 0)

-- ---- a call
module _ (image memory : List ℕ) (s : AreBytes image) (t : AreBytes memory) where
  -- A call changes no byte of memory but the two of the pointer's word.
  pub others_kept : (a : Access) (k : ℕ) → k / 2 ≢ (word_at (registers_of image).pointer).0 →
      byte (call_memory image memory a) k ≡ byte memory k
  others_kept a k d =
      ⊎_elim
      (λ e. ap (λ (b : List ℕ). byte b k) (refuses image memory a (unfit_refused image memory a e)).memory_kept)
      (λ e.
      let f = fitting image memory e in
      ap (λ (b : List ℕ). byte b k) (memory_as_access image memory f s t a) ∙
      same_bytes _ _ k (elsewhere (registers_of image) (words_of memory) (k / 2) d a) ∙
      ap (λ (b : List ℕ). byte b k) (bytes_of_words memory f.even_memory t))
      (cases_Bool (misfit image memory))

  -- A read changes no byte of memory.
  pub read_keeps_bytes : (register lanes : ℕ) → call_memory image memory (Read register lanes) ≡ memory
  read_keeps_bytes register lanes =
      ⊎_elim
      (λ e. (refuses image memory (Read register lanes) (unfit_refused image memory (Read register lanes) e)).memory_kept)
      (λ e.
      let f = fitting image memory e in
      memory_as_access image memory f s t (Read register lanes) ∙
      ap bytes_of (read_keeps_memory (registers_of image) (words_of memory) register lanes) ∙
      bytes_of_words memory f.even_memory t)
      (cases_Bool (misfit image memory))
