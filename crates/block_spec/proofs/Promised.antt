-- What the contracts of the two block calls promise, said of any outcome that `ReadBlock` or `WrittenBlock` allows: the number when and
-- only then, what a refusal leaves, that a block ends like its single accesses, place by place, and like any calls of these, done by
-- words or by bytes, and that every word of a table is handed out.
use Prim.Native.Nat.{ℕ, ◌+◌, ◌*◌, ◌^◌, ◌<◌, ◌≤◌}
use mathlib.Core.Path.{◌≡◌, sym, ap, ◌∙◌}
use mathlib.Core.Bool.{true}
use mathlib.Core.List.{List, ◌++◌}
use mathlib.Core.Logic.{◌⊎◌, ⊎_elim, ◌≢◌}
use lib.ListN.{length, get_or, replicate}
use Rattle.words.specs.Addresses.{word_at}
use Rattle.words.specs.Memory.{AreWords}
use Rattle.words.specs.declared.BitAddress.{BitAddress}
use Rattle.control.specs.Control.{incr, incw}
use Rattle.registers.specs.declared.Registers.{Registers}
use Rattle.port_spec.specs.Calls.{Made}
use Rattle.port_spec.specs.Sequences.{Machine, machine, words_in, ends}
use Rattle.port_spec.specs.Table.{Memory, loaded, reading, table, Lies}
use Rattle.port_spec.specs.declared.Answer.{Answer}
use Rattle.port_spec.proofs.CallAfterCall.{made_as_run}
use Rattle.block_spec.specs.Block.{block_number, list_part, writing, hollows_in, is_empty, empties_in, memory_left}
use Rattle.block_spec.specs.Block.{ReadBlock, WrittenBlock}
use Rattle.block_spec.specs.InPlainWords.{kth_read, kth_write, number_below, Fits}
use Rattle.block_spec.specs.declared.BlockRead.{BlockRead}
use Rattle.block_spec.specs.declared.BlockWrite.{BlockWrite}
use Rattle.block_spec.proofs.Numbers.{BlockWhen, read_number, read_numbered, read_barred, list_barred}
use Rattle.block_spec.proofs.Numbers.{write_number, write_numbered, write_barred, memory_barred}
use Rattle.block_spec.proofs.Singles.{LikeReads, like_reads, reads_answer, LikeWrites, like_writes, writes_answer}
use Rattle.block_spec.proofs.NoWords.{nothing_read, list_kept, nothing_written, memory_kept}
use Rattle.block_spec.proofs.EveryWordOfABlock.{every_word_of_a_block, block_past_the_end, block_beyond}
use Rattle.block_spec.proofs.ReadBack.{words_laid, reads_back}

-- ---- a block read
module _ {r : Registers} {m l : List ℕ} {place count : ℕ} {o : BlockRead} {l' : List ℕ} (k : ReadBlock r m l place count o l') where
  -- A block read answers 0, 1 or 10, each when, and only then (`BlockWhen`).
  pub read_returns_number : BlockWhen (length m) (length l) place count o.number
  read_returns_number = rw k.outcome (read_numbered r m l place count)

  -- Refused, a block read counts no hollow word, and leaves the registers and every place of the list.
  pub refused_read : o.number ≢ 0 → (o.hollows ≡ 0) × (o.registers ≡ r) × (l' ≡ l)
  refused_read d =
      let n : block_number m l place count ≢ 0 =
      λ z. d (ap (λ (x : BlockRead). x.number) k.outcome ∙ read_number r m l place count ∙ z) in
      let e = k.outcome ∙ read_barred r m l place count n in (
        ap (λ (x : BlockRead). x.hollows) e,
        ap (λ (x : BlockRead). x.registers) e,
        k.list ∙ list_barred r m l place count n,
      )

  -- a block read that is done
  module _ (z : o.number ≡ 0) where
    like : LikeReads r m l place count
    like = like_reads r m l place count (sym (ap (λ (x : BlockRead). x.number) k.outcome) ∙ z)

    -- Of a block read that is done, place + j of the list holds the word that the j-th single read answers.
    pub read_fills : (j : ℕ) → j < count → get_or l' (place + j) 0 ≡ (kth_read (machine r m) j).word
    read_fills j h = ap (λ (x : List ℕ). get_or x (place + j) 0) k.list ∙ like.inside j h

    -- A block read that is done leaves every place of the list before its part and behind it.
    pub read_keeps_others : (j : ℕ) → (j < place) ⊎ (place + count ≤ j) → get_or l' j 0 ≡ get_or l j 0
    read_keeps_others j h = ap (λ (x : List ℕ). get_or x j 0) k.list ∙ ⊎_elim (like.before j) (like.behind j) h

    -- A block read that is done leaves the list as long as it was.
    pub read_keeps_length : length l' ≡ length l
    read_keeps_length = ap length k.list ∙ like.size

    -- A block read that is done counts as many hollow words as the single reads answer.
    pub read_counts_hollows : o.hollows ≡ number_below count (λ j. (kth_read (machine r m) j).hollow)
    read_counts_hollows = ap (λ (x : BlockRead). x.hollows) k.outcome ∙ like.hollows

    -- Of a block read that is done, registers and memory end where the single reads end.
    pub read_ends_alike : machine o.registers m ≡ ends (machine r m) (reading count)
    read_ends_alike = ap (λ (x : BlockRead). machine x.registers m) k.outcome ∙ like.ended

    -- A block read that is done ends like any calls that read one by one, by words or by bytes: with their registers and memory, their
    -- words in the list's part, and as many hollow ones.
    pub read_like_calls : {xs : List Answer} {t : Machine} → Made (machine r m) (reading count) xs t →
        (machine o.registers m ≡ t) × (list_part l' place count ≡ words_in xs) × (o.hollows ≡ hollows_in xs)
    read_like_calls c =
        let e = made_as_run c in
        let a = reads_answer r m l place count (sym (ap (λ (x : BlockRead). x.number) k.outcome) ∙ z) in (
          read_ends_alike ∙ sym e.1,
          ap (λ (x : List ℕ). list_part x place count) k.list ∙ a.0 ∙ ap words_in (sym e.0),
          ap (λ (x : BlockRead). x.hollows) k.outcome ∙ a.1 ∙ ap hollows_in (sym e.0),
        )

-- A block read of no words, done or refused, counts nothing, and leaves the registers and the list.
pub reads_nothing : {r : Registers} {m l : List ℕ} {place : ℕ} {o : BlockRead} {l' : List ℕ} → ReadBlock r m l place 0 o l' →
    (o.hollows ≡ 0) × (o.registers ≡ r) × (l' ≡ l)
reads_nothing {r} {m} {l} {place} k =
    let e = k.outcome ∙ nothing_read r m l place in
    (ap (λ (x : BlockRead). x.hollows) e, ap (λ (x : BlockRead). x.registers) e, k.list ∙ list_kept r m l place)

-- ---- a block read from a table: the pointer is loaded at a, with INCR set
module _ (s : Machine) (a : BitAddress) {l : List ℕ} {place n : ℕ} {o : BlockRead} {l' : List ℕ}
    (k : ReadBlock (loaded s a).registers s.memory l place n o l')
    (y : Memory s.memory) (i : incr s.registers.control ≡ true) (f : Fits l place n) where
  -- With a memory that is not refused, INCR set, and the pointer loaded at a table of n words that lies in memory, a block of n that its
  -- list does not refuse is done, hands out every word, in order, the last included, and counts none hollow.
  pub hands_out_every_word : Lies s.memory a n → (o.number ≡ 0) × (list_part l' place n ≡ table s.memory a n) × (o.hollows ≡ 0)
  hands_out_every_word h =
      let w = every_word_of_a_block s y i a l place n h f in
      rw (k.outcome, k.list) (w.number, w.words, w.hollows)

  -- With a memory that is not refused, INCR set, and the pointer loaded past the end of memory, a block read that its list does not refuse,
  -- up to word 2^28, is done, and every word of it is filler, and counted.
  pub hands_out_filler : a.0 < 2 ^ 32 → length s.memory ≤ (word_at a).0 → (word_at a).0 + n ≤ 2 ^ 28 →
      (o.number ≡ 0) × (list_part l' place n ≡ replicate n 0xffff) × (o.hollows ≡ n)
  hands_out_filler b h q = rw (k.outcome, k.list) (block_beyond s y i a l place n b h q f)

-- With a memory that is not refused, INCR set, and the pointer loaded where n words are left in memory, a block read of n + j words that
-- its list does not refuse, up to word 2^28, is done, hands out those n and then j fillers, and counts j hollow.
pub hands_out_words_then_filler : (s : Machine) (a : BitAddress) {l : List ℕ} {place : ℕ} (n j : ℕ) {o : BlockRead} {l' : List ℕ} →
    ReadBlock (loaded s a).registers s.memory l place (n + j) o l' →
    Memory s.memory → incr s.registers.control ≡ true → Fits l place (n + j) →
    (word_at a).0 + n ≡ length s.memory → (word_at a).0 + n + j ≤ 2 ^ 28 →
    (o.number ≡ 0) × (list_part l' place (n + j) ≡ table s.memory a n ++ replicate j 0xffff) × (o.hollows ≡ j)
hands_out_words_then_filler s a {l} {place} n j k y i f h q =
    let w = block_past_the_end s y i a l place n j h q f in
    rw (k.outcome, k.list) (w.number, w.words, w.hollows)

-- ---- a block write
module _ {r : Registers} {m l : List ℕ} {place count : ℕ} {o : BlockWrite} {m' : List ℕ} (k : WrittenBlock r m l place count o m') where
  -- A block write answers 0, 1 or 10, each when, and only then (`BlockWhen`).
  pub write_returns_number : BlockWhen (length m) (length l) place count o.number
  write_returns_number = rw k.outcome (write_numbered r m l place count)

  -- Refused, a block write counts no empty store, and leaves the registers and the memory.
  pub refused_write : o.number ≢ 0 → (o.empties ≡ 0) × (o.registers ≡ r) × (m' ≡ m)
  refused_write d =
      let n : block_number m l place count ≢ 0 =
      λ z. d (ap (λ (x : BlockWrite). x.number) k.outcome ∙ write_number r m l place count ∙ z) in
      let e = k.outcome ∙ write_barred r m l place count n in (
        ap (λ (x : BlockWrite). x.empties) e,
        ap (λ (x : BlockWrite). x.registers) e,
        k.memory ∙ memory_barred r m l place count n,
      )

  -- a block write that is done
  module _ (z : o.number ≡ 0) where
    done : LikeWrites r m l place count
    done = like_writes r m l place count (sym (ap (λ (x : BlockWrite). x.number) k.outcome) ∙ z)

    -- Of a block write that is done, registers and memory end where the single writes of the part's words end.
    pub write_ends_alike : machine o.registers m' ≡ ends (machine r m) (writing (list_part l place count))
    write_ends_alike =
        ap (machine o.registers) k.memory ∙
        ap (λ (x : BlockWrite). machine x.registers (memory_left r m l place count)) k.outcome ∙
        done.ended

    -- Of the words that a block write which is done writes, the j-th is that of place + j of the list.
    pub write_takes : (j : ℕ) → j < count → get_or (list_part l place count) j 0 ≡ get_or l (place + j) 0
    write_takes = done.words

    -- A block write that is done counts as many empty stores as the single writes of the part's words have.
    pub write_counts_empties :
        o.empties ≡ number_below count (λ j. is_empty (kth_write (machine r m) (list_part l place count) j).cycle)
    write_counts_empties = ap (λ (x : BlockWrite). x.empties) k.outcome ∙ done.empties

    -- A block write that is done ends like any calls that write the part's words one by one, by words or by bytes: with their registers and
    -- memory, and as many stores that fell empty.
    pub write_like_calls : {xs : List Answer} {t : Machine} → Made (machine r m) (writing (list_part l place count)) xs t →
        (machine o.registers m' ≡ t) × (o.empties ≡ empties_in xs)
    write_like_calls c =
        let e = made_as_run c in
        let a = writes_answer r m l place count (sym (ap (λ (x : BlockWrite). x.number) k.outcome) ∙ z) in
        (write_ends_alike ∙ sym e.1, ap (λ (x : BlockWrite). x.empties) k.outcome ∙ a ∙ ap empties_in (sym e.0))

-- A block write of no words, done or refused, counts nothing, and leaves the registers and the memory.
pub writes_nothing : {r : Registers} {m l : List ℕ} {place : ℕ} {o : BlockWrite} {m' : List ℕ} → WrittenBlock r m l place 0 o m' →
    (o.empties ≡ 0) × (o.registers ≡ r) × (m' ≡ m)
writes_nothing {r} {m} {l} {place} k =
    let e = k.outcome ∙ nothing_written r m l place in
    (ap (λ (x : BlockWrite). x.empties) e, ap (λ (x : BlockWrite). x.registers) e, k.memory ∙ memory_kept r m l place)

-- ---- a block write with INCW set, of one word or more that find room in memory from the pointer's word on
module _ {r : Registers} {m l : List ℕ} {place n : ℕ} {o : BlockWrite} {m' : List ℕ} (k : WrittenBlock r m l place n o m')
    (y : Memory m) (i : incw r.control ≡ true) (w : AreWords l)
    (some : 0 < n) (most : n ≤ 4096) (room : place + n ≤ length l) (there : Lies m r.pointer n) where
  -- With INCW set, a block write that its list does not refuse, of one word or more that find room in memory, is done, no store falls
  -- empty, and the pointer stands just past the words.
  pub write_done : (o.number ≡ 0) × (o.empties ≡ 0) × (o.registers.pointer.0 ≡ r.pointer.0 + 16 * n)
  write_done =
      let p = words_laid r m l place n y i w some most room there in
      rw k.outcome (p.number, p.empties, p.pointer)

  -- With INCW set, a block write that its list does not refuse, of one word or more that find room in memory, lays them there from the
  -- pointer's word on.
  pub write_lays : table m' r.pointer n ≡ list_part l place n
  write_lays = rw k.memory (words_laid r m l place n y i w some most room there).words

  -- With INCW set, a block write that its list does not refuse, of one word or more that find room in memory, leaves all other words of
  -- memory.
  pub write_keeps_others : (j : ℕ) → (j < (word_at r.pointer).0) ⊎ ((word_at r.pointer).0 + n ≤ j) → get_or m' j 0 ≡ get_or m j 0
  write_keeps_others j h =
      let p = words_laid r m l place n y i w some most room there in
      ap (λ (x : List ℕ). get_or x j 0) k.memory ∙ ⊎_elim (p.before j) (p.behind j) h

  -- With INCW and INCR set, words that a block write laid in memory are handed out again by a block read from where that write began, all
  -- held, into any list with room for them.
  pub read_after_write : incr r.control ≡ true → {q : BlockRead} {t t' : List ℕ} {place' : ℕ} →
      ReadBlock (loaded (machine o.registers m') r.pointer).registers m' t place' n q t' → place' + n ≤ length t →
      (q.number ≡ 0) × (list_part t' place' n ≡ list_part l place n) × (q.hollows ≡ 0)
  read_after_write c {q} {t} {t'} {place'} b h =
      let p = reads_back r m l place n y i w some most room there c t place' h in
      let d = rw (k.outcome, k.memory) at b in
      rw (d.outcome, d.list) (p.number, p.words, p.hollows)
