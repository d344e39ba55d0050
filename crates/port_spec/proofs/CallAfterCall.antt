-- Demand 3, the tuner's law and the keeper's law, said of all that the contract of an access allows: of calls made one after the other,
-- each on the registers and the memory that the one before it left. Each call has one outcome, so a sequence of them is the run that the
-- definitions make.
use Prim.Native.Nat.{ℕ, ◌+◌, ◌*◌, ◌^◌, ◌<◌, ◌≤◌}
use native.Mathlib.Omega.{arith}
use mathlib.Core.Path.{◌≡◌, refl, sym, ap, ◌∙◌}
use mathlib.Core.Bool.{true, false}
use mathlib.Core.List.{List, [], ◌∷◌, ◌++◌, map}
use mathlib.Core.Logic.{inl, inr}
use lib.ListN.{length, replicate}
use Rattle.words.specs.Addresses.{word_at}
use Rattle.words.specs.declared.BitAddress.{BitAddress}
use Rattle.control.specs.Control.{incr}
use Rattle.registers.specs.declared.ProcessorWrite.{ProcessorWrite}
use Rattle.registers.specs.declared.Woken.{Woken}
use Rattle.port_spec.specs.Host.{access_memory}
use Rattle.port_spec.specs.Sequences.{Machine, machine, answer_of, after, Sixteen, on, opening, closing, answers, ends}
use Rattle.port_spec.specs.Table.{Memory, loading, loaded, reading, table, Lies, given, held_word, filler}
use Rattle.port_spec.specs.Deeds.{Deed, woken, does, ran, Says}
use Rattle.port_spec.specs.Origin.{unset, as_content, story, Came}
use Rattle.port_spec.specs.Calls.{ByWords, no_word, a_word, ByBytes, AddUp, AllAddUp, by_value, control_of, Made}
use Rattle.port_spec.specs.Calls.{Did, nothing, by_host, by_processor, by_reset, by_others}
use Rattle.port_spec.specs.declared.Access.{Access}
use Rattle.port_spec.specs.declared.Access.TheVariants.{Read}
use Rattle.port_spec.specs.declared.Answer.{Answer}
use Rattle.port_spec.specs.declared.Outcome.{Outcome}
use Rattle.port_spec.proofs.Alike.{alike}
use Rattle.port_spec.proofs.EveryWord.{every_word, then_hollow, only_hollow}
use Rattle.port_spec.proofs.NoMiss.{since_reset, held_came}
use Rattle.port_spec.proofs.Sequences.{one_sums, PairAlike, pair_alike, sequences_alike, bytes_made}

-- ---- one call: its answer, and the machine after it
call_exact : (s : Machine) (a : Access) (x : Answer) (t : Machine) → by_value s a x t → (x ≡ answer_of s a) × (t ≡ after s a)
unfolding answer_of after
call_exact s a x t k = (
  ap (λ (o : Outcome). o.answer) k.outcome,
  ap (machine t.registers) k.memory ∙
      ap (λ (o : Outcome). machine o.registers (access_memory s.registers s.memory a)) k.outcome,
)

call_made : (s : Machine) (a : Access) → by_value s a (answer_of s a) (after s a)
unfolding answer_of after
call_made s a = record { outcome = refl; memory = refl }

-- ---- demand 3
-- On any registers and memory, a sixteen-bit access done as two byte accesses answers and ends as done whole.
pub bytes_alike : (s : Machine) (a : Sixteen) → PairAlike control_of answer_of after s a
bytes_alike s a =
    let p = alike s a in
    record {
      answer =
          record {
            word = ap (λ (z : Answer). z.word) p.answer;
            number = ap (λ (z : Answer). z.number) p.answer;
            hollow = ap (λ (z : Answer). z.hollow) p.answer;
            cycle = ap (λ (z : Answer). z.cycle) p.answer;
            first_number = p.first_number;
            first_hollow = p.first_hollow;
            first_cycle = p.first_cycle;
          };
      end = p.end;
    }

abbrev any_machine : Machine → Type 0
any_machine s = Unit

pairs : (s : Machine) (a : Sixteen) → any_machine s → PairAlike control_of answer_of after s a
pairs s a h = bytes_alike s a

-- A sixteen-bit access done by two byte calls, the second on what the first left, answers what one call answers (`AddUp`), and leaves the
-- registers and the memory that it leaves.
pub byte_calls_alike : {s t t₁ t₂ : Machine} (a : Sixteen) {x x₁ x₂ : Answer} → by_value s (on 3 a) x t →
    by_value s (opening s a) x₁ t₁ → by_value t₁ (closing s a) x₂ t₂ → AddUp x₁ x₂ x × (t₂ ≡ t)
byte_calls_alike a whole first second =
    pair_alike by_value control_of answer_of after any_machine call_exact (λ _ _ _. tt) pairs a tt whole first second

-- Any sequence of sixteen-bit accesses done by byte calls answers the words and both marks that the word calls answer, and leaves the
-- registers and the memory that they leave, whatever the registers, the memory and the accesses.
pub calls_end_alike : {s t u : Machine} {l : List Sixteen} {xs : List Answer} {ps : List (Answer × Answer)} →
    ByWords by_value s l xs t → ByBytes by_value control_of s l ps u → AllAddUp ps xs × (u ≡ t)
calls_end_alike w b = sequences_alike by_value control_of answer_of after any_machine call_exact (λ _ _ _. tt) pairs tt w b

-- Any sequence of sixteen-bit accesses can be made by byte calls.
pub bytes_called : (s : Machine) (l : List Sixteen) → (ps : List (Answer × Answer)) × (t : Machine) × ByBytes by_value control_of s l ps t
bytes_called s l = bytes_made by_value control_of answer_of after any_machine call_exact (λ _ _ _. tt) pairs call_made s l

-- ---- a sequence of calls is the run of the definitions
-- Any sequence of sixteen-bit accesses can be made by word calls, and may answer and end as the definitions say.
pub calls_made : (s : Machine) (l : List Sixteen) → ByWords by_value s l (answers s l) (ends s l)
unfolding answers ends
calls_made s [] = no_word
calls_made s (a ∷ rest) = a_word a (call_made s (on 3 a)) (calls_made (after s (on 3 a)) rest)

-- A sequence of word calls answers and ends as the definitions say, and not otherwise.
pub words_called : {s t : Machine} {l : List Sixteen} {xs : List Answer} → ByWords by_value s l xs t → (xs ≡ answers s l) × (t ≡ ends s l)
unfolding answers ends
words_called no_word = (refl, refl)
words_called {s} (a_word {t = t} a {x} {rest} c cs) =
    let e = call_exact s (on 3 a) x t c in
    let q = words_called cs in (
      ap (λ (ys : List Answer). x ∷ ys) (q.0 ∙ ap (λ (z : Machine). answers z rest) e.1) ∙
          ap (λ (y : Answer). y ∷ answers (after s (on 3 a)) rest) e.0,
      q.1 ∙ ap (λ (z : Machine). ends z rest) e.1,
    )

-- Any sequence that is made, by words or by bytes, answers and ends as the definitions say.
pub made_as_run : {s t : Machine} {l : List Sixteen} {xs : List Answer} → Made s l xs t → (xs ≡ answers s l) × (t ≡ ends s l)
made_as_run (inl w) = words_called w
made_as_run {s} {l = l} (inr b) =
    let e = calls_end_alike (calls_made s l) b.1 in
    (one_sums b.2 e.0, e.1)

-- ---- the tuner's law: the pointer is loaded with a, and then HSTDATA is read n times, all by words or by bytes, with INCR set
module _ {s t u : Machine} (a : BitAddress) (n : ℕ) {xs ys : List Answer}
    (load : Made s (loading (control_of s) a) xs t) (read : Made t (reading n) ys u)
    (k : Memory s.memory) (i : incr (control_of s) ≡ true) where
  answered : (ys ≡ answers (loaded s a) (reading n)) × (u ≡ ends (loaded s a) (reading n))
  answered =
      let p = (made_as_run load).1 in
      let q = made_as_run read in
      (q.0 ∙ ap (λ (z : Machine). answers z (reading n)) p, q.1 ∙ ap (λ (z : Machine). ends z (reading n)) p)

  -- Calls that load the pointer, by words or by bytes, and read n times, with a memory that is not refused and INCR set: every word of a
  -- table that lies in memory is handed out, in order, the last included, each numbered 0 and held, whatever lies after it; memory and
  -- HSTCTL stay, and the pointer stands just past the table.
  pub calls_hand_out_every_word : Lies s.memory a n →
      (map given ys ≡ map held_word (table s.memory a n))
      × (u.memory ≡ s.memory)
      × (control_of u ≡ control_of s)
      × (u.registers.pointer.0 ≡ a.0 + 16 * n)
  calls_hand_out_every_word h =
      let w = every_word s k i a n h in
      let e = answered.1 in (
        ap (map given) answered.0 ∙ w.words,
        ap (λ (z : Machine). z.memory) e ∙ w.memory,
        ap (λ (z : Machine). control_of z) e ∙ w.control,
        ap (λ (z : Machine). z.registers.pointer.0) e ∙ w.pointer,
      )

  -- Calls that load the pointer and read on past the end of memory, by words or by bytes, with a memory that is not refused and INCR set:
  -- behind the words that are there they hand out FFFFh, hollow, up to word 2^28, where the pointer comes round.
  pub calls_then_hollow : (before after : ℕ) → n ≡ before + after → (word_at a).0 + before ≡ length s.memory → (word_at a).0 + n ≤ 2 ^ 28 →
      map given ys ≡ map held_word (table s.memory a before) ++ replicate after filler
  calls_then_hollow before after e h q =
      ap (map given) (answered.0 ∙ ap (λ (j : ℕ). answers (loaded s a) (reading j)) e) ∙
      then_hollow s k i a before after h (omega (arith, e))

  -- Calls that load the pointer past the end of memory and read, by words or by bytes, with a memory that is not refused and INCR set, hand
  -- out nothing but FFFFh, hollow, up to word 2^28.
  pub calls_only_hollow : a.0 < 2 ^ 32 → length s.memory ≤ (word_at a).0 → (word_at a).0 + n ≤ 2 ^ 28 → map given ys ≡ replicate n filler
  calls_only_hollow b h q = ap (map given) answered.0 ∙ only_hollow s k i a n b h q

-- ---- the keeper's law: any run of deeds
did_as_ran : {s t : Machine} {l : List Deed} → Did s l t → t ≡ ran s l
unfolding ran does
did_as_ran nothing = refl
did_as_ran {s} (by_host {t = t} {a = a} {x = x} {rest = rest} c d) =
    did_as_ran d ∙ ap (λ (z : Machine). ran z rest) (call_exact s a x t c).1
did_as_ran {s} (by_processor {rest = rest} e d) =
    did_as_ran d ∙ ap (λ (o : ProcessorWrite). ran (machine o.registers s.memory) rest) e
did_as_ran {s} (by_reset {rest = rest} e d) = did_as_ran d ∙ ap (λ (o : Woken). ran (machine o.registers s.memory) rest) e
did_as_ran (by_others d) = did_as_ran d

-- from reset on, any run of deeds, and then a call that reads HSTDATA and is done
module _ {m : List ℕ} {l : List Deed} {lanes : ℕ} {s t : Machine} {x : Answer} (run : Did (woken m) l s)
    (call : by_value s (Read 2 lanes) x t) (z : x.number ≡ 0) where
  there : x ≡ answer_of (ran (woken m) l) (Read 2 lanes)
  there = (call_exact s (Read 2 lanes) x t call).0 ∙ ap (λ (q : Machine). answer_of q (Read 2 lanes)) (did_as_ran run)

  done_so : (answer_of (ran (woken m) l) (Read 2 lanes)).number ≡ 0
  done_so = sym (ap (λ (y : Answer). y.number) there) ∙ z

  -- After any calls of the host, the processor and reset, from reset on, whatever others do to the memory: a read of HSTDATA that is done
  -- hands out the word of its story, and says held exactly if the story does.
  pub call_says_its_story : Says x lanes (as_content (story (woken m) l unset))
  call_says_its_story = rw there (since_reset m l lanes done_so)

  -- From reset on, a word that a read of HSTDATA hands out as held came out of memory, or was written by the host or the processor.
  pub held_word_came : x.hollow ≡ false → Came (story (woken m) l unset)
  held_word_came e = held_came m l lanes done_so (sym (ap (λ (y : Answer). y.hollow) there) ∙ e)
