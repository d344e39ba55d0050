-- The keeper's law: no miss looks good. Document 01, 'Memory and addresses', 'The four host registers' and 'The processor's side'.
--   the rule       a read hands out the word already held, with its mark; the fetch after it has a mark of its own
--   true marks     when, and only then, a cycle is marked inside, empty or none
--   after a miss   the next read hands out the filler, and says so
--   the onlooker   over any run of deeds, each hollow mark shown is the one that the marks of the cycles call for
--   the story      over any run of deeds, a word handed out as held came out of memory or was written, and is that word
--   held_came      the keeper's sentence itself
-- All rest on what one deed leaves in HSTDATA (`Marks`); the story also on `Origins`: each deed carries it on. That a run of reads
-- which leaves memory answers hollow from the first missed word on is in `EveryWord`: `then_hollow`, `only_hollow`.
use Prim.Native.Nat.{ℕ}
use mathlib.Core.Path.{◌≡◌, refl, sym, ap, subst, ◌∙◌}
use mathlib.Core.Bool.{Bool, true, false, true≢false, false≢true, cond}
use mathlib.Core.List.{List, [], ◌∷◌}
use mathlib.Core.Logic.{◌↔◌}
use borrow.Author.Tests.{not-false}
use Rattle.words.specs.Addresses.{word_at}
use Rattle.words.specs.Bytes.{shown}
use Rattle.words.specs.Memory.{in_memory}
use Rattle.words.proofs.MemoryWords.{fetched_beyond}
use Rattle.control.specs.Control.{closes}
use Rattle.registers.specs.Registers.{register_word}
use Rattle.registers.specs.declared.Registers.{Registers}
use Rattle.port_spec.specs.Cycle.{cycle_of}
use Rattle.port_spec.specs.Host.{begin_access, done, access}
use Rattle.port_spec.specs.Sequences.{Machine, answer_of}
use Rattle.port_spec.specs.Deeds.{Deed, woken, does, ran, Content, content, Says, writes_data, has_cycle, ahead, word_used, Agree}
use Rattle.port_spec.specs.Origin.{Origin, unset, missed, memory, by_processor, laid, stored, value, is_held, as_content, story, Came}
use Rattle.port_spec.specs.Origin.{from_memory, from_processor, from_host, under_bytes}
use Rattle.port_spec.specs.declared.Access.{Access}
use Rattle.port_spec.specs.declared.Access.TheVariants.{Read}
use Rattle.port_spec.specs.declared.Cycle.{Cycle}
use Rattle.port_spec.specs.declared.Cycle.TheVariants.{None, Inside, Empty}
use Rattle.port_spec.specs.declared.Outcome.{Outcome}
use Rattle.port_spec.proofs.Taken.{either_done, as_done}
use Rattle.port_spec.proofs.HostTold.{read_answers}
use Rattle.port_spec.proofs.Marks.{leaves, judges, mark_shown}
use Rattle.port_spec.proofs.Origins.{run_told}

-- ---- an access that is done
cycle_done : (r : Registers) (m : List ℕ) (a : Access) → (access r m a).answer.number ≡ 0 →
    (access r m a).answer.cycle ≡ cond (has_cycle r a) (cycle_of (in_memory m (word_used r a))) None
unfolding done
cycle_done r m a n = ap (λ (o : Outcome). o.answer.cycle) (as_done r m a n) ∙ (leaves r m a).cycle

-- ---- the rule

-- what a read of HSTDATA answers
pub record Rule (r : Registers) (m : List ℕ) (lanes : ℕ) : Type 0 where
  pub word : (access r m (Read 2 lanes)).answer.word ≡ shown lanes r.latch
  pub hollow : (access r m (Read 2 lanes)).answer.hollow ≡ r.hollow
  pub cycle : (access r m (Read 2 lanes)).answer.cycle ≡ cond (closes r.control lanes) (cycle_of (in_memory m (word_at (ahead r)))) None

-- A read of HSTDATA that is done answers the word that was there, on its lanes, hollow if that was, whatever memory holds; its cycle, if
-- the closing byte is among its lanes, is marked by whether memory has the word ahead.
pub rule : (r : Registers) (m : List ℕ) (lanes : ℕ) → (access r m (Read 2 lanes)).answer.number ≡ 0 → Rule r m lanes
unfolding done begin_access register_word has_cycle word_used
rule r m lanes n =
    record {
      word = read_answers r m 2 lanes n;
      hollow = ap (λ (o : Outcome). o.answer.hollow) (as_done r m (Read 2 lanes) n);
      cycle = cycle_done r m (Read 2 lanes) n;
    }

-- A read of HSTDATA that is done says what HSTDATA had: its word, on the lanes of the read, and its mark.
pub says : (r : Registers) (m : List ℕ) (lanes : ℕ) {c : Content} →
    (access r m (Read 2 lanes)).answer.number ≡ 0 → content r ≡ c → Says (access r m (Read 2 lanes)).answer lanes c
says r m lanes n k =
    let q = rule r m lanes n in
    record { word = q.word ∙ ap (λ (c : Content). shown lanes c.word) k; hollow = q.hollow ∙ ap (λ (c : Content). c.hollow) k }

-- ---- true marks

-- what the mark x of a cycle tells, of whether one was called for and whether its word is there
pub record TrueMark (x : Cycle) (called there : Bool) : Type 0 where
  pub inside : x ≡ Inside ↔ (called ≡ true) × (there ≡ true)
  pub empty : x ≡ Empty ↔ (called ≡ true) × (there ≡ false)
  pub none : x ≡ None ↔ called ≡ false

marked : (called there : Bool) → TrueMark (cond called (cycle_of there) None) called there
unfolding cycle_of
marked true true =
    record {
      inside = (λ _. (refl, refl), λ _. refl);
      empty = (λ e. absurd (false≢true (cc)), λ h. absurd (true≢false h.1));
      none = (λ e. absurd (false≢true (cc)), λ h. absurd (true≢false h));
    }
marked true false =
    record {
      inside = (λ e. absurd (false≢true (cc)), λ h. absurd (false≢true h.1));
      empty = (λ _. (refl, refl), λ _. refl);
      none = (λ e. absurd (false≢true (cc)), λ h. absurd (true≢false h));
    }
marked false there =
    record {
      inside = (λ e. absurd (false≢true (cc)), λ h. absurd (false≢true h.0));
      empty = (λ e. absurd (false≢true (cc)), λ h. absurd (false≢true h.0));
      none = (λ _. refl, λ _. refl);
    }

-- The cycle of an access that is done is marked inside exactly if one was called for and its word is in the lent memory, empty
-- exactly if one was called for and its word is not there, and none exactly if none was called for.
pub true_mark : (r : Registers) (m : List ℕ) (a : Access) → (access r m a).answer.number ≡ 0 →
    TrueMark (access r m a).answer.cycle (has_cycle r a) (in_memory m (word_used r a))
true_mark r m a n = rw (cycle_done r m a n) (marked (has_cycle r a) (in_memory m (word_used r a)))

-- ---- after a miss

-- "An empty fetch puts FFFFh in HSTDATA and makes it hollow" (house)
abbrev pub hollow_filler : Content
hollow_filler = record { word = 0xffff; hollow = true }

empty_done : (r : Registers) (m : List ℕ) (a : Access) → (access r m a).answer.cycle ≡ Empty → (access r m a).answer.number ≡ 0
unfolding done
empty_done r m a =
    either_done r m a (λ (o : Outcome). o.answer.cycle ≡ Empty → o.answer.number ≡ 0) (λ _. refl) (λ _ e. absurd (false≢true (cc)))

-- An access that stores nothing and whose cycle is empty leaves FFFFh in HSTDATA, and hollow.
pub miss_leaves : (r : Registers) (m : List ℕ) (a : Access) → writes_data a ≡ false → (access r m a).answer.cycle ≡ Empty →
    content (access r m a).registers ≡ hollow_filler
unfolding done
miss_leaves r m a w e =
    let n = empty_done r m a e in
    let t = (true_mark r m a n).empty.0 e in
    ap (λ (o : Outcome). content o.registers) (as_done r m a n) ∙ (leaves r m a).data_left ∙
    rw (t.0, w, fetched_beyond m (word_used r a) t.1, t.1)

-- After a fetch that missed memory the next read of HSTDATA, on whatever lanes and with whatever memory, hands out the filler's bytes and
-- says that they are hollow.
pub read_after_miss : (r : Registers) (m : List ℕ) (a : Access) → writes_data a ≡ false → (access r m a).answer.cycle ≡ Empty →
    (m' : List ℕ) (lanes : ℕ) → (access (access r m a).registers m' (Read 2 lanes)).answer.number ≡ 0 →
    Says (access (access r m a).registers m' (Read 2 lanes)).answer lanes hollow_filler
read_after_miss r m a w e m' lanes n = says (access r m a).registers m' lanes n (miss_leaves r m a w e)

-- ---- the onlooker

-- An onlooker follows any run of deeds and sees of each only what was done and the mark of its cycle. Every hollow mark that the
-- host is shown is the one that the onlooker expects: true from a reset or an empty fetch on, false from a fetch inside memory, a
-- store or the processor's word on. No other answer shows one.
pub no_miss_looks_good : (s : Machine) (l : List Deed) → Agree s.registers.hollow s l
unfolding Agree
no_miss_looks_good s [] = tt
no_miss_looks_good s (d ∷ rest) =
    (mark_shown s d, subst (λ (h : Bool). Agree h (does s d) rest) (judges s d) (no_miss_looks_good (does s d) rest))

-- ---- the story

-- Whatever is done and in whatever order, whole or by bytes, a read of HSTDATA that is done hands out the word of its story, and says
-- held exactly if the story does: if a fetch inside memory, the processor's word or the host's store came last, and not a reset or
-- a fetch that missed.
pub held_has_a_story : (s : Machine) (o : Origin) → content s.registers ≡ as_content o → (l : List Deed) (lanes : ℕ) →
    (answer_of (ran s l) (Read 2 lanes)).number ≡ 0 → Says (answer_of (ran s l) (Read 2 lanes)) lanes (as_content (story s l o))
unfolding answer_of
held_has_a_story s o k l lanes n = says (ran s l).registers (ran s l).memory lanes n (run_told s l o k)

-- From reset on, where nothing was fetched yet, a read of HSTDATA that is done hands out the word of its story, and says hollow exactly if
-- the story does.
pub since_reset : (m : List ℕ) (l : List Deed) (lanes : ℕ) →
    (answer_of (ran (woken m) l) (Read 2 lanes)).number ≡ 0 →
    Says (answer_of (ran (woken m) l) (Read 2 lanes)) lanes (as_content (story (woken m) l unset))
unfolding value is_held
since_reset m l lanes n = held_has_a_story (woken m) unset refl l lanes n

-- ---- the keeper's sentence
came : (o : Origin) → is_held o ≡ true → Came o
unfolding is_held
came unset e = absurd (false≢true e)
came missed e = absurd (false≢true e)
came (memory n w) e = from_memory
came (by_processor w) e = from_processor
came (laid lanes w o) e = under_bytes (came o e)
came (stored o) e = from_host

-- From reset on, whatever host, processor and others who hold the memory do: a word that is handed out as held came out of memory, or was
-- written by the host or the processor.
pub held_came : (m : List ℕ) (l : List Deed) (lanes : ℕ) →
    (answer_of (ran (woken m) l) (Read 2 lanes)).number ≡ 0 → (answer_of (ran (woken m) l) (Read 2 lanes)).hollow ≡ false →
    Came (story (woken m) l unset)
held_came m l lanes n e = came (story (woken m) l unset) (not-false _ (sym (since_reset m l lanes n).hollow ∙ e))
