-- One read more: what it leaves and says is joined to what the reads before it left and said.
use Prim.Native.Nat.{ℕ, ◌+◌}
use mathlib.Core.Path.{◌≡◌, refl, sym, ap, ◌∙◌}
use mathlib.Core.Bool.{Bool, ◌||◌, or_assoc, or-false}
use mathlib.Core.List.{List, [], ◌∷◌, ◌++◌, map-append}
use lib.ListN.{length}
use Rattle.port_spec.specs.Host.{Accessed}
use Rattle.port_spec.specs.Sequences.{Machine, words_in, answer_of, after, answers, ends}
use Rattle.port_spec.specs.Table.{reading}
use Rattle.port_spec.specs.declared.Access.TheVariants.{Read}
use Rattle.port_spec.specs.declared.Answer.{Answer}
use Rattle.port_spec.specs.declared.Outcome.{Outcome}
use Rattle.port_spec.proofs.Joined.{ends_join, answers_join, reading_join, reads_keep_memory, filled_length}
use Rattle.sheet_spec.specs.Reading.{any_hollow}
use Rattle.sheet.specs.Parts.{ReadTicks}
use Rattle.sheet.specs.declared.TicksRead.{TicksRead}
use Rattle.port_spec.proofs.OneAccess.{leaves, says}

-- Some of two lists of answers is hollow if some of the first is or some of the second.
pub hollow_join : (xs ys : List Answer) → any_hollow (xs ++ ys) ≡ (any_hollow xs || any_hollow ys)
unfolding any_hollow
hollow_join [] ys = refl
hollow_join (x ∷ xs) ys = rw (hollow_join xs ys) (sym (or_assoc x.hollow (any_hollow xs) (any_hollow ys)))

-- n + 1 reads end where one more read ends after n.
pub ends_more : (s : Machine) (n : ℕ) → ends s (reading (n + 1)) ≡ after (ends s (reading n)) (Read 2 3)
unfolding reading ends
ends_more s n = ap (ends s) (reading_join n 1) ∙ ends_join s (reading n) (reading 1)

-- n + 1 reads answer what n do, and then what one more read answers after them.
pub answers_more : (s : Machine) (n : ℕ) →
    answers s (reading (n + 1)) ≡ answers s (reading n) ++ (answer_of (ends s (reading n)) (Read 2 3) ∷ [])
unfolding reading answers
answers_more s n = ap (answers s) (reading_join n 1) ∙ answers_join s (reading n) (reading 1)

module _ {s : Machine} {n : ℕ} {o : TicksRead} {m part : List ℕ} (k : ReadTicks s n o m part) where
  -- Reads leave the memory.
  pub memory_kept : m ≡ s.memory
  memory_kept = ap (λ (t : Machine). t.memory) k.ends_at ∙ reads_keep_memory s n

  -- There is a word for each read.
  pub read_length : length part ≡ n
  read_length = ap length k.words ∙ filled_length s n

  module _ {p : Outcome} {m' : List ℕ} (e : Accessed o.registers m (Read 2 3) p m') where
    said : p.answer ≡ answer_of (ends s (reading n)) (Read 2 3)
    said = says e ∙ ap (λ (t : Machine). answer_of t (Read 2 3)) k.ends_at

    -- After n reads and one more, n + 1 are read.
    pub read_more :
        ReadTicks s (n + 1) (record { registers = p.registers; hollow = o.hollow || p.answer.hollow }) m'
        (part ++ (p.answer.word ∷ []))
    unfolding any_hollow
    read_more =
        let xs = answers s (reading n) in
        record {
          ends_at = leaves e ∙ ap (λ (t : Machine). after t (Read 2 3)) k.ends_at ∙ sym (ends_more s n);
          hollow =
              rw (k.hollow, said)
              (sym (ap any_hollow (answers_more s n) ∙ hollow_join xs _ ∙ ap (λ (b : Bool). any_hollow xs || b) (or-false _)));
          words = rw (k.words, said) (sym (ap words_in (answers_more s n) ∙ map-append (λ x. x.word) xs _));
        }
