-- A run of accesses in two parts: the first, then the second from where the first ended. What they answer is joined, and
-- their counts are added. So a block of n + k words is a block of n and then one of k.
use Prim.Native.Nat.{ℕ, suc, ◌+◌, ◌≤◌}
use native.Mathlib.Nat.{zero-add, add_assoc}
use native.Mathlib.Omega.{arith}
use mathlib.Core.Path.{◌≡◌, sym, ap, ◌∙◌}
use mathlib.Core.Bool.{Bool, true, false}
use mathlib.Core.List.{List, [], ◌∷◌, ◌++◌, map-append}
use lib.ListN.{length, length-map}
use Rattle.registers.specs.declared.Registers.{Registers}
use Rattle.port_spec.specs.Sequences.{Machine, machine, words_in, save, answers, ends}
use Rattle.port_spec.specs.Table.{reading}
use Rattle.port_spec.specs.declared.Answer.{Answer}
use Rattle.port_spec.proofs.Joined.{ends_join, answers_join, answers_length, reading_join, reading_length, reads_keep_memory, filled_length}
use Rattle.block_spec.specs.Block.{writing, counted, tally, hollows_in, is_empty, empties_in}
use Rattle.block_spec.specs.Parts.{ReadInto, WrittenFrom}
use Rattle.block_spec.specs.declared.Run.{Run}

-- ---- counting
one_more : (b : Bool) {n k : ℕ} → n ≤ k → counted b + n ≤ suc k
one_more true h = omega arith
one_more false h = omega arith

module _ (f : Answer → Bool) where
  -- Of answers in two parts, one behind the other, the counts are added.
  pub tally_join : (xs ys : List Answer) → tally f (xs ++ ys) ≡ tally f xs + tally f ys
  unfolding tally
  tally_join [] ys = sym (zero-add (tally f ys))
  tally_join (x ∷ xs) ys = rw (tally_join xs ys) (sym (add_assoc (counted (f x)) (tally f xs) (tally f ys)))

  -- A count is never more than there are answers.
  pub tally_most : (xs : List Answer) → tally f xs ≤ length xs
  unfolding tally
  tally_most [] = omega arith
  tally_most (x ∷ xs) = one_more (f x) (tally_most xs)

-- ---- reads
-- Of n reads at most n hand out a hollow word.
pub few_hollows : (s : Machine) (n : ℕ) → hollows_in (answers s (reading n)) ≤ n
few_hollows s n = rw (answers_length s (reading n), reading_length n) at (tally_most (λ x. x.hollow) (answers s (reading n)))

-- A part that n reads fill has n places.
pub read_length : {s : Machine} {n : ℕ} {o : Run} {part : List ℕ} → ReadInto s n o part → length part ≡ n
read_length {s} {n} a = ap length a.words ∙ filled_length s n

-- Reads into one part and then into the next are reads into both.
pub join_reads : (r : Registers) (m : List ℕ) (n k : ℕ) (o p : Run) (xs ys : List ℕ) →
    ReadInto (machine r m) n o xs → ReadInto (machine o.registers m) k p ys →
    ReadInto (machine r m) (n + k) (record { registers = p.registers; tallied = o.tallied + p.tallied }) (xs ++ ys)
join_reads r m n k o p xs ys a b =
    let s = machine r m in
    let t = ends s (reading n) in
    let here : machine o.registers m ≡ t =
    ap (λ (q : Registers). machine q m) a.registers ∙ ap (machine t.registers) (sym (reads_keep_memory s n)) in
    let both = ap (answers s) (reading_join n k) ∙ answers_join s (reading n) (reading k) in
    record {
      registers =
          b.registers ∙ ap (λ (u : Machine). (ends u (reading k)).registers) here ∙
          ap (λ (u : Machine). u.registers) (sym (ap (ends s) (reading_join n k) ∙ ends_join s (reading n) (reading k)));
      tallied =
          ap (λ (x : ℕ). x + p.tallied) a.tallied ∙
          ap (λ (x : ℕ). hollows_in (answers s (reading n)) + x)
          (b.tallied ∙ ap (λ (u : Machine). hollows_in (answers u (reading k))) here) ∙
          sym (ap hollows_in both ∙ tally_join (λ x. x.hollow) (answers s (reading n)) (answers t (reading k)));
      words =
          ap (λ (l : List ℕ). l ++ ys) a.words ∙
          ap (λ (l : List ℕ). words_in (answers s (reading n)) ++ l)
          (b.words ∙ ap (λ (u : Machine). words_in (answers u (reading k))) here) ∙
          sym (ap words_in both ∙ map-append (λ x. x.word) (answers s (reading n)) (answers t (reading k)));
    }

-- ---- writes
-- Of the writes of some words at most that many fall empty.
pub few_empties : (s : Machine) (ws : List ℕ) → empties_in (answers s (writing ws)) ≤ length ws
few_empties s ws =
    rw (answers_length s (writing ws), length-map ws (save 2)) at (tally_most (λ x. is_empty x.cycle) (answers s (writing ws)))

-- Writes of some words and then of others are writes of both.
pub join_writes : (s : Machine) (m m' : List ℕ) (o p : Run) (xs ys : List ℕ) →
    WrittenFrom s xs o m → WrittenFrom (machine o.registers m) ys p m' →
    WrittenFrom s (xs ++ ys) (record { registers = p.registers; tallied = o.tallied + p.tallied }) m'
join_writes s m m' o p xs ys a b =
    let t = ends s (writing xs) in
    let here : machine o.registers m ≡ t =
    ap (λ (q : Registers). machine q m) a.registers ∙ ap (machine t.registers) a.memory in
    let parts = map-append (save 2) xs ys in
    let end = ap (λ (u : Machine). ends u (writing ys)) here ∙ sym (ap (ends s) parts ∙ ends_join s (writing xs) (writing ys)) in
    record {
      registers = b.registers ∙ ap (λ (u : Machine). u.registers) end;
      tallied =
          ap (λ (x : ℕ). x + p.tallied) a.tallied ∙
          ap (λ (x : ℕ). empties_in (answers s (writing xs)) + x)
          (b.tallied ∙ ap (λ (u : Machine). empties_in (answers u (writing ys))) here) ∙
          sym
          (ap empties_in (ap (answers s) parts ∙ answers_join s (writing xs) (writing ys)) ∙
          tally_join (λ x. is_empty x.cycle) (answers s (writing xs)) (answers t (writing ys)));
      memory = b.memory ∙ ap (λ (u : Machine). u.memory) end;
    }
