-- How the reader goes through the bytes of one number: each but the last is added to it, and the last has it judged. Said once for heads
-- and words: `K n` is the part within a number n, and `D n` what is said of it when its last byte is there.
use Prim.Native.Nat.{ℕ, suc, ◌+◌, ◌<◌, ◌≤◌}
use native.Mathlib.Nat.{add-zero}
use native.Mathlib.Omega.{arith}
use mathlib.Core.Path.{◌≡◌, refl, sym, ap, ◌∙◌}
use mathlib.Core.Bool.{Bool, cond}
use mathlib.Core.List.{List, [], ◌∷◌, ◌++◌, append_assoc}
use lib.Dec.{ltb}
use lib.ListN.{length, length-append}
use borrow.Author.Tests.{lt-ltb, le-ltb}
use Rattle.transcript_spec.specs.InPlainWords.{Continued, Spelled}
use Rattle.transcript_spec.specs.Reading.{none, grown, head_read, word_read, byte_taken, at, fed, feed, feeds}
use Rattle.transcript_spec.specs.declared.Entry.{Entry}
use Rattle.transcript_spec.specs.declared.Number.{Number}
use Rattle.transcript_spec.specs.declared.Part.{Part}
use Rattle.transcript_spec.specs.declared.Part.TheVariants.{Head, Word}
use Rattle.transcript_spec.specs.declared.Step.{Step}
use Rattle.transcript_spec.specs.declared.Step.TheVariants.{Goes}
use Rattle.transcript_spec.proofs.NumberRead.{grown_by}

-- n places on from the next one are n + 1 places on from here.
pub next_place : (i n : ℕ) → i + 1 + n ≡ i + suc n
next_place i n = omega arith

-- A byte more behind some is one byte more of all.
pub grown_snoc : (n : Number) (first : List ℕ) (b : ℕ) → grown (grown_by n first) b ≡ grown_by n (first ++ (b ∷ []))
unfolding grown_by
grown_snoc n [] b = refl
grown_snoc n (x ∷ first) b = grown_snoc (grown n x) first b

module _ (K : Number → Part) (D : Number → Step)
    (rule : (n : Number) (b : ℕ) → byte_taken (K n) b ≡ cond (ltb b 128) (D (grown n b)) (Goes (K (grown n b))))
    (got : List Entry) (from : ℕ) where
  goes : (n : Number) (b : ℕ) → 128 ≤ b → byte_taken (K n) b ≡ Goes (K (grown n b))
  goes n b h = rule n b ∙ ap (λ (t : Bool). cond t (D (grown n b)) (Goes (K (grown n b)))) (le-ltb b 128 h)

  judged : (n : Number) (b : ℕ) → b < 128 → byte_taken (K n) b ≡ D (grown n b)
  judged n b h = rule n b ∙ ap (λ (t : Bool). cond t (D (grown n b)) (Goes (K (grown n b)))) (lt-ltb b 128 h)

  -- Bytes with the top bit set are added to the number.
  pub adds : (i : ℕ) (n : Number) (first rest : List ℕ) → Continued first →
      feeds (at got from i (K n) 0) (first ++ rest) ≡ feeds (at got from (i + length first) (K (grown_by n first)) 0) rest
  unfolding feeds feed grown_by
  adds i n [] rest c = ap (λ (j : ℕ). feeds (at got from j (K n) 0) rest) (sym (add-zero i))
  adds i n (b ∷ first) rest c =
      ap (λ (t : Step). feeds (fed got from (i + 1) t) (first ++ rest)) (goes n b c.0)
      ∙ adds (i + 1) (grown n b) first rest c.1
      ∙ ap (λ (j : ℕ). feeds (at got from j (K (grown_by (grown n b) first)) 0) rest) (next_place i (length first))

  last_byte : (i : ℕ) (n : Number) (b : ℕ) (rest : List ℕ) → b < 128 →
      feeds (at got from i (K n) 0) (b ∷ rest) ≡ feeds (fed got from (i + 1) (D (grown n b))) rest
  unfolding feeds feed
  last_byte i n b rest h = ap (λ (t : Step). feeds (fed got from (i + 1) t) rest) (judged n b h)

  -- A whole number is judged by what its bytes make, when its last byte is there.
  pub reads_number : (i : ℕ) (s rest : List ℕ) → Spelled s →
      feeds (at got from i (K none) 0) (s ++ rest) ≡ feeds (fed got from (i + length s) (D (grown_by none s))) rest
  reads_number i s rest p =
      let first = p.first in
      let n : i + length first + 1 ≡ i + length s =
      length_one_more i (length first) (length s) (ap length p.all ∙ length-append first (p.last ∷ [])) in
      ap (λ (t : List ℕ). feeds (at got from i (K none) 0) (t ++ rest)) p.all
      ∙ ap (feeds (at got from i (K none) 0)) (append_assoc first (p.last ∷ []) rest)
      ∙ adds i none first (p.last ∷ rest) p.continued
      ∙ last_byte (i + length first) (grown_by none first) p.last rest p.ends
      ∙ ap (λ (x : Number). feeds (fed got from (i + length first + 1) (D x)) rest)
      (grown_snoc none first p.last ∙ ap (grown_by none) (sym p.all))
      ∙ ap (λ (j : ℕ). feeds (fed got from j (D (grown_by none s))) rest) n
    where
      length_one_more : (i m n : ℕ) → n ≡ m + 1 → i + m + 1 ≡ i + n
      length_one_more i m n e = omega arith

-- ---- heads and words

-- A byte with the top bit set is added to a head, and one without has the head judged, with this byte.
pub head_rule : (n : Number) (b : ℕ) → byte_taken (Head n) b ≡ cond (ltb b 128) (head_read (grown n b)) (Goes (Head (grown n b)))
unfolding byte_taken
head_rule n b = refl

-- A byte with the top bit set is added to a word, and one without has the word judged, with this byte.
pub word_rule : (h : ℕ) (n : Number) (b : ℕ) →
    byte_taken (Word h n) b ≡ cond (ltb b 128) (word_read h (grown n b)) (Goes (Word h (grown n b)))
unfolding byte_taken
word_rule h n b = refl
