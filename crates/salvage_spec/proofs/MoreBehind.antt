-- What more bytes make of the rest of a string: a bad record that is not cut off stays as bad as it is; and of one that is cut off the
-- first four bytes stand for all of them.
use Prim.Native.Nat.{ℕ, ◌+◌, ◌-◌, ◌≤◌}
use native.Mathlib.Omega.{arith}
use mathlib.Core.Path.{◌≡◌, refl, sym, ap, ◌∙◌, subst}
use mathlib.Core.Bool.{Bool, true, cond, ◌||◌}
use mathlib.Core.List.{List, [], ◌++◌, append_assoc}
use mathlib.Core.Logic.{⊎_elim, ◌≢◌}
use lib.Dec.{eqb}
use lib.ListN.{length, take, length-append, length-take}
use lib.Seq.{take_all, take-append-le, take-take}
use borrow.Author.Tests.{ne_eqb, eqb-true}
use Rattle.words.specs.Bytes.{AreBytes}
use Rattle.std.proofs.lemmas.Bool.{cases_lt}
use Rattle.transcript_spec.specs.InPlainWords.{nothing, BadRecord, head_cut, head_bad, word_cut, word_bad}
use Rattle.transcript_spec.specs.Reading.{entries_read, refusal_read}
use Rattle.transcript_spec.proofs.LongRecords.{first_four}
use Rattle.transcript_spec.proofs.ThroughRecords.{bad_record_number}
use Rattle.salvage_spec.specs.InPlainWords.{Rest, none_left, next_bad}
use Rattle.salvage_spec.specs.Pieces.{may_go_on, held_of}
use Rattle.salvage_spec.specs.Salvage.{run, rest}
use Rattle.salvage_spec.proofs.Divides.{Found, found}

-- ---- a bad record with more behind it
-- A bad record that is not cut off stays as bad as it is with more behind it.
pub bad_with_more : (u v : List ℕ) (n : ℕ) → BadRecord u n → n ≢ 20 → BadRecord (u ++ v) n
bad_with_more _ v _ (head_cut c) d = absurd (d refl)
bad_with_more _ v n (head_bad {h} s p q) d = subst (λ (t : List ℕ). BadRecord t n) (sym (append_assoc h s v)) (head_bad (s ++ v) p q)
bad_with_more _ v _ (word_cut s p c) d = absurd (d refl)
bad_with_more _ v n (word_bad {h} {w} s p q r) d =
    subst (λ (t : List ℕ). BadRecord t n)
    (sym (append_assoc h (w ++ s) v ∙ ap (λ (t : List ℕ). h ++ t) (append_assoc w s v))) (word_bad (s ++ v) p q r)

-- a string that begins with a bad record
stopped_at_once : (u : List ℕ) (n : ℕ) → BadRecord u n → Found u [] [] u n
stopped_at_once u n b = found (record { all = refl; good = nothing; behind = next_bad b })

-- ---- what is held of a rest stands for all of it
-- u and h with v behind them: the same is kept, held and reported, but that so many bytes more of u are left
pub record Alike (u h v : List ℕ) : Type 0 where
  pub entries : entries_read (u ++ v) ≡ entries_read (h ++ v)
  pub kept : run (u ++ v) ≡ run (h ++ v)
  pub stop : refusal_read (u ++ v) ≡ refusal_read (h ++ v)
  pub left : length (rest (u ++ v)) ≡ (length u - length h) + length (rest (h ++ v))
  pub held : held_of (u ++ v) ≡ held_of (h ++ v)

same_alike : (u v : List ℕ) → Alike u u v
same_alike u v = record { entries = refl; kept = refl; stop = refl; left = omega arith; held = refl }

module _ (u v : List ℕ) (l : 4 ≤ length u) (n : ℕ) (b : BadRecord (u ++ v) n) (c : BadRecord (take 4 u ++ v) n) where
  long_alike : Alike u (take 4 u) v
  unfolding held_of
  long_alike =
      let h = take 4 u in
      let x = stopped_at_once (u ++ v) n b in
      let y = stopped_at_once (h ++ v) n c in
      let four = length-take 4 u in
      let i = length-append u v in
      let j = length-append h v in
      record {
        entries = x.entries ∙ sym y.entries;
        kept = x.kept ∙ sym y.kept;
        stop = x.refusal ∙ sym y.refusal;
        left = more_left (length u) (length h) (length v) (omega arith) (ap length x.left ∙ i) (ap length y.left ∙ j);
        held =
            ap (λ (k : ℕ). cond (may_go_on k) (take 4 (rest (u ++ v))) []) (x.refusal ∙ sym y.refusal) ∙
            ap (λ (t : List ℕ). cond (may_go_on (refusal_read (h ++ v))) t [])
            (ap (take 4) x.left ∙ take-append-le 4 u v l ∙ sym (take-take 4 4 u (omega arith)) ∙ sym (take-append-le 4 h v (omega arith))
            ∙
            sym (ap (take 4) y.left));
      }
    where
      more_left : (i j k : ℕ) {m n : ℕ} → j ≤ i → m ≡ i + k → n ≡ j + k → m ≡ (i - j) + n
      more_left i j k h p q = omega arith

cut_alike : (u v : List ℕ) → AreBytes u → BadRecord u 20 → Alike u (take 4 u) v
cut_alike u v a b =
    ⊎_elim
    (λ h. subst (λ (t : List ℕ). Alike u t v) (sym (take_all 4 u (omega arith))) (same_alike u v))
    (λ h. let x = first_four u v a b h in long_alike u v h x.0 x.1 x.2)
    (cases_lt (length u) 4)

-- a record that may go on is cut off
cut_only : (u : List ℕ) (k : ℕ) → BadRecord u k → may_go_on k ≡ true → k ≡ 20
cut_only u k b t = eqb-true k 20 (ap (λ (z : Bool). z || eqb k 20) (sym (ne_eqb k 0 (bad_record_number u k b))) ∙ t)

-- Of the rest of a string that may go on, the first four bytes stand for all, whatever follows.
pub rest_alike : (u v : List ℕ) (k : ℕ) → AreBytes u → Rest u k → may_go_on k ≡ true → Alike u (take 4 u) v
rest_alike _ v _ a none_left t = same_alike [] v
rest_alike u v k a (next_bad b) t = cut_alike u v a (subst (BadRecord u) (cut_only u k b t) b)
