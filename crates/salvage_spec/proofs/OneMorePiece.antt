-- One piece more of an input: what stands after it is what stands of the longer string, and what is written of it is what its run has more.
use Prim.Native.Nat.{ℕ, ◌+◌, ◌-◌, ◌≤◌}
use native.Mathlib.Omega.{arith}
use mathlib.Core.Path.{◌≡◌, refl, sym, ap, ◌∙◌, subst}
use mathlib.Core.Bool.{Bool, true, false, cond}
use mathlib.Core.List.{List, [], ◌++◌, append_assoc, append-nil}
use mathlib.Core.Logic.{⊎_elim, ◌≢◌}
use lib.Dec.{eqb}
use lib.ListN.{length, take, length-append, length-take}
use borrow.Author.Tests.{eqb-false}
use Rattle.words.specs.Bytes.{AreBytes}
use Rattle.std.proofs.lemmas.Bool.{cases_Bool, or_parts}
use Rattle.transcript_spec.specs.Reading.{entries_read, refusal_read}
use Rattle.transcript_spec.specs.declared.Entry.{Entry}
use Rattle.transcript_spec.proofs.Bytes.{bytes_second}
use Rattle.salvage_spec.specs.InPlainWords.{next_bad}
use Rattle.salvage_spec.specs.Pieces.{Progress, may_go_on, at_hand, held_of, piece_taken, piece_written}
use Rattle.salvage_spec.specs.Salvage.{run, rest}
use Rattle.salvage_spec.proofs.Divides.{Found, found, divides}
use Rattle.salvage_spec.proofs.Longest.{good_front, stopped_is_bad}
use Rattle.salvage_spec.proofs.MoreBehind.{bad_with_more, Alike, rest_alike}

-- the progress p is that of the string s
pub record Stands (s : List ℕ) (p : Progress) : Type 0 where
  pub kept : p.kept ≡ length (entries_read s)
  pub held : p.held ≡ held_of s
  pub left : p.gone + length p.held ≡ length (rest s)
  pub stop : p.stop ≡ refusal_read s

-- what one piece v more makes of the progress p of the string s
pub record OneMore (s v : List ℕ) (p : Progress) : Type 0 where
  pub stands : Stands (s ++ v) (piece_taken p v)
  pub writes : run (s ++ v) ≡ run s ++ piece_written p v

few_held : (s : List ℕ) → length (held_of s) ≤ length (rest s)
unfolding held_of
few_held s = either (may_go_on (refusal_read s))
  where
    either : (t : Bool) → length (cond t (take 4 (rest s)) []) ≤ length (rest s)
    either true = let n = length-take 4 (rest s) in omega arith
    either false = omega arith

-- the parts of a string decide what is held of it
held_by_parts : (s t : List ℕ) → refusal_read s ≡ refusal_read t → rest s ≡ rest t → held_of s ≡ held_of t
unfolding held_of
held_by_parts s t p q =
    ap (λ (k : ℕ). cond (may_go_on k) (take 4 (rest s)) []) p ∙ ap (λ (l : List ℕ). cond (may_go_on (refusal_read t)) (take 4 l) []) q

module _ (s v : List ℕ) (p : Progress) (k : Stands s p) where
  -- the string may go on
  module _ (a : AreBytes s) (t : may_go_on p.stop ≡ true) where
    open_still : may_go_on (refusal_read s) ≡ true
    open_still = ap may_go_on (sym k.stop) ∙ t

    holds : p.held ≡ take 4 (rest s)
    unfolding held_of
    holds = k.held ∙ ap (λ (z : Bool). cond z (take 4 (rest s)) []) open_still

    whole : Found (s ++ v) (entries_read s ++ entries_read (rest s ++ v)) (run s ++ run (rest s ++ v)) (rest (rest s ++ v))
        (refusal_read (rest s ++ v))
    whole =
        let d = divides s in
        subst
        (λ (l : List ℕ). Found l (entries_read s ++ entries_read (rest s ++ v)) (run s ++ run (rest s ++ v)) (rest (rest s ++ v))
        (refusal_read (rest s ++ v)))
        (sym (ap (λ (l : List ℕ). l ++ v) d.all ∙ append_assoc (run s) (rest s) v))
        (good_front (run s) (rest s ++ v) d.good)

    alike : Alike (rest s) p.held v
    alike =
        let d = divides s in
        subst (λ (h : List ℕ). Alike (rest s) h v) (sym holds)
        (rest_alike (rest s) v (refusal_read s) (bytes_second (run s) (rest s) (λ i. rw (sym d.all) (a i))) d.behind open_still)

    goes_on : OneMore s v p
    unfolding piece_taken piece_written
    goes_on =
        record {
          stands =
              rw t
              (record {
                kept =
                    ap (λ (n : ℕ). n + length (entries_read (at_hand p v))) k.kept ∙
                    ap (λ (es : List Entry). length (entries_read s) + length es) (sym alike.entries) ∙
                    sym (length-append (entries_read s) (entries_read (rest s ++ v))) ∙
                    sym (ap length whole.entries);
                held = sym (held_by_parts (s ++ v) (rest s ++ v) whole.refusal whole.left ∙ alike.held);
                left =
                    let few = few_held (at_hand p v) in
                    all_left p.gone (length p.held) (length (rest s)) few k.left alike.left ∙ sym (ap length whole.left);
                stop = sym (whole.refusal ∙ alike.stop);
              });
          writes = whole.kept ∙ ap (λ (l : List ℕ). run s ++ l) (alike.kept ∙ rw t);
        }
      where
        all_left : (gone held left : ℕ) {m n r : ℕ} → m ≤ n → gone + held ≡ left → r ≡ (left - held) + n → gone + (n - m) + m ≡ r
        all_left gone held left h p q = omega arith

  -- a bad record has stopped it for good
  module _ (t : may_go_on p.stop ≡ false) where
    closed : (refusal_read s ≢ 0) × (refusal_read s ≢ 20)
    closed =
        let x = or_parts (eqb (refusal_read s) 0) (eqb (refusal_read s) 20) (ap may_go_on (sym k.stop) ∙ t) in
        (eqb-false (refusal_read s) 0 x.0, eqb-false (refusal_read s) 20 x.1)

    all_behind : Found (s ++ v) (entries_read s) (run s) (rest s ++ v) (refusal_read s)
    all_behind =
        let d = divides s in
        found
        (record {
          all = ap (λ (l : List ℕ). l ++ v) d.all ∙ append_assoc (run s) (rest s) v;
          good = d.good;
          behind = next_bad (bad_with_more (rest s) v (refusal_read s) (stopped_is_bad s closed.0) closed.1);
        })

    none_held : (l : List ℕ) → refusal_read l ≡ refusal_read s → held_of l ≡ []
    unfolding held_of
    none_held l e =
        ap (λ (z : Bool). cond z (take 4 (rest l)) []) (ap may_go_on (e ∙ sym k.stop) ∙ t)

    ended : OneMore s v p
    unfolding piece_taken piece_written
    ended =
        record {
          stands =
              rw t
              (record {
                kept = k.kept ∙ sym (ap length all_behind.entries);
                held = k.held ∙ none_held s refl ∙ sym (none_held (s ++ v) all_behind.refusal);
                left =
                    let n = ap length all_behind.left ∙ length-append (rest s) v in
                    omega (arith, k.left, n);
                stop = k.stop ∙ sym all_behind.refusal;
              });
          writes = all_behind.kept ∙ sym (append-nil (run s)) ∙ ap (λ (l : List ℕ). run s ++ l) (rw t);
        }

  -- One piece more takes the progress of a string to that of the longer string, and what is written of it is what the run has more.
  pub one_more : AreBytes s → OneMore s v p
  one_more a = ⊎_elim (goes_on a) ended (cases_Bool (may_go_on p.stop))
