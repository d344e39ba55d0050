-- Demand 1 for the writer: its answer is o exactly if the entries, in plain words, say so (`Written`). A row of that table decides the
-- answer; and one row or another always holds, since an entry is good or bad.
use Prim.Native.Nat.{ℕ, suc, ◌+◌, ◌<◌, ◌≤◌}
use native.Mathlib.Nat.{add-zero, zero-add}
use native.Mathlib.Omega.{arith}
use mathlib.Core.Path.{◌≡◌, refl, sym, ap, ◌∙◌, subst}
use mathlib.Core.Bool.{Bool, true, false, cond, ◌||◌}
use mathlib.Core.List.{List, [], ◌∷◌, ◌++◌}
use mathlib.Core.Logic.{◌⊎◌, inl, inr, ⊎_elim, ◌↔◌, ◌≢◌}
use lib.Dec.{ltb, eqb}
use lib.ListN.{length}
use borrow.Author.Tests.{lt-ltb, le-ltb, eq-eqb, ne_eqb}
use Rattle.words.specs.Bytes.{are_lanes}
use Rattle.std.proofs.lemmas.Bool.{cases_eq, cases_lt}
use Rattle.words.proofs.Lanes.{lanes_named}
use Rattle.transcript_spec.specs.Format.{transcript_of}
use Rattle.transcript_spec.specs.InPlainWords.{Good, AllGood, Written}
use Rattle.transcript_spec.specs.InPlainWords.{BadEntry, no_register, no_lanes, long_word, no_kind, read_with_word}
use Rattle.transcript_spec.specs.InPlainWords as plain
use Rattle.transcript_spec.specs.Writing.{no_record, entry_refusal, refused, accepted, first_bad, accepted_if_fits, write_answer}
use Rattle.transcript_spec.specs.declared.Entry.{Entry}
use Rattle.transcript_spec.specs.declared.Transcribed.{Transcribed}

-- ---- one entry
lanes_off : (n : ℕ) → (n ≡ 0) ⊎ (3 < n) → are_lanes n ≡ false
unfolding are_lanes
lanes_off n (inl z) = ap are_lanes z
lanes_off n (inr h) =
    let a = ne_eqb n 1 (λ e. omega arith) in
    let b = ne_eqb n 2 (λ e. omega arith) in
    let c = ne_eqb n 3 (λ e. omega arith) in
    rw (a, b, c)

module _ (e : Entry) where
  -- the register and the lanes are good: the kind and the word decide
  record_decides : (t : Bool) → e.register ≤ 3 → 1 ≤ e.lanes → e.lanes ≤ 3 → no_record e ≡ t → entry_refusal e ≡ cond t 22 0
  unfolding entry_refusal
  record_decides t r a l q = rw (le-ltb 3 e.register r, (lanes_named e.lanes).1 (a, l), q)

  -- A good entry is not refused.
  pub good_passes : Good e → entry_refusal e ≡ 0
  unfolding no_record
  good_passes g =
      let w = le-ltb 65535 e.word g.word in
      let k = le-ltb 1 e.kind g.kind in
      record_decides false g.register g.a_lane g.lanes
      (⊎_elim (λ z. rw (w, k, eq-eqb e.kind 0 z, eq-eqb e.word 0 (g.read z))) (λ d. rw (w, k, ne_eqb e.kind 0 d))
      (cases_eq e.kind 0))

  or_true : (s : Bool) → (s || true) ≡ true
  or_true true = refl
  or_true false = refl

  -- A bad entry is refused with its number.
  pub bad_refused : (n : ℕ) → BadEntry e n → entry_refusal e ≡ n
  unfolding entry_refusal no_record
  bad_refused _ (no_register h) = rw (lt-ltb 3 e.register h)
  bad_refused _ (no_lanes r o) = rw (le-ltb 3 e.register r, lanes_off e.lanes o)
  bad_refused _ (long_word r a l h) = record_decides true r a l (rw (lt-ltb 65535 e.word h))
  bad_refused _ (no_kind r a l h) = record_decides true r a l (rw (lt-ltb 1 e.kind h) (or_true (ltb 65535 e.word)))
  bad_refused _ (read_with_word r a l z d) =
      record_decides true r a l
      (rw (eq-eqb e.kind 0 z, ne_eqb e.word 0 d, or_true (ltb 1 e.kind)) (or_true (ltb 65535 e.word)))

  -- No bad entry is refused with 0.
  pub bad_number : (n : ℕ) → BadEntry e n → n ≢ 0
  bad_number _ (no_register h) z = omega arith
  bad_number _ (no_lanes r o) z = omega arith
  bad_number _ (long_word r a l h) z = omega arith
  bad_number _ (no_kind r a l h) z = omega arith
  bad_number _ (read_with_word r a l q d) z = omega arith

  abbrev Judged : Type 0
  Judged = Good e ⊎ ((n : ℕ) × BadEntry e n)

  with_lanes : e.register ≤ 3 → 1 ≤ e.lanes → e.lanes ≤ 3 → Judged
  with_lanes r a l =
      ⊎_elim
      (λ h. inr (_, long_word r a l h))
      (λ w. ⊎_elim
      (λ h. inr (_, no_kind r a l h))
      (λ k. ⊎_elim
      (λ z. ⊎_elim
      (λ q. inl (record { kind = k; register = r; a_lane = a; lanes = l; word = w; read = λ _. q }))
      (λ d. inr (_, read_with_word r a l z d))
      (cases_eq e.word 0))
      (λ d. inl (record { kind = k; register = r; a_lane = a; lanes = l; word = w; read = λ z. absurd (d z) }))
      (cases_eq e.kind 0))
      (cases_lt 1 e.kind))
      (cases_lt 65535 e.word)

  with_register : e.register ≤ 3 → Judged
  with_register r =
      ⊎_elim
      (λ z. inr (_, no_lanes r (inl z)))
      (λ d. ⊎_elim (λ h. inr (_, no_lanes r (inr h))) (λ l. with_lanes r (omega (arith, d)) l) (cases_lt 3 e.lanes))
      (cases_eq e.lanes 0)

  -- Every entry is good, or bad with 2, 3 or 22.
  pub good_or_bad : Judged
  good_or_bad = ⊎_elim (λ h. inr (_, no_register h)) with_register (cases_lt 3 e.register)

-- An entry that is not refused is good.
pub passes_good : (e : Entry) → entry_refusal e ≡ 0 → Good e
passes_good e z = ⊎_elim (λ g. g) (λ b. absurd (bad_number e b.0 b.1 (sym (bad_refused e b.0 b.1) ∙ z))) (good_or_bad e)

-- ---- a list of entries
-- Where all entries are good, none is refused.
pub none_bad : (k : ℕ) (es : List Entry) (good : Transcribed) → AllGood es → first_bad k es good ≡ good
unfolding first_bad
none_bad k [] good g = refl
none_bad k (e ∷ es) good g =
    ap (λ (n : ℕ). cond (eqb n 0) (first_bad (suc k) es good) (refused n k)) (good_passes e g.0) ∙ none_bad (suc k) es good g.1

-- The first bad entry, behind good ones, is refused with its number and its index.
pub finds_bad : (k : ℕ) (xs ys : List Entry) (e : Entry) (n : ℕ) (good : Transcribed) → AllGood xs → BadEntry e n →
    first_bad k (xs ++ (e ∷ ys)) good ≡ refused n (k + length xs)
unfolding first_bad
finds_bad k [] ys e n good g b =
    ap (λ (j : ℕ). cond (eqb j 0) (first_bad (suc k) ys good) (refused j k)) (bad_refused e n b)
    ∙ ap (λ (t : Bool). cond t (first_bad (suc k) ys good) (refused n k)) (ne_eqb n 0 (bad_number e n b))
    ∙ ap (refused n) (sym (add-zero k))
finds_bad k (x ∷ xs) ys e n good g b =
    ap (λ (j : ℕ). cond (eqb j 0) (first_bad (suc k) (xs ++ (e ∷ ys)) good) (refused j k)) (good_passes x g.0)
    ∙ finds_bad (suc k) xs ys e n good g.1 b
    ∙ ap (refused n) (shift k (length xs))
  where
    shift : (k n : ℕ) → suc k + n ≡ k + suc n
    shift k n = omega arith

data Sorted (es : List Entry) : Type 0 where
  all_good : AllGood es → Sorted es
  then_bad : (xs ys : List Entry) (e : Entry) (n : ℕ) → es ≡ xs ++ (e ∷ ys) → AllGood xs → BadEntry e n → Sorted es

one_more : (e : Entry) (es : List Entry) → Good e → Sorted es → Sorted (e ∷ es)
one_more e es g (all_good a) = all_good (g, a)
one_more e es g (then_bad xs ys x n q a b) = then_bad (e ∷ xs) ys x n (ap (λ (l : List Entry). e ∷ l) q) (g, a) b

sorted : (es : List Entry) → Sorted es
sorted [] = all_good tt
sorted (e ∷ es) =
    ⊎_elim (λ g. one_more e es g (sorted es)) (λ b. then_bad [] es e b.0 refl tt b.1) (good_or_bad e)

module _ (es : List Entry) (room : ℕ) where
  says : (o : Transcribed) → Written es room o → write_answer es room ≡ o
  unfolding write_answer
  says _ (plain.Written.done g h) =
      none_bad 0 es (accepted_if_fits (length (transcript_of es)) room) g
      ∙ ap (λ (t : Bool). cond t (refused 24 0) (accepted (length (transcript_of es)))) (le-ltb room (length (transcript_of es)) h)
  says _ (plain.Written.too_small g h) =
      none_bad 0 es (accepted_if_fits (length (transcript_of es)) room) g
      ∙ ap (λ (t : Bool). cond t (refused 24 0) (accepted (length (transcript_of es)))) (lt-ltb room (length (transcript_of es)) h)
  says _ (plain.Written.bad_entry xs ys {e} {n} q g b) =
      ap (λ (l : List Entry). first_bad 0 l (accepted_if_fits (length (transcript_of es)) room)) q
      ∙ finds_bad 0 xs ys e n (accepted_if_fits (length (transcript_of es)) room) g b
      ∙ ap (refused n) (zero-add (length xs))

  some : Sorted es → (o : Transcribed) × Written es room o
  some (all_good g) =
      ⊎_elim
      (λ h. (refused 24 0, plain.Written.too_small g h))
      (λ h. (accepted (length (transcript_of es)), plain.Written.done g h))
      (cases_lt room (length (transcript_of es)))
  some (then_bad xs ys e n q g b) = (refused n (length xs), plain.Written.bad_entry xs ys q g b)

  -- The writer's answer is o exactly if o's row of `Written` holds: all entries are good and fit, all are good and do not fit (24), or an
  -- entry is the first bad one, with its number and its index.
  pub writes_exactly : (o : Transcribed) → write_answer es room ≡ o ↔ Written es room o
  writes_exactly o =
      let x = some (sorted es) in
      (λ q. subst (Written es room) (sym (says x.0 x.1) ∙ q) x.1, says o)
