-- What the contracts of the two calls promise, said of any outcome that they allow, in the numbers of `specs/InNumbers`: each answer when
-- and only then, what a call that is not done leaves, and what one that is done leaves. The numbers are 0, 24 and 27, and 0, 22 and 24
-- (`take_number`, `put_number`).
use Prim.Native.Nat.{ℕ}
use native.Mathlib.Omega.{arith}
use mathlib.Core.Path.{◌≡◌, refl, sym, ap, ◌∙◌, subst}
use mathlib.Core.Bool.{cond}
use mathlib.Core.List.{List, append-nil}
use mathlib.Core.Logic.{◌↔◌, ◌≢◌}
use lib.ListN.{length, take, drop}
use lib.Seq.{take-append_seam, drop-append_seam}
use Rattle.std.specs.Prelude.{Result, Ok, Err}
use Rattle.words.proofs.Contracts.{Contract}
use Rattle.transcript_spec.specs.InPlainWords.{first_places, later_places}
use Rattle.transcript_spec.specs.Lists.{Lists, lists, size, entries_in, over, with_entries}
use Rattle.transcript_spec.specs.declared.Entry.{Entry}
use Rattle.transcript_spec.specs.declared.Transcribed.{Transcribed}
use Rattle.transcript_spec.proofs.Columns.{first_are_columns, later_stay}
use Rattle.transcript_spec.proofs.Filled.{SameLengths, over_length, lengths_stay}
use Rattle.transcript_lines.specs.InNumbers.{taken_numbers, put_numbers}
use Rattle.transcript_lines.specs.InPlainWords.{TookAs, TookAll, PutAs, PutAll}
use Rattle.transcript_lines.specs.Lines.{entry_of, line, text_of}
use Rattle.transcript_lines.specs.Putting.{is_written, text_after, PutLines}
use Rattle.transcript_lines.specs.Taking.{Taking, taking, take_answer, is_taken, lists_after, TookLines}
use Rattle.transcript_lines.specs.declared.NotPut.{NotPut}
use Rattle.transcript_lines.specs.declared.NotPut.TheVariants.{Unsayable, NoBytes}
use Rattle.transcript_lines.specs.declared.NotTaken.{NotTaken}
use Rattle.transcript_lines.specs.declared.NotTaken.TheVariants.{BadLine, NoPlaces}
use Rattle.transcript_lines.proofs.PutAnswers.{put_answers, puts_exactly}
use Rattle.transcript_lines.proofs.TakeAnswers.{then_taken, take_answers, takes_exactly}
use Rattle.transcript_lines.proofs.TakenLines.{nothing_there}
use Rattle.transcript_lines.proofs.lines.entry_of.Kinds as entry_of_kinds
use Rattle.transcript_lines.proofs.lines.entry_of.Reads as entry_of
use Rattle.transcript_lines.proofs.lines.line_size.Kinds as line_size_kinds
use Rattle.transcript_lines.proofs.lines.line_size.Reads as line_size
use Rattle.transcript_lines.proofs.putting.put_lines.Kinds as put_lines_kinds
use Rattle.transcript_lines.proofs.putting.put_lines.Reads as put_lines
use Rattle.transcript_lines.proofs.taking.judge_lines.Kinds as judge_lines_kinds
use Rattle.transcript_lines.proofs.taking.judge_lines.Reads as judge_lines
use Rattle.transcript_lines.proofs.taking.take_lines.Kinds as take_lines_kinds
use Rattle.transcript_lines.proofs.taking.take_lines.Reads as take_lines

-- ---- taking lines
module _ {t : List ℕ} {l l' : Lists} {o : Result ℕ NotTaken} (p : TookLines t l o l') where
  -- The answer of `take_lines` is a, in numbers, exactly if a's row of `TookAs` holds: all lines are good and have places, all are good and
  -- have none (24), or a line is bad (27, with the good lines before it).
  pub take_exactly : (a : Transcribed) → taken_numbers o ≡ a ↔ TookAs t (size l) a
  take_exactly a =
      let k = takes_exactly t (size l) a in
      (λ e. k.0 (ap taken_numbers (sym p.answer) ∙ e), λ w. ap taken_numbers p.answer ∙ k.1 w)

  lists_left : l' ≡ cond (is_taken o) (with_entries (taking t).entries l) l
  unfolding lists_after
  lists_left = p.lists ∙ ap (λ (x : Result ℕ NotTaken). cond (is_taken x) (with_entries (taking t).entries l) l) (sym p.answer)

  -- With another number than 0 `take_lines` counts nothing, and leaves every place of the four lists.
  pub take_refused : (taken_numbers o).number ≢ 0 → ((taken_numbers o).count ≡ 0) × (l' ≡ l)
  take_refused = go o lists_left
    where
      go : (x : Result ℕ NotTaken) → l' ≡ cond (is_taken x) (with_entries (taking t).entries l) l → (taken_numbers x).number ≢ 0 →
          ((taken_numbers x).count ≡ 0) × (l' ≡ l)
      go (Ok n) e d = absurd (d refl)
      go (Err (BadLine n)) e d = (refl, e)
      go (Err NoPlaces) e d = (refl, e)

  -- Where `take_lines` takes all lines, their entries stand in the lists' first places.
  pub lists_filled : {n : ℕ} → o ≡ Ok n → l' ≡ with_entries (taking t).entries l
  lists_filled e = lists_left ∙ ap (λ (x : Result ℕ NotTaken). cond (is_taken x) (with_entries (taking t).entries l) l) e

  -- Where `take_lines` answers 0, the text is lines of entries, which are counted and stand in the lists' first places; the later ones are
  -- as they were.
  pub take_done : (taken_numbers o).number ≡ 0 → TookAll t l (taken_numbers o) l'
  take_done = go o refl
    where
      all : (n : ℕ) → o ≡ Ok n → TookAll t l (taken_numbers (Ok n)) l'
      all n e =
          let m = (take_answers t (size l) (Ok n)).0 (sym p.answer ∙ e) in
          let es = m.0.entries in
          let left : l' ≡ with_entries es l =
          lists_filled e ∙ ap (λ (x : Taking). with_entries x.entries l) (then_taken m.0 nothing_there) in
          record {
            taken = es;
            is = m.0.is ∙ append-nil (text_of es);
            says = m.0.says;
            count = sym m.0.count;
            place = refl;
            fits = m.1;
            entries = ap (λ (k : ℕ). first_places k l') (sym m.0.count) ∙ ap (first_places (length es)) left ∙ first_are_columns es l;
            rest =
                ap (λ (k : ℕ). later_places k l') (sym m.0.count) ∙ ap (later_places (length es)) left ∙ later_stay es l
                ∙ ap (λ (k : ℕ). later_places k l) m.0.count;
          }

      go : (x : Result ℕ NotTaken) → o ≡ x → (taken_numbers x).number ≡ 0 → TookAll t l (taken_numbers x) l'
      go (Ok n) e z = all n e
      go (Err (BadLine n)) e z = absurd (omega (arith, z))
      go (Err NoPlaces) e z = absurd (omega (arith, z))

  -- Whatever `take_lines` answers, each list is as long as it was.
  pub take_lengths : SameLengths l l'
  take_lengths = go o refl
    where
      same : (taken_numbers o).number ≢ 0 → SameLengths l l'
      same d = subst (SameLengths l) (sym (take_refused d).1) (record { kinds = refl; registers = refl; lanes = refl; words = refl })

      go : (x : Result ℕ NotTaken) → o ≡ x → SameLengths l l'
      go (Ok n) e =
          let m = (take_answers t (size l) (Ok n)).0 (sym p.answer ∙ e) in
          let few = ap (λ (x : Taking). length x.entries) (then_taken m.0 nothing_there) in
          subst (SameLengths l) (sym (lists_filled e)) (lengths_stay (taking t).entries l (omega (arith, few, m.0.count, m.1)))
      go (Err (BadLine n)) e = same (λ z. omega (arith, z, ap (λ (y : Result ℕ NotTaken). (taken_numbers y).number) e))
      go (Err NoPlaces) e = same (λ z. omega (arith, z, ap (λ (y : Result ℕ NotTaken). (taken_numbers y).number) e))

-- ---- putting lines
module _ {l : Lists} {out out' : List ℕ} {o : Result ℕ NotPut} (p : PutLines l out o out') where
  abbrev entries : List Entry
  entries = entries_in l

  -- The answer of `put_lines` is a, in numbers, exactly if a's row of `PutAs` holds: a line can say each entry and they fit, they do not
  -- (24), or no line can say an entry (22, with its index).
  pub put_exactly : (a : Transcribed) → put_numbers o ≡ a ↔ PutAs entries (length out) a
  put_exactly a =
      let k = puts_exactly entries (length out) a in
      (λ e. k.0 (ap put_numbers (sym p.answer) ∙ e), λ w. ap put_numbers p.answer ∙ k.1 w)

  text_left : out' ≡ cond (is_written o) (over (text_of entries) out) out
  unfolding text_after
  text_left = p.text ∙ ap (λ (x : Result ℕ NotPut). cond (is_written x) (over (text_of entries) out) out) (sym p.answer)

  -- With another number than 0 `put_lines` counts nothing, and leaves every byte.
  pub put_refused : (put_numbers o).number ≢ 0 → ((put_numbers o).count ≡ 0) × (out' ≡ out)
  put_refused = go o text_left
    where
      go : (x : Result ℕ NotPut) → out' ≡ cond (is_written x) (over (text_of entries) out) out → (put_numbers x).number ≢ 0 →
          ((put_numbers x).count ≡ 0) × (out' ≡ out)
      go (Ok n) e d = absurd (d refl)
      go (Err (Unsayable k)) e d = (refl, e)
      go (Err NoBytes) e d = (refl, e)

  -- Where `put_lines` writes all lines, they stand in the text's first bytes.
  pub text_filled : {n : ℕ} → o ≡ Ok n → out' ≡ over (text_of entries) out
  text_filled e = text_left ∙ ap (λ (x : Result ℕ NotPut). cond (is_written x) (over (text_of entries) out) out) e

  -- Where `put_lines` answers 0, a line can say each entry; the bytes of the lines are counted, these stand in the first bytes, and the
  -- later ones are as they were.
  pub put_done : (put_numbers o).number ≡ 0 → PutAll l out (put_numbers o) out'
  put_done = go o refl
    where
      all : (n : ℕ) → o ≡ Ok n → PutAll l out (put_numbers (Ok n)) out'
      all n e =
          let m = (put_answers entries (length out) (Ok n)).0 (sym p.answer ∙ e) in
          record {
            says = m.0;
            count = m.1;
            place = refl;
            fits = m.2;
            text =
                ap (λ (k : ℕ). take k out') m.1 ∙ ap (take (length (text_of entries))) (text_filled e)
                ∙ take-append_seam (text_of entries) _;
            rest =
                ap (λ (k : ℕ). drop k out') m.1 ∙ ap (drop (length (text_of entries))) (text_filled e)
                ∙ drop-append_seam (text_of entries) _ ∙ ap (λ (k : ℕ). drop k out) (sym m.1);
          }

      go : (x : Result ℕ NotPut) → o ≡ x → (put_numbers x).number ≡ 0 → PutAll l out (put_numbers x) out'
      go (Ok n) e z = all n e
      go (Err (Unsayable k)) e z = absurd (omega (arith, z))
      go (Err NoBytes) e z = absurd (omega (arith, z))

  -- Whatever `put_lines` answers, there are as many bytes as there were.
  pub put_length : length out' ≡ length out
  put_length = go o refl
    where
      go : (x : Result ℕ NotPut) → o ≡ x → length out' ≡ length out
      go (Ok n) e =
          let m = (put_answers entries (length out) (Ok n)).0 (sym p.answer ∙ e) in
          ap length (text_filled e) ∙ over_length (text_of entries) out (omega (arith, m.1, m.2))
      go (Err (Unsayable k)) e = ap length (put_refused (λ z. omega (arith, z, ap (λ (y : Result ℕ NotPut). (put_numbers y).number) e))).1
      go (Err NoBytes) e = ap length (put_refused (λ z. omega (arith, z, ap (λ (y : Result ℕ NotPut). (put_numbers y).number) e))).1

-- ---- the contracts themselves: each is a statement on the call's own arguments
-- `entry_of` takes any a, and all that its contract allows is `entry_of` of it.
pub entry_of_contract : Contract entry_of_kinds.ps entry_of_kinds.r entry_of.Pre entry_of.Post
    (λ κs args e left.
    let a = args.0 in
    e ≡ entry_of a)
entry_of_contract = record { takes_any = λ κs args. tt; says = λ κs args e left p. p }

-- `line_size` takes any e, and all that its contract allows is the length of its `line`.
pub line_size_contract : Contract line_size_kinds.ps line_size_kinds.r line_size.Pre line_size.Post
    (λ κs args r left.
    let e = args.0 in
    r ≡ length (line e))
line_size_contract = record { takes_any = λ κs args. tt; says = λ κs args r left p. p }

-- `put_lines` takes any kinds, registers, lanes, words and text, and all that its contract allows is `PutLines` of them.
pub put_lines_contract : Contract put_lines_kinds.ps put_lines_kinds.r put_lines.Pre put_lines.Post
    (λ κs args o left.
    let kinds = args.0 in
    let registers = args.1.0 in
    let lanes = args.1.1.0 in
    let words = args.1.1.1.0 in
    let text = args.1.1.1.1.0 in
    let text' = left.1.1.1.1.0 in
    PutLines (lists kinds.now registers.now lanes.now words.now) text.now o text'.now)
put_lines_contract = record { takes_any = λ κs args. tt; says = λ κs args o left p. p }

-- `judge_lines` takes any text and room, and all that its contract allows is `take_answer` of them.
pub judge_lines_contract : Contract judge_lines_kinds.ps judge_lines_kinds.r judge_lines.Pre judge_lines.Post
    (λ κs args o left.
    let text = args.0 in
    let room = args.1.0 in
    o ≡ take_answer text.now room)
judge_lines_contract = record { takes_any = λ κs args. tt; says = λ κs args o left p. p }

-- `take_lines` takes any text, kinds, registers, lanes and words, and all that its contract allows is `TookLines` of them.
pub take_lines_contract : Contract take_lines_kinds.ps take_lines_kinds.r take_lines.Pre take_lines.Post
    (λ κs args o left.
    let text = args.0 in
    let kinds = args.1.0 in
    let kinds' = left.1.0 in
    let registers = args.1.1.0 in
    let registers' = left.1.1.0 in
    let lanes = args.1.1.1.0 in
    let lanes' = left.1.1.1.0 in
    let words = args.1.1.1.1.0 in
    let words' = left.1.1.1.1.0 in
    TookLines text.now (lists kinds.now registers.now lanes.now words.now) o
    (lists kinds'.now registers'.now lanes'.now words'.now))
take_lines_contract = record { takes_any = λ κs args. tt; says = λ κs args o left p. p }
