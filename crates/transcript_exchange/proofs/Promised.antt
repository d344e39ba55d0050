-- What the contracts of the two calls promise, said of any outcome that they allow, in the numbers of `specs/InNumbers`: each answer when
-- and only then, what a call that is not done leaves, and what one that is done leaves.
use Prim.Native.Nat.{ℕ, ◌≤◌}
use native.Mathlib.Omega.{arith}
use mathlib.Core.Path.{◌≡◌, refl, sym, ap, ◌∙◌, subst}
use mathlib.Core.List.{List}
use mathlib.Core.Logic.{◌⊎◌, inl, inr, ⊎_elim, ◌↔◌, ◌≢◌}
use lib.ListN.{length}
use Rattle.std.specs.Prelude.{Result, Ok, Err}
use Rattle.std.proofs.lemmas.Bool.{cases_eq}
use Rattle.words.proofs.Contracts.{Contract}
use Rattle.transcript_spec.specs.Format.{transcript_of}
use Rattle.transcript_spec.specs.InPlainWords.{AllGood, Sound}
use Rattle.transcript_spec.specs.Lists.{Lists, lists, size}
use Rattle.transcript_spec.specs.Reading.{entries_read}
use Rattle.transcript_spec.specs.declared.Entry.{Entry}
use Rattle.transcript_spec.specs.declared.Transcribed.{Transcribed}
use Rattle.transcript_spec.proofs.BadNumbers.{record_number}
use Rattle.transcript_spec.proofs.Filled.{SameLengths}
use Rattle.transcript_spec.proofs.ReadExactly.{sound_exactly}
use Rattle.transcript_lines.specs.Lines.{text_of, AllHaveLines}
use Rattle.transcript_lines.specs.Taking.{Taking, taking}
use Rattle.transcript_lines.proofs.TakenLines.{taken_back}
use Rattle.transcript_exchange.specs.InNumbers.{turned_numbers, case_of}
use Rattle.transcript_exchange.specs.InPlainWords.{LinesOf, BytesAs, LinesAs, Filled}
use Rattle.transcript_exchange.specs.InPlainWords as plain
use Rattle.transcript_exchange.specs.Turning.{ToBytes, ToLines}
use Rattle.transcript_exchange.specs.declared.NotTurned.{NotTurned}
use Rattle.transcript_exchange.specs.declared.NotTurned.TheVariants.{BadLine, Refused, TooMany}
use Rattle.transcript_exchange.proofs.Entries.{entry_range, line_refusal}
use Rattle.transcript_exchange.proofs.Exactly.{bytes_exactly, bytes_case, lines_exactly, lines_case}
use Rattle.transcript_exchange.proofs.Left.{TurnedOut, turned_out, filled, still_long}
use Rattle.transcript_exchange.proofs.turning.lines_to_bytes.Kinds as lines_to_bytes_kinds
use Rattle.transcript_exchange.proofs.turning.lines_to_bytes.Reads as lines_to_bytes
use Rattle.transcript_exchange.proofs.turning.bytes_to_lines.Kinds as bytes_to_lines_kinds
use Rattle.transcript_exchange.proofs.turning.bytes_to_lines.Reads as bytes_to_lines

-- what stays is as long as it was
long_as_before : {l l' : Lists} {out out' : List ℕ} → l' ≡ l → out' ≡ out → SameLengths l l' × (length out' ≡ length out)
long_as_before {l} x y =
    (subst (SameLengths l) (sym x) (record { kinds = refl; registers = refl; lanes = refl; words = refl }), ap length y)

-- ---- lines to bytes
module _ {t : List ℕ} {l l' : Lists} {out out' : List ℕ} {o : Result ℕ NotTurned} (p : ToBytes t l out o l' out') where
  -- The answer of `lines_to_bytes` is a, in numbers, exactly if a's row of `BytesAs` holds: a line is bad (27), there are more lines than
  -- places (24), an access has no record (its number and index), the records do not fit (24), or the text is good lines of good entries
  -- that have places, and their transcript fits.
  pub to_bytes_exactly : (a : Transcribed) → turned_numbers o ≡ a ↔ BytesAs t (size l) (length out) a
  to_bytes_exactly a =
      let k = bytes_exactly t (size l) (length out) a in
      (λ e. k.0 (ap turned_numbers (sym p.answer) ∙ e), λ w. ap turned_numbers p.answer ∙ k.1 w)

  -- The numbers of what `lines_to_bytes` answers tell its case: no two cases have the same.
  pub to_bytes_case : o ≡ case_of (turned_numbers o)
  to_bytes_case = subst (λ (x : Result ℕ NotTurned). x ≡ case_of (turned_numbers x)) (sym p.answer) (bytes_case t (size l) (length out))

  -- The number of `lines_to_bytes` is 0, 2, 3, 24 or 27, and never 22.
  pub to_bytes_number : let n = (turned_numbers o).number in (n ≡ 0) ⊎ ((n ≡ 2) ⊎ ((n ≡ 3) ⊎ ((n ≡ 24) ⊎ (n ≡ 27))))
  to_bytes_number = go ((to_bytes_exactly (turned_numbers o)).0 refl)
    where
      of_entry : {n : ℕ} → (n ≡ 2) ⊎ (n ≡ 3) → (n ≡ 0) ⊎ ((n ≡ 2) ⊎ ((n ≡ 3) ⊎ ((n ≡ 24) ⊎ (n ≡ 27))))
      of_entry (inl e) = inr (inl e)
      of_entry (inr e) = inr (inr (inl e))

      go : {a : Transcribed} → BytesAs t (size l) (length out) a → let n = a.number in
          (n ≡ 0) ⊎ ((n ≡ 2) ⊎ ((n ≡ 3) ⊎ ((n ≡ 24) ⊎ (n ≡ 27))))
      go (plain.BytesAs.bad_line b) = inr (inr (inr (inr refl)))
      go (plain.BytesAs.no_places x h) = inr (inr (inr (inl refl)))
      go (plain.BytesAs.no_record xs ys x h is g b) = of_entry (line_refusal xs ys (subst AllHaveLines is x.says) b)
      go (plain.BytesAs.no_room x h g k) = inr (inr (inr (inl refl)))
      go (plain.BytesAs.done x h g k) = inl refl

  -- With another number than 0 `lines_to_bytes` counts nothing, and leaves every place of the four lists and every byte of the output.
  pub to_bytes_refused : (turned_numbers o).number ≢ 0 → ((turned_numbers o).count ≡ 0) × (l' ≡ l) × (out' ≡ out)
  to_bytes_refused = go o p
    where
      go : (x : Result ℕ NotTurned) → ToBytes t l out x l' out' → (turned_numbers x).number ≢ 0 →
          ((turned_numbers x).count ≡ 0) × (l' ≡ l) × (out' ≡ out)
      go (Ok n) q d = absurd (d refl)
      go (Err (BadLine k)) q d = (refl, q.lists, q.output)
      go (Err (Refused n k)) q d = (refl, q.lists, q.output)
      go (Err TooMany) q d = (refl, q.lists, q.output)

  turned_bytes : {a : Transcribed} → turned_numbers o ≡ a → BytesAs t (size l) (length out) a → a.number ≡ 0 →
      (es : List Entry) × LinesOf t es × AllGood es × TurnedOut es (transcript_of es) l out (turned_numbers o) l' out'
  turned_bytes e (plain.BytesAs.done {es} all h g k) z =
      let same : (taking t).entries ≡ es = ap (λ (x : Taking). x.entries) (ap taking all.is ∙ taken_back es all.says) in
      (es, all, g, turned_out (taking t).entries _ to_bytes_case p.lists p.output e same (ap transcript_of same) h k)
  turned_bytes e (plain.BytesAs.bad_line b) z = absurd (omega (arith, z))
  turned_bytes e (plain.BytesAs.no_places x h) z = absurd (omega (arith, z))
  turned_bytes e (plain.BytesAs.no_record xs ys x h is g b) z = absurd (omega (arith, z, (entry_range b).0))
  turned_bytes e (plain.BytesAs.no_room x h g k) z = absurd (omega (arith, z))

  -- Where `lines_to_bytes` answers 0, the text is good lines of good entries; these stand in the lists' first places, their transcript in
  -- the output's first bytes, and all else stays.
  pub to_bytes_done : (turned_numbers o).number ≡ 0 →
      (es : List Entry) × LinesOf t es × AllGood es × Filled es (transcript_of es) l out (turned_numbers o) l' out'
  to_bytes_done z =
      let k = turned_bytes refl ((to_bytes_exactly (turned_numbers o)).0 refl) z in
      (k.0, k.1, k.2, filled k.3)

  -- What `lines_to_bytes` turns out fits the output.
  pub bytes_fit : {k : ℕ} → o ≡ Ok k → k ≤ length out
  bytes_fit e =
      let d = to_bytes_done (ap (λ (x : Result ℕ NotTurned). (turned_numbers x).number) e) in
      omega (arith, d.3.fits, ap (λ (x : Result ℕ NotTurned). (turned_numbers x).count) e)

  -- Whatever `lines_to_bytes` answers, each list and the output are as long as they were.
  pub to_bytes_lengths : SameLengths l l' × (length out' ≡ length out)
  to_bytes_lengths =
      ⊎_elim
      (λ z. still_long (turned_bytes refl ((to_bytes_exactly (turned_numbers o)).0 refl) z).3)
      (λ d. let k = to_bytes_refused d in long_as_before k.1 k.2)
      (cases_eq (turned_numbers o).number 0)

-- ---- bytes to lines
module _ {s : List ℕ} {l l' : Lists} {out out' : List ℕ} {o : Result ℕ NotTurned} (p : ToLines s l out o l' out') where
  -- The answer of `bytes_to_lines` is a, in numbers, exactly if a's row of `LinesAs` holds: a record is bad (20 to 23, and its first byte),
  -- there are more records than places (24), the lines do not fit (24), or they do: every record has a line.
  pub to_lines_exactly : (a : Transcribed) → turned_numbers o ≡ a ↔ LinesAs s (size l) (length out) a
  to_lines_exactly a =
      let k = lines_exactly s (size l) (length out) a in
      (λ e. k.0 (ap turned_numbers (sym p.answer) ∙ e), λ w. ap turned_numbers p.answer ∙ k.1 w)

  -- The numbers of what `bytes_to_lines` answers tell its case: no two cases have the same.
  pub to_lines_case : o ≡ case_of (turned_numbers o)
  to_lines_case = subst (λ (x : Result ℕ NotTurned). x ≡ case_of (turned_numbers x)) (sym p.answer) (lines_case s (size l) (length out))

  -- The number of `bytes_to_lines` is 0 or one of 20 to 24.
  pub to_lines_number : let n = (turned_numbers o).number in (n ≡ 0) ⊎ ((20 ≤ n) × (n ≤ 24))
  to_lines_number = go ((to_lines_exactly (turned_numbers o)).0 refl)
    where
      go : {a : Transcribed} → LinesAs s (size l) (length out) a → let n = a.number in (n ≡ 0) ⊎ ((20 ≤ n) × (n ≤ 24))
      go (plain.LinesAs.bad_record e q b) = let r = record_number b in inr (r.0, omega (arith, r.1))
      go (plain.LinesAs.no_places q h) = inr (omega arith, omega arith)
      go (plain.LinesAs.no_room q h k) = inr (omega arith, omega arith)
      go (plain.LinesAs.done q h k) = inl refl

  -- With another number than 0 `bytes_to_lines` counts nothing, and leaves every place of the four lists and every byte of the output.
  pub to_lines_refused : (turned_numbers o).number ≢ 0 → ((turned_numbers o).count ≡ 0) × (l' ≡ l) × (out' ≡ out)
  to_lines_refused = go o p
    where
      go : (x : Result ℕ NotTurned) → ToLines s l out x l' out' → (turned_numbers x).number ≢ 0 →
          ((turned_numbers x).count ≡ 0) × (l' ≡ l) × (out' ≡ out)
      go (Ok n) q d = absurd (d refl)
      go (Err (BadLine k)) q d = (refl, q.lists, q.output)
      go (Err (Refused n k)) q d = (refl, q.lists, q.output)
      go (Err TooMany) q d = (refl, q.lists, q.output)

  turned_lines : {a : Transcribed} → turned_numbers o ≡ a → LinesAs s (size l) (length out) a → a.number ≡ 0 →
      (es : List Entry) × Sound s es × TurnedOut es (text_of es) l out (turned_numbers o) l' out'
  turned_lines e (plain.LinesAs.done {es} q h k) z =
      let same = ((sound_exactly s es).0 q).1 in
      (es, q, turned_out (entries_read s) _ to_lines_case p.lists p.output e same (ap text_of same) h k)
  turned_lines e (plain.LinesAs.bad_record f q b) z = absurd (omega (arith, z, (record_number b).0))
  turned_lines e (plain.LinesAs.no_places q h) z = absurd (omega (arith, z))
  turned_lines e (plain.LinesAs.no_room q h k) z = absurd (omega (arith, z))

  -- Where `bytes_to_lines` answers 0, the string is good records; their entries stand in the lists' first places, the lines of these in the
  -- output's first bytes, and all else stays.
  pub to_lines_done : (turned_numbers o).number ≡ 0 →
      (es : List Entry) × Sound s es × Filled es (text_of es) l out (turned_numbers o) l' out'
  to_lines_done z =
      let k = turned_lines refl ((to_lines_exactly (turned_numbers o)).0 refl) z in
      (k.0, k.1, filled k.2)

  -- What `bytes_to_lines` turns out fits the output.
  pub lines_fit : {k : ℕ} → o ≡ Ok k → k ≤ length out
  lines_fit e =
      let d = to_lines_done (ap (λ (x : Result ℕ NotTurned). (turned_numbers x).number) e) in
      omega (arith, d.2.fits, ap (λ (x : Result ℕ NotTurned). (turned_numbers x).count) e)

  -- Whatever `bytes_to_lines` answers, each list and the output are as long as they were.
  pub to_lines_lengths : SameLengths l l' × (length out' ≡ length out)
  to_lines_lengths =
      ⊎_elim
      (λ z. still_long (turned_lines refl ((to_lines_exactly (turned_numbers o)).0 refl) z).2)
      (λ d. let k = to_lines_refused d in long_as_before k.1 k.2)
      (cases_eq (turned_numbers o).number 0)

-- ---- the contracts themselves: each is a statement on the call's own arguments
-- `lines_to_bytes` takes any text, kinds, registers, lanes, words and bytes, and all that its contract allows is `ToBytes` of them.
pub lines_to_bytes_contract : Contract lines_to_bytes_kinds.ps lines_to_bytes_kinds.r lines_to_bytes.Pre lines_to_bytes.Post
    (λ κs args o left.
    let text = args.0 in
    let kinds = args.1.0 in
    let kinds' = left.1.0 in
    let registers = args.1.1.0 in
    let registers' = left.1.1.0 in
    let lanes = args.1.1.1.0 in
    let lanes' = left.1.1.1.0 in
    let words = args.1.1.1.1.0 in
    let words' = left.1.1.1.1.0 in
    let bytes = args.1.1.1.1.1.0 in
    let bytes' = left.1.1.1.1.1.0 in
    ToBytes text.now (lists kinds.now registers.now lanes.now words.now) bytes.now o
    (lists kinds'.now registers'.now lanes'.now words'.now) bytes'.now)
lines_to_bytes_contract = record { takes_any = λ κs args. tt; says = λ κs args o left p. p }

-- `bytes_to_lines` takes any bytes, kinds, registers, lanes, words and text, and all that its contract allows is `ToLines` of them.
pub bytes_to_lines_contract : Contract bytes_to_lines_kinds.ps bytes_to_lines_kinds.r bytes_to_lines.Pre bytes_to_lines.Post
    (λ κs args o left.
    let bytes = args.0 in
    let kinds = args.1.0 in
    let kinds' = left.1.0 in
    let registers = args.1.1.0 in
    let registers' = left.1.1.0 in
    let lanes = args.1.1.1.0 in
    let lanes' = left.1.1.1.0 in
    let words = args.1.1.1.1.0 in
    let words' = left.1.1.1.1.0 in
    let text = args.1.1.1.1.1.0 in
    let text' = left.1.1.1.1.1.0 in
    ToLines bytes.now (lists kinds.now registers.now lanes.now words.now) text.now o
    (lists kinds'.now registers'.now lanes'.now words'.now) text'.now)
bytes_to_lines_contract = record { takes_any = λ κs args. tt; says = λ κs args o left p. p }
