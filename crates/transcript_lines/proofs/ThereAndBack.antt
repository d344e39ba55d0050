-- Lines that were taken, put again, are the text; entries that were put, taken again, are the list. What is lent for the way back is
-- what the way there filled: the first places of the lists, the first bytes of the text.
use Prim.Native.Nat.{ℕ, ◌≤◌}
use mathlib.Core.Path.{◌≡◌, refl, sym, ap, ◌∙◌, subst}
use mathlib.Core.List.{List, [], append-nil}
use lib.ListN.{length, take, drop}
use lib.Seq.{take_at}
use borrow.Author.Tests.{le-ltb}
use Rattle.std.specs.Prelude.{Result, Ok}
use Rattle.transcript_spec.specs.Lists.{Lists, size, entries_in, over, with_entries}
use Rattle.transcript_spec.specs.InPlainWords.{first_places}
use Rattle.transcript_spec.specs.declared.Entry.{Entry}
use Rattle.transcript_spec.proofs.Columns.{length_entries, entries_columns, first_are_columns}
use Rattle.transcript_lines.specs.Lines.{text_of, AllHaveLines}
use Rattle.transcript_lines.specs.Taking.{Taking, taking, taking_judged, take_answer, lists_after, TookLines}
use Rattle.transcript_lines.specs.Putting.{text_after, PutLines}
use Rattle.transcript_lines.specs.declared.NotTaken.{NotTaken}
use Rattle.transcript_lines.specs.declared.NotPut.{NotPut}
use Rattle.transcript_lines.proofs.Promised.{lists_filled, text_filled}
use Rattle.transcript_lines.proofs.TakenLines.{taken_back, nothing_there}
use Rattle.transcript_lines.proofs.TakeAnswers.{then_taken, take_answers}
use Rattle.transcript_lines.proofs.PutAnswers.{put_answers}

-- ---- entries that were put

-- The bytes that `put_lines` wrote are the lines of the list.
pub put_text : {l : Lists} {out out' : List ℕ} {n : ℕ} → PutLines l out (Ok n) out' → take n out' ≡ text_of (entries_in l)
put_text {l} {out} {out'} {n} p =
    let es = entries_in l in
    let m = (put_answers es (length out) (Ok n)).0 (sym p.answer) in
    ap (take n) (text_filled p refl) ∙ take_at (text_of es) (drop (length (text_of es)) out) n (sym m.1)

-- Entries that were put as lines, taken again into lists that have places for them, are the list.
pub take_after_put : {l k k' : Lists} {out out' : List ℕ} {n : ℕ} {o : Result ℕ NotTaken} →
    PutLines l out (Ok n) out' → TookLines (take n out') k o k' → size l ≤ size k →
    (o ≡ Ok (size l)) × (k' ≡ with_entries (entries_in l) k)
unfolding take_answer lists_after
take_after_put {l} {k} {out = out} {out' = out'} {n = n} {o = o} p q room =
    let es = entries_in l in
    let m = (put_answers es (length out) (Ok n)).0 (sym p.answer) in
    let all : taking (take n out') ≡ record { entries = es; left = [] } = ap taking (put_text p) ∙ taken_back es m.0 in
    let answer : take_answer (take n out') (size k) ≡ Ok (size l) =
    ap (λ (x : Taking). taking_judged x (size k)) all ∙ rw (length_entries l 0 (size l), le-ltb (size k) (size l) room) refl
    in
    (q.answer ∙ answer, q.lists ∙ rw answer (ap (λ (x : Taking). with_entries x.entries k) all))

-- ---- lines that were taken

-- Entries that stand in the first places are the list of these places.
first_entries : (es : List Entry) (l : Lists) {n : ℕ} → length es ≡ n → entries_in (first_places n (with_entries es l)) ≡ es
first_entries es l e =
    ap (λ (n : ℕ). entries_in (first_places n (with_entries es l))) (sym e) ∙
    ap entries_in (first_are_columns es l) ∙
    entries_columns es

-- The first places of the lists that `take_lines` filled, which are there, hold what was taken of the text.
pub took_entries : {t : List ℕ} {l l' : Lists} {n : ℕ} → TookLines t l (Ok n) l' →
    (n ≤ size l) × (entries_in (first_places n l') ≡ (taking t).entries)
took_entries {t} {l} {l'} {n} p =
    let m = (take_answers t (size l) (Ok n)).0 (sym p.answer) in
    let all = then_taken m.0 nothing_there in
    let count : length (taking t).entries ≡ n = ap (λ (x : Taking). length x.entries) all ∙ m.0.count in
    (m.1, ap (λ (k : Lists). entries_in (first_places n k)) (lists_filled p refl) ∙ first_entries (taking t).entries l count)

-- Lines can say the entries in the first places of the lists that `take_lines` filled, and their lines are the text.
pub took_text : {t : List ℕ} {l l' : Lists} {n : ℕ} → TookLines t l (Ok n) l' →
    AllHaveLines (entries_in (first_places n l')) × (text_of (entries_in (first_places n l')) ≡ t)
took_text {t} {l} {l'} {n} p =
    let m = (take_answers t (size l) (Ok n)).0 (sym p.answer) in
    let es = m.0.entries in
    let same : entries_in (first_places n l') ≡ es =
    (took_entries p).1 ∙ ap (λ (x : Taking). x.entries) (then_taken m.0 nothing_there) in
    (subst AllHaveLines (sym same) m.0.says, ap text_of same ∙ sym (m.0.is ∙ append-nil (text_of es)))

-- Lines that were taken, put again into bytes that have room for them, are the text.
pub put_after_take : {t : List ℕ} {l l' : Lists} {n : ℕ} {out out' : List ℕ} {o : Result ℕ NotPut} →
    TookLines t l (Ok n) l' → PutLines (first_places n l') out o out' → length t ≤ length out →
    (o ≡ Ok (length t)) × (out' ≡ over t out)
unfolding text_after
put_after_take {t} {l' = l'} {n = n} {out = out} p q room =
    let es = entries_in (first_places n l') in
    let text = took_text p in
    let answer = (put_answers es (length out) (Ok (length t))).1 (text.0, ap length (sym text.1), room) in
    (q.answer ∙ answer, q.text ∙ rw answer (ap (λ (u : List ℕ). over u out) text.1))
