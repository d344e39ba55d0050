-- Demand 1 for a delivery and for the end of an open stream, record by record: the number, the entries handed out and the place are these
-- exactly if the begun record and the delivery together, in plain words, say so (`AnsweredAs`, `EndedAs`).
use Prim.Native.Nat.{ℕ, ◌+◌, ◌≤◌}
use native.Mathlib.Omega.{arith}
use mathlib.Core.Path.{◌≡◌, refl, sym, ap, ◌∙◌, subst}
use mathlib.Core.Bool.{cond}
use mathlib.Core.List.{List, [], ◌++◌, append-nil, append_assoc}
use mathlib.Core.Logic.{◌↔◌, ◌≢◌, inl, inr, ⊎_elim}
use lib.ListN.{length, length-append}
use Rattle.std.proofs.lemmas.Bool.{cases_eq, cases_lt}
use Rattle.transcript_spec.specs.InPlainWords.{nothing, BadRecord}
use Rattle.transcript_spec.specs.Lists.{Lists, size}
use Rattle.transcript_spec.specs.Reading.{Reading, start, feeds, cut_off, ended}
use Rattle.transcript_spec.specs.declared.Entry.{Entry}
use Rattle.transcript_spec.proofs.Divided.{Divided, all_good, then_bad, divided, sound_joined}
use Rattle.transcript_spec.proofs.HowFar.{EarlyRefusal, early_refusal, ends_bad}
use Rattle.transcript_spec.proofs.ReadExactly.{reads_bad}
use Rattle.transcript_spec.proofs.ThroughRecords.{bad_record_number}
use Rattle.stream_spec.specs.InPlainWords.{answer, Came, handed, EndCame, shut, sent_back}
use Rattle.stream_spec.specs.InPlainWords as came
use Rattle.stream_spec.specs.OpenStreams.{Begun, between, within, OpenAt, Behind, Divides, AnsweredAs, AnswerSays, EndedAs}
use Rattle.stream_spec.specs.OpenStreams as plain
use Rattle.stream_spec.specs.Stream.{heard, end_answer, TookDelivery}
use Rattle.stream_spec.specs.declared.Stream.{Stream}
use Rattle.stream_spec.specs.declared.Streamed.{Streamed}
use Rattle.stream_spec.proofs.One.{one_delivery}
use Rattle.stream_spec.proofs.OneTurn.{read, stands_for, one_turn}
use Rattle.stream_spec.proofs.OpenStreams.{not_refused, cut_at_end, reads_to, stands_open, opened, heard_together}
use Rattle.stream_spec.proofs.Outcomes.{comes_exactly}
use Rattle.stream_spec.proofs.TheEnd.{ends_exactly}
use Rattle.stream_spec.proofs.Told.{handed_none, handed_all}

-- ---- a bad record that is not cut off is refused where it is judged
bad_read : (r : Reading) (n : ℕ) → EarlyRefusal r.refusal → ended r ≡ n → n ≢ 0 → n ≢ 20 →
    (r.refusal ≡ n) × (21 ≤ n) × (n ≤ 23)
bad_read r n (inl z) e d c = absurd (c (cut_at_end r n z e d))
bad_read r n (inr h) e d c =
    let k = sym (ends_bad r (λ z. omega (arith, h.0, z))) ∙ e in
    (k, omega (arith, h.0, k), omega (arith, h.1, k))

module _ {t u : List ℕ} {st : Stream} (a : OpenAt t u st) (s : List ℕ) where
  -- ---- what is heard, by how the bytes divide
  record Hears (es : List Entry) (v : List ℕ) (n : ℕ) : Type 0 where
    got : (heard st s).got ≡ es
    place : (heard st s).from ≡ length (t ++ v)
    refusal : (heard st s).refusal ≡ n

  hears : {v : List ℕ} {es : List Entry} {n : ℕ} → (read (u ++ s)).got ≡ es → (read (u ++ s)).from ≡ length v →
      (read (u ++ s)).refusal ≡ n → Hears es v n
  hears {v} g f r =
      let e = heard_together a s in
      record {
        got = ap (λ (x : Reading). x.got) e ∙ g;
        place = ap (λ (x : Reading). x.from) e ∙ ap (λ (i : ℕ). length t + i) f ∙ sym (length-append t v);
        refusal = ap (λ (x : Reading). x.refusal) e ∙ r;
      }

  hears_good : {v w : List ℕ} {es : List Entry} → Divides u s v w es → Begun w → Hears es v 0
  hears_good {v} {w} {es} d b =
      let x = reads_to v w es d.good b in
      let e = ap read d.all in
      hears (ap (λ (r : Reading). r.got) e ∙ x.got) (ap (λ (r : Reading). r.from) e ∙ x.from)
      (ap (λ (r : Reading). r.refusal) e ∙ x.refusal)

  hears_bad : {v w : List ℕ} {es : List Entry} {n : ℕ} → Divides u s v w es → BadRecord w n → n ≢ 20 →
      Hears es v n × (21 ≤ n) × (n ≤ 23)
  hears_bad {v} {w} {es} {n} d b c =
      let x = reads_bad (u ++ s) v w es n d.all d.good b in
      let y = bad_read (read (u ++ s)) n (early_refusal start (u ++ s) (inl refl)) x.refusal x.refuses c in
      (hears x.entries x.place y.0, y.1, y.2)

  entries_of : {v w : List ℕ} {es : List Entry} → Divides u s v w es → Behind w → (heard st s).got ≡ es
  entries_of d (plain.Behind.not_whole b) = (hears_good d b).got
  entries_of d (plain.Behind.bad b c) = (hears_bad d b c).0.got

  -- ---- each row decides the answer
  module _ {l l' : Lists} {o : Streamed} (p : TookDelivery st s l o l') where
    says_by : {b : Streamed} {k : Lists} {n place : ℕ} {es : List Entry} → Came st s l b k → AnswerSays b k n es place →
        AnswerSays o l' n es place
    says_by {b} {k} {n} {place} {es} c x =
        let same = one_delivery (comes_exactly.1 c) p in
        subst (λ (y : Lists). AnswerSays o y n es place) same.1 (subst (λ (y : Streamed). AnswerSays y k n es place) same.0 x)

    short : length (t ++ u) + length s ≤ 4294967295 → st.taken + length s ≤ 4294967295
    short h = omega (arith, a.taken)

    refused : (n : ℕ) → AnswerSays (answer n 0 0 st) l n [] 0
    refused n = record { number = refl; entries = handed_none n 0 st l; place_told = refl }

    row_says : {n place : ℕ} {es : List Entry} → AnsweredAs t u s (size l) n es place → AnswerSays o l' n es place
    row_says (plain.AnsweredAs.too_long h) = says_by (came.Came.too_long a.goes_on (omega (arith, a.taken))) (refused _)
    row_says (plain.AnsweredAs.too_small {es = es} h d b k) =
        let n = ap length (entries_of d b) in
        says_by (came.Came.too_small a.goes_on (short h) (omega arith)) (refused _)
    row_says (plain.AnsweredAs.taken_in {es = es} h d b k) =
        let x = hears_good d b in
        let n = ap length x.got in
        says_by (came.Came.taken_in a.goes_on (short h) (omega arith) x.refusal)
        (record { number = refl; entries = handed_all (heard st s) l ∙ x.got; place_told = refl })
    row_says (plain.AnsweredAs.then_bad {es = es} h d b c k) =
        let x = hears_bad d b c in
        let n = ap length x.0.got in
        says_by (came.Came.then_bad a.goes_on (short h) (omega arith) x.0.refusal x.1 x.2)
        (record { number = refl; entries = handed_all (heard st s) l ∙ x.0.got; place_told = x.0.place })

    -- ---- and one row or another holds
    some_row : (n : ℕ) × (es : List Entry) × (place : ℕ) × AnsweredAs t u s (size l) n es place
    some_row =
        ⊎_elim
        (λ h. (_, _, _, plain.AnsweredAs.too_long h))
        (λ h. by_parts h (divided (u ++ s)))
        (cases_lt 4294967295 (length (t ++ u) + length s))
      where
        whole : (h : length (t ++ u) + length s ≤ 4294967295) {v w : List ℕ} {es : List Entry} → Divides u s v w es → Begun w →
            (n : ℕ) × (es : List Entry) × (place : ℕ) × AnsweredAs t u s (size l) n es place
        whole h {es = es} d b =
            ⊎_elim
            (λ k. (_, _, _, plain.AnsweredAs.too_small h d (plain.Behind.not_whole b) k))
            (λ k. (_, _, _, plain.AnsweredAs.taken_in h d b k))
            (cases_lt (size l) (length es))

        broken : (h : length (t ++ u) + length s ≤ 4294967295) {v w : List ℕ} {es : List Entry} {n : ℕ} → Divides u s v w es →
            BadRecord w n → n ≢ 20 → (n : ℕ) × (es : List Entry) × (place : ℕ) × AnsweredAs t u s (size l) n es place
        broken h {es = es} d b c =
            ⊎_elim
            (λ k. (_, _, _, plain.AnsweredAs.too_small h d (plain.Behind.bad b c) k))
            (λ k. (_, _, _, plain.AnsweredAs.then_bad h d b c k))
            (cases_lt (size l) (length es))

        by_parts : length (t ++ u) + length s ≤ 4294967295 → Divided (u ++ s) →
            (n : ℕ) × (es : List Entry) × (place : ℕ) × AnsweredAs t u s (size l) n es place
        by_parts h (all_good es q) = whole h (record { all = sym (append-nil (u ++ s)); good = q }) between
        by_parts h (then_bad es v w n e q b) =
            let d : Divides u s v w es = record { all = e; good = q } in
            ⊎_elim (λ z. whole h d (within (subst (BadRecord w) z b))) (λ c. broken h d b c) (cases_eq n 20)

    -- A delivery to an open stream answers this number, hands out these entries and names this place exactly if the record u that is begun
    -- and the delivery together, as records, say so (`AnsweredAs`): 26, 24, 0, or the refusal of the first bad record and where it begins
    -- in the stream.
    pub answers_exactly : (n : ℕ) (es : List Entry) (place : ℕ) → AnswerSays o l' n es place ↔ AnsweredAs t u s (size l) n es place
    answers_exactly n es place = (
      λ z.
          let x = some_row in
          let y = row_says x.3 in
          subst (λ (k : ℕ). AnsweredAs t u s (size l) k es place) (sym y.number ∙ z.number)
          (subst (λ (k : List Entry). AnsweredAs t u s (size l) x.0 k place) (sym y.entries ∙ z.entries)
          (subst (λ (k : ℕ). AnsweredAs t u s (size l) x.0 x.1 k) (sym y.place_told ∙ z.place_told) x.3)),
      row_says,
    )

    -- ---- the stream afterwards

    -- it stands for the bytes of the delivery too, if nothing is refused
    stands_for_more : o.number ≡ 0 → o.stream ≡ stands_for ((t ++ u) ++ s)
    stands_for_more z =
        let turn = one_turn (t ++ u) s (subst (λ (x : Stream). Came x s l o l') (stands_open a).0 (comes_exactly.0 p)) in
        turn.stream ∙ ap (λ (n : ℕ). stands_for ((t ++ u) ++ cond (sent_back n) [] s)) z

    still_open : {v w : List ℕ} {es : List Entry} → o.number ≡ 0 → Divides u s v w es → Begun w → OpenAt (t ++ v) w o.stream
    still_open {v} {w} {es} z d b =
        let same : (t ++ u) ++ s ≡ (t ++ v) ++ w = append_assoc t u s ∙ ap (λ (x : List ℕ). t ++ x) d.all ∙ sym (append_assoc t v w) in
        subst (OpenAt (t ++ v) w) (sym (stands_for_more z ∙ ap stands_for same))
        (opened (t ++ v) w (a.entries ++ es) (sound_joined a.good d.good) b)

    -- If a delivery to an open stream is not refused, the stream is open behind the records that were handed out, and has what there is of
    -- the next one.
    pub goes_on_open : o.number ≡ 0 → (v : List ℕ) × (w : List ℕ) × Divides u s v w (handed o l') × OpenAt (t ++ v) w o.stream
    goes_on_open z =
        by_row ((answers_exactly o.number (handed o l') o.place).0 (record { number = refl; entries = refl; place_told = refl })) z
      where
        by_row : {n place : ℕ} {es : List Entry} → AnsweredAs t u s (size l) n es place → n ≡ 0 →
            (v : List ℕ) × (w : List ℕ) × Divides u s v w es × OpenAt (t ++ v) w o.stream
        by_row (plain.AnsweredAs.too_long h) e = absurd (omega arith)
        by_row (plain.AnsweredAs.too_small h d b k) e = absurd (omega arith)
        by_row (plain.AnsweredAs.taken_in h d b k) e = (_, _, d, still_open z d b)
        by_row (plain.AnsweredAs.then_bad {w = w} {n = n} h d b c k) e = absurd (bad_record_number w n b e)

-- ---- the end

end_row : {t u : List ℕ} {st : Stream} {n place : ℕ} → OpenAt t u st → EndedAs t u n place → end_answer st ≡ answer n 0 place (shut st)
unfolding feeds
end_row {st = st} a plain.EndedAs.nothing_missing =
    sym ((ends_exactly st).1 (came.EndCame.nothing_missing a.goes_on (ap cut_off a.part)))
end_row {t} {u} {st} a (plain.EndedAs.number_missing b) =
    let x = reads_bad u [] u [] 20 refl nothing b in
    let c = (not_refused (read u) (early_refusal start u (inl refl)) x.refusal).1 in
    sym ((ends_exactly st).1 (came.EndCame.number_missing a.goes_on (ap cut_off a.part ∙ c)))
    ∙ ap (λ (i : ℕ). answer 20 0 i (shut st)) a.from

some_end : {t u : List ℕ} → Begun u → (n : ℕ) × (place : ℕ) × EndedAs t u n place
some_end between = (_, _, plain.EndedAs.nothing_missing)
some_end (within b) = (_, _, plain.EndedAs.number_missing b)

-- The end of an open stream is 20, at the place of the record, exactly if one is begun, and else 0 (`EndedAs`).
pub end_answers_exactly : {t u : List ℕ} {st : Stream} → OpenAt t u st → (n place : ℕ) →
    end_answer st ≡ answer n 0 place (shut st) ↔ EndedAs t u n place
end_answers_exactly {t} {u} a n place = (
  λ e.
      let x = some_end a.begun in
      let same = sym (end_row a x.2) ∙ e in
      subst (λ (k : ℕ). EndedAs t u k place) (ap (λ (o : Streamed). o.number) same)
      (subst (EndedAs t u x.0) (ap (λ (o : Streamed). o.place) same) x.2),
  end_row a,
)
