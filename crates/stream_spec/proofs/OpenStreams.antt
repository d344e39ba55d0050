-- An open stream, record by record: what it stands for, and that a delivery to it is read as the begun record and the delivery together
-- are.
use Prim.Native.Nat.{ℕ, ◌+◌}
use native.Mathlib.Nat.{zero-add, add_assoc}
use native.Mathlib.Omega.{arith}
use mathlib.Core.Path.{◌≡◌, refl, sym, ap, ◌∙◌, subst}
use mathlib.Core.Bool.{Bool, true, false, cond}
use mathlib.Core.List.{List, [], ◌++◌, append-nil}
use mathlib.Core.Logic.{◌≢◌, inl, inr, ⊎_elim}
use lib.Dec.{eqb}
use lib.ListN.{length, length-append}
use Rattle.transcript_spec.specs.InPlainWords.{Sound, nothing, BadRecord}
use Rattle.transcript_spec.specs.Reading.{fresh, Reading, at, start, feeds, cut_off, ended}
use Rattle.transcript_spec.specs.declared.Entry.{Entry}
use Rattle.transcript_spec.specs.declared.Part.{Part}
use Rattle.transcript_spec.proofs.Divided.{Divided, all_good, then_bad, divided}
use Rattle.transcript_spec.proofs.Elsewhere.{elsewhere, feeds_joined, reads_elsewhere}
use Rattle.transcript_spec.proofs.HowFar.{EarlyRefusal, early_refusal, goes_further, ends_good, ends_bad}
use Rattle.transcript_spec.proofs.ReadExactly.{reads_sound, reads_bad}
use Rattle.transcript_spec.proofs.ThroughRecords.{between, adds_entries}
use Rattle.stream_spec.specs.OpenStreams.{Begun, within, OpenAt}
use Rattle.stream_spec.specs.OpenStreams as plain
use Rattle.stream_spec.specs.Stream.{heard}
use Rattle.stream_spec.specs.declared.Stream.{Stream}
use Rattle.stream_spec.proofs.OneTurn.{read, stands_for}
use Rattle.stream_spec.proofs.Resumed.{open_if_good}
use Rattle.stream_spec.proofs.TheEnd.{zero_or_20}

-- ---- bytes of a record that is not whole

-- A string that is refused with 20 at its end is not refused before.
pub not_refused : (r : Reading) → EarlyRefusal r.refusal → ended r ≡ 20 → (r.refusal ≡ 0) × (cut_off r.part ≡ 20)
not_refused r (inl z) e = (z, sym (ends_good r z) ∙ e)
not_refused r (inr h) e =
    let n = sym (ends_bad r (λ z. omega (arith, h.0, z))) ∙ e in
    absurd (omega (arith, h.0, n))

-- A string that is not refused before its end is refused with 20 there, if at all.
pub cut_at_end : (r : Reading) (n : ℕ) → r.refusal ≡ 0 → ended r ≡ n → n ≢ 0 → n ≡ 20
cut_at_end r n z e d =
    let c = sym (ends_good r z) ∙ e in
    ⊎_elim (λ q. absurd (d (sym c ∙ q))) (λ q. sym c ∙ q) (zero_or_20 r.part)

-- good records t, those of the entries es, and u, what there is of the next one, are read
pub record ReadTo (t u : List ℕ) (es : List Entry) (r : Reading) : Type 0 where
  pub got : r.got ≡ es
  pub from : r.from ≡ length t
  pub next : r.next ≡ length (t ++ u)
  pub refusal : r.refusal ≡ 0

all_read : (s : List ℕ) → (read s).refusal ≡ 0 → (read s).next ≡ length s
all_read s z = (goes_further start s).all z ∙ zero-add (length s)

-- Good records, and what there is of the next one, are read to their end, and nothing is refused.
pub reads_to : (t u : List ℕ) (es : List Entry) → Sound t es → Begun u → ReadTo t u es (read (t ++ u))
reads_to t _ es q plain.Begun.between =
    let e : read (t ++ []) ≡ between es (length t) = ap read (append-nil t) ∙ reads_sound t es q in
    record {
      got = ap (λ (r : Reading). r.got) e;
      from = ap (λ (r : Reading). r.from) e;
      next = ap (λ (r : Reading). r.next) e ∙ ap length (sym (append-nil t));
      refusal = ap (λ (r : Reading). r.refusal) e;
    }
reads_to t u es q (within b) =
    let x = reads_bad (t ++ u) t u es 20 refl q b in
    let z = (not_refused (read (t ++ u)) (early_refusal start (t ++ u) (inl refl)) x.refusal).0 in
    record { got = x.entries; from = x.place; next = all_read (t ++ u) z; refusal = z }

-- its part is what the bytes of the next record make, whatever lies before them
same_part : (t u : List ℕ) (es : List Entry) → Sound t es → (read (t ++ u)).part ≡ (read u).part
same_part t u es q =
    ap (λ (r : Reading). r.part) (adds_entries [] 0 t u es q ∙ reads_elsewhere es (0 + length t) (0 + length t) fresh u)

same_stream : {p p' : Part} {f f' n n' : ℕ} {b b' : Bool} → p ≡ p' → f ≡ f' → n ≡ n' → b ≡ b' →
    ◌≡◌ {A = Stream} (record { part = p; from = f; taken = n; ended = b }) (record { part = p'; from = f'; taken = n'; ended = b' })
same_stream x y z w i = record { part = x i; from = y i; taken = z i; ended = w i }

-- An open stream stands for the bytes that it has read.
pub stands_open : {t u : List ℕ} {st : Stream} → OpenAt t u st → (st ≡ stands_for (t ++ u)) × ((read (t ++ u)).refusal ≡ 0)
stands_open {t} {u} {st} a =
    let x = reads_to t u a.entries a.good a.begun in (
      same_stream (a.part ∙ sym (same_part t u a.entries a.good)) (a.from ∙ sym x.from) (a.taken ∙ sym x.next)
          (a.goes_on ∙ sym (open_if_good (read (t ++ u)) x.refusal)),
      x.refusal,
    )

-- Good records and what there is of the next one make an open stream.
pub opened : (t u : List ℕ) (es : List Entry) → Sound t es → Begun u → OpenAt t u (stands_for (t ++ u))
opened t u es q b =
    let x = reads_to t u es q b in
    record {
      entries = es;
      good = q;
      begun = b;
      part = same_part t u es q;
      from = x.from;
      taken = x.next;
      goes_on = open_if_good (read (t ++ u)) x.refusal;
    }

-- Every stream that stands for some bytes and goes on has read good records, and what there is of the next one.
pub opens : (s : List ℕ) → (read s).refusal ≡ 0 → (t : List ℕ) × (u : List ℕ) × (s ≡ t ++ u) × OpenAt t u (stands_for s)
opens s z = by_parts (divided s)
  where
    at_parts : (t u : List ℕ) (es : List Entry) → s ≡ t ++ u → Sound t es → Begun u →
        (t : List ℕ) × (u : List ℕ) × (s ≡ t ++ u) × OpenAt t u (stands_for s)
    at_parts t u es e q b = (t, u, e, subst (λ (l : List ℕ). OpenAt t u (stands_for l)) (sym e) (opened t u es q b))

    by_parts : Divided s → (t : List ℕ) × (u : List ℕ) × (s ≡ t ++ u) × OpenAt t u (stands_for s)
    by_parts (all_good es q) = at_parts s [] es (sym (append-nil s)) q plain.Begun.between
    by_parts (then_bad es t u n e q b) =
        let x = reads_bad s t u es n e q b in
        at_parts t u es e q (within (subst (BadRecord u) (cut_at_end (read s) n z x.refusal x.refuses) b))

-- ---- a delivery

-- what is read of a string behind i bytes, of which k are those of its first record, is what is read behind these k, but for the places
further : (p : Part) (s : List ℕ) (i k : ℕ) →
    feeds (at [] i (i + k) p 0) s ≡
    at (feeds (at [] 0 k p 0) s).got (i + (feeds (at [] 0 k p 0) s).from) (i + (feeds (at [] 0 k p 0) s).next)
    (feeds (at [] 0 k p 0) s).part
    (feeds (at [] 0 k p 0) s).refusal
further p s i k =
    let r = feeds (at [] 0 0 p 0) s in
    let places : (b : Bool) → cond b i (i + k + r.from) ≡ i + cond b 0 (k + r.from) = λ b. moved b r.from in
    reads_elsewhere [] i (i + k) p s
    ∙ ap (λ (x : ℕ). at r.got x (i + k + r.next) r.part r.refusal) (places (eqb (length r.got) 0))
    ∙ ap (λ (x : ℕ). at r.got (i + (elsewhere [] 0 k r).from) x r.part r.refusal) (add_assoc i k r.next)
    ∙ ap (λ (y : Reading). at y.got (i + y.from) (i + y.next) y.part y.refusal) (sym (reads_elsewhere [] 0 k p s))
  where
    moved : (b : Bool) (f : ℕ) → cond b i (i + k + f) ≡ i + cond b 0 (k + f)
    moved true f = omega arith
    moved false f = add_assoc i k f

module _ {t u : List ℕ} {st : Stream} (a : OpenAt t u st) (s : List ℕ) where
  -- the begun record by itself, and the delivery behind it
  behind_begun : feeds (at [] 0 (length u) (read u).part 0) s ≡ read (u ++ s)
  behind_begun =
      let x = reads_to [] u [] nothing a.begun in
      (λ i. feeds (at (sym x.got i) (sym x.from i) (sym x.next i) (read u).part (sym x.refusal i)) s) ∙
      sym (feeds_joined start u s)

  -- The record that is begun and the delivery are read together, behind the good records t.
  pub heard_together : heard st s ≡
      at (read (u ++ s)).got (length t + (read (u ++ s)).from) (length t + (read (u ++ s)).next) (read (u ++ s)).part
      (read (u ++ s)).refusal
  heard_together =
      let taken = a.taken ∙ length-append t u in
      (λ i. feeds (at [] (a.from i) (taken i) (a.part i) 0) s)
      ∙ further (read u).part s (length t) (length u)
      ∙ ap (λ (r : Reading). at r.got (length t + r.from) (length t + r.next) r.part r.refusal) behind_begun
