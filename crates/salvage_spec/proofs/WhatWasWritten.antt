-- What was written, said of any salvage that is done: it is the front of the string, sound, and no longer one is; what the reader says of
-- it, and a second salvage. And when it is done.
use Prim.Native.Nat.{ℕ, ◌-◌, ◌≤◌}
use native.Mathlib.Omega.{arith}
use mathlib.Core.Path.{◌≡◌, sym, ap, ◌∙◌, subst}
use mathlib.Core.List.{List, ◌++◌}
use mathlib.Core.Logic.{◌↔◌}
use lib.ListN.{length, take, drop, length-append}
use lib.Seq.{take-append_seam, drop-append_seam}
use Rattle.words.specs.Bytes.{AreBytes}
use Rattle.transcript_spec.specs.Format.{transcript_of}
use Rattle.transcript_spec.specs.InPlainWords.{Sound, first_places}
use Rattle.transcript_spec.specs.InPlainWords as format
use Rattle.transcript_spec.specs.Lists.{Lists, size, columns}
use Rattle.transcript_spec.specs.Reading.{entries_read, refusal_read, ReadTranscript}
use Rattle.transcript_spec.specs.declared.Entry.{Entry}
use Rattle.transcript_spec.specs.declared.Transcribed.{Transcribed}
use Rattle.transcript_spec.proofs.Bytes.{bytes_first}
use Rattle.transcript_spec.proofs.OneEncoding.{sound_is}
use Rattle.transcript_spec.proofs.Promised.{reader_exactly, reader_done}
use Rattle.transcript_spec.proofs.ReadExactly.{sound_exactly}
use Rattle.salvage_spec.specs.InPlainWords.{answer, SalvagedAll, written}
use Rattle.salvage_spec.specs.InPlainWords as plain
use Rattle.salvage_spec.specs.Salvage.{run, rest, SalvagedTranscript}
use Rattle.salvage_spec.specs.declared.Salvaged.{Salvaged}
use Rattle.salvage_spec.proofs.Divides.{Found, found, divides}
use Rattle.salvage_spec.proofs.Longest.{longest}
use Rattle.salvage_spec.proofs.Promised.{salvage_exactly, salvage_done}
use Rattle.salvage_spec.proofs.Unchanged.{comes_out_same}

-- Bytes as many as the damaged ones are always enough: the run is written, and the report speaks of all of the string.
pub fits_if_all_would : {s out : List ℕ} {o : Salvaged} {out' : List ℕ} → SalvagedTranscript s out o out' → length s ≤ length out →
    (o ≡ answer 0 (length (entries_read s)) (length (rest s)) (refusal_read s)) × (take (length (run s)) out' ≡ run s)
fits_if_all_would {s} {out} {o} {out'} p room =
    let n = ap length (divides s).all ∙ length-append (run s) (rest s) in
    let e =
    (salvage_exactly p (answer 0 (length (entries_read s)) (length (rest s)) (refusal_read s))).1
    (plain.SalvagedAs.done (divides s) (omega (arith, n, room))) in
    let x = salvage_done p (ap (λ (a : Salvaged). a.number) e) in
    (e, subst (λ (t : List ℕ). take (length t) out' ≡ t) (sym (found x.divides).kept) x.written)

-- A sound transcript that fits comes out the same, with nothing left and no refusal.
pub comes_out : {s out : List ℕ} {o : Salvaged} {out' : List ℕ} {es : List Entry} → SalvagedTranscript s out o out' → Sound s es →
    length s ≤ length out → (o ≡ answer 0 (length es) 0 0) × (take (length s) out' ≡ s)
comes_out {s} {out} {o} {out'} {es} p q room =
    let f = comes_out_same q in
    let x = fits_if_all_would p room in (
      x.0 ∙ rw (f.entries, f.left, f.refusal),
      subst (λ (t : List ℕ). take (length t) out' ≡ t) f.kept x.1,
    )

module _ {s out : List ℕ} {o : Salvaged} {out' : List ℕ} (p : SalvagedTranscript s out o out') (z : o.number ≡ 0) where
  -- ---- the parts of the string, by the answer

  -- A salvage that is done leaves what `SalvagedAll` says.
  pub done : SalvagedAll s out o out'
  done = salvage_done p z

  -- The parts that a salvage which is done reports are those that salvage finds.
  pub parts : Found s done.entries done.kept done.left o.stop
  parts = found done.divides

  -- As many bytes are kept as the string has and were not left.
  pub kept_length : length done.kept ≡ length s - o.left
  kept_length =
      let n = ap length done.divides.all ∙ length-append done.kept done.left in
      omega (arith, n, done.bytes_left)

  is_kept : written s o out' ≡ done.kept
  is_kept = ap (λ (n : ℕ). take n out') (sym kept_length) ∙ done.written

  -- The bytes behind those that were kept are those that were left.
  pub is_left : drop (length s - o.left) s ≡ done.left
  is_left =
      ap (λ (n : ℕ). drop n s) (sym kept_length)
      ∙ ap (drop (length done.kept)) done.divides.all
      ∙ drop-append_seam done.kept done.left

  -- ---- what was written
  -- The first of the bytes lent to a salvage that is done, as many as were not left, are the string's.
  pub first_written : take (length s - o.left) out' ≡ take (length s - o.left) s
  first_written =
      is_kept
      ∙ sym (take-append_seam done.kept done.left)
      ∙ ap (take (length done.kept)) (sym done.divides.all)
      ∙ ap (λ (n : ℕ). take n s) kept_length

  -- The bytes lent to a salvage that is done, behind those that it wrote, are as they were.
  pub later_stay : drop (length s - o.left) out' ≡ drop (length s - o.left) out
  later_stay = subst (λ (n : ℕ). drop n out' ≡ drop n out) kept_length done.later

  -- What a salvage that is done wrote is the front of the string.
  pub front : s ≡ written s o out' ++ drop (length s - o.left) s
  front =
      done.divides.all ∙ ap (λ (l : List ℕ). l ++ done.left) (sym is_kept) ∙ ap (λ (l : List ℕ). written s o out' ++ l) (sym is_left)

  -- What was written is sound: its records are the first ones of the string, as many as were kept.
  pub written_sound : Sound (written s o out') (entries_read s) × (length (entries_read s) ≡ o.kept)
  written_sound = (
    subst (λ (t : List ℕ). Sound t (entries_read s)) (sym is_kept)
        (subst (Sound done.kept) (sym parts.entries) done.divides.good),
    ap length parts.entries ∙ sym done.count,
  )

  -- What a salvage that is done wrote is what the writer makes of the records that were kept.
  pub as_the_writer : AreBytes s → written s o out' ≡ transcript_of (entries_read s)
  as_the_writer b =
      let parted : AreBytes (written s o out' ++ drop (length s - o.left) s) = λ i. rw (sym front) (b i) in
      (sound_is (written s o out') (entries_read s) (bytes_first (written s o out') (drop (length s - o.left) s) parted)
      written_sound.0).1

  -- No front of the string that is sound is longer than what was written.
  pub none_longer : (t v : List ℕ) {es : List Entry} → s ≡ t ++ v → Sound t es → length t ≤ length s - o.left
  none_longer t v e q =
      let l = longest s t v e q in
      let n = ap length parts.kept in
      omega (arith, l.0, n, kept_length)

  -- The reader accepts what was written, into any lists with as many places, and has the records that were kept.
  pub reads_kept : {l l' : Lists} {a : Transcribed} → ReadTranscript (written s o out') l a l' → o.kept ≤ size l →
      (a ≡ format.answer 0 o.kept 0) × (first_places o.kept l' ≡ columns (entries_read s))
  reads_kept {l} {l'} {a} q room =
      let x = written_sound in
      let e : a ≡ format.answer 0 o.kept 0 =
      (reader_exactly q (format.answer 0 (length (entries_read s)) 0)).1 (format.ReadAs.done x.0 (omega (arith, x.1)))
      ∙ ap (λ (n : ℕ). format.answer 0 n 0) x.1 in
      let r = reader_done q (ap (λ (y : Transcribed). y.number) e) in (
        e,
        ap (λ (n : ℕ). first_places n l') (sym (ap (λ (y : Transcribed). y.count) e)) ∙ r.entries
            ∙ ap columns ((sound_exactly (written s o out') (entries_read s)).0 x.0).1,
      )

  -- Salvaging what was written again, with room for it, leaves it as it is.
  pub again : {out₂ out₂' : List ℕ} {q : Salvaged} → SalvagedTranscript (written s o out') out₂ q out₂' →
      length (written s o out') ≤ length out₂ →
      (q ≡ answer 0 o.kept 0 0) × (take (length (written s o out')) out₂' ≡ written s o out')
  again p₂ room = let x = written_sound in (
    (comes_out p₂ x.0 room).0 ∙ ap (λ (n : ℕ). answer 0 n 0 0) x.1,
    (comes_out p₂ x.0 room).1,
  )

-- Salvage is done, and not refused, exactly if every front of the string that is good records fits the bytes that are lent.
pub done_exactly : {s out : List ℕ} {o : Salvaged} {out' : List ℕ} → SalvagedTranscript s out o out' →
    o.number ≡ 0 ↔ ((t v : List ℕ) (es : List Entry) → s ≡ t ++ v → Sound t es → length t ≤ length out)
done_exactly {s} p = (
  λ z t v es e q. let n = kept_length p z in omega (arith, none_longer p z t v e q, n, (done p z).fits),
  λ h.
      let d = divides s in
      ap (λ (a : Salvaged). a.number)
      ((salvage_exactly p (answer 0 (length (entries_read s)) (length (rest s)) (refusal_read s))).1
      (plain.SalvagedAs.done d (h (run s) (rest s) (entries_read s) d.all d.good))),
)
