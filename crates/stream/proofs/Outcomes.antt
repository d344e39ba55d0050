-- What a delivery leaves, by the tests that it came through: refused, with stream and lists as they were, or its entries put into the
-- lists. And what the end answers.
use Prim.Native.Nat.{ℕ, ◌+◌, ◌≤◌, ◌<◌}
use native.Mathlib.Omega.{arith}
use mathlib.Core.Path.{◌≡◌, refl, sym, ap, ◌∙◌}
use mathlib.Core.Bool.{true, false}
use mathlib.Core.List.{List, []}
use lib.ListN.{length}
use Rattle.transcript_spec.specs.Lists.{Lists, size, with_each}
use Rattle.transcript_spec.specs.Reading.{Reading, at}
use Rattle.transcript_spec.proofs.Elsewhere.{elsewhere, reads_elsewhere}
use Rattle.transcript_spec.proofs.Filled.{each_fits}
use Rattle.transcript_spec.proofs.HowFar.{goes_further}
use Rattle.transcript_scan.specs.Scan.{read_on, scanned_on}
use Rattle.transcript_scan.specs.declared.scanning.ScannedOn.{ScannedOn}
use Rattle.stream_spec.specs.InPlainWords.{ended_before, too_long, too_small}
use Rattle.stream_spec.specs.Stream.{heard, streamed, answered, end_answered, end_answer, TookDelivery}
use Rattle.stream_spec.specs.declared.Stream.{Stream}
use Rattle.stream_spec.specs.declared.Streamed.{Streamed}
use Rattle.stream_spec.proofs.Outcomes.{takes_in, comes_exactly}
use Rattle.stream_spec.proofs.TheEnd.{ends_by}
use Rattle.stream.specs.Parts.{told_of, Within}

-- an outcome whose answer and lists are those of another is allowed too
alike : {st : Stream} {s : List ℕ} {l l' k : Lists} {o a : Streamed} → TookDelivery st s l a k → o ≡ a → l' ≡ k → TookDelivery st s l o l'
alike p e f = record { answer = e ∙ p.answer; lists = f ∙ p.lists }

module _ (st : Stream) (s : List ℕ) where
  -- the scan counts from the delivery's start, the stream from its own
  heard_found : heard st s ≡ elsewhere [] st.from st.taken (read_on st.part s)
  heard_found = reads_elsewhere [] st.from st.taken st.part s

  -- Where the delivery stays within 4,294,967,295 bytes of the stream, so does what was found in it.
  pub found_within : {f : ScannedOn} → f ≡ scanned_on st.part s → st.taken + length s ≤ 4294967295 → Within st f
  found_within e h =
      let far = goes_further (at [] 0 0 st.part 0) s in
      let place : (read_on st.part s).from ≤ (read_on st.part s).next = far.behind (omega arith) in
      rw e (record { place = omega (arith, far.most, place); next = omega (arith, far.most) })

  module _ (l : Lists) where
    -- ---- not looked through

    -- A delivery to a stream that has ended is refused with 25, and leaves stream and lists.
    pub refused_ended : {o : Streamed} → st.ended ≡ true → o ≡ streamed 25 0 0 st → TookDelivery st s l o l
    refused_ended z e = alike (comes_exactly.1 (ended_before z)) e refl

    -- A delivery that would take a stream that goes on past 4,294,967,295 bytes is refused with 26, and leaves stream and lists.
    pub refused_long : {o : Streamed} → st.ended ≡ false → 4294967295 < st.taken + length s → o ≡ streamed 26 0 0 st →
        TookDelivery st s l o l
    refused_long z h e = alike (comes_exactly.1 (too_long z h)) e refl

    -- ---- looked through
    module _ {f : ScannedOn} (still : st.ended ≡ false) (short : st.taken + length s ≤ 4294967295) (found : f ≡ scanned_on st.part s)
      where
        entries_found : f.entries ≡ length (heard st s).got
        entries_found =
            ap (λ (x : ScannedOn). x.entries) found ∙ sym (ap (λ (r : Reading). length r.got) heard_found)

        -- A delivery whose good records are more than the lists have places for is refused with 24, and leaves stream and lists.
        pub refused_small : {o : Streamed} → size l < f.entries → o ≡ streamed 24 0 0 st → TookDelivery st s l o l
        refused_small h e = alike (comes_exactly.1 (too_small still short (omega (arith, entries_found)))) e refl

        -- A delivery whose good records fit the lists is answered by what was found in it, and these are put into the lists.
        pub taken_in : {o : Streamed} {l' : Lists} → f.entries ≤ size l → l' ≡ with_each l 0 (read_on st.part s).got →
            o ≡ told_of st f → TookDelivery st s l o l'
        taken_in h p e =
            let fits : length (heard st s).got ≤ size l = omega (arith, entries_found) in
            alike (takes_in st s l still short fits)
            (e ∙ ap (told_of st) found ∙ ap answered (sym heard_found))
            (p ∙ ap (λ (r : Reading). with_each l 0 r.got) (sym heard_found) ∙ each_fits (heard st s).got l fits)

-- ---- the end
module _ (st : Stream) {o : Streamed} where
  -- The end of a stream that has ended is refused with 25, and the stream stays as it was.
  pub end_refused : st.ended ≡ true → o ≡ streamed 25 0 0 st → o ≡ end_answer st
  end_refused z e = e ∙ sym (ends_by st z)

  -- The end of a stream that goes on ends it, with the refusal of its part, or 0.
  pub end_taken : st.ended ≡ false → o ≡ end_answered st → o ≡ end_answer st
  end_taken z e = e ∙ sym (ends_by st z)
