-- `transcript::writing::put_records` meets its contract: at each entry the bytes lack just the records of those that are left.
use Prim.Native.Nat.{ℕ, ◌+◌, ◌≤◌}
use native.Mathlib.Omega.{arith}
use mathlib.Core.Path.{◌≡◌, refl, ap, ◌∙◌}
use mathlib.Core.List.{List, [], ◌∷◌, ◌++◌}
use lib.ListN.{length, length-append}
use Rattle.transcript_spec.specs.Format.{record_of, transcript_of}
use Rattle.transcript_spec.specs.InPlainWords.{AllGood}
use Rattle.transcript_spec.specs.Lists.{Lists, entries_in, over}
use Rattle.transcript_spec.specs.declared.Entry.{Entry}
use Rattle.transcript.specs.WriterParts.{Put, Writable}
use Rattle.transcript.proofs.Putting.{sets_behind, put_length, put_front}
use Rattle.transcript.proofs.writing.put_records.Invariants.{Writing}
use Rattle.transcript.proofs.writing.put_records.Goals as goal

begun : {l : Lists} {bytes : List ℕ} {es : List Entry} → es ≡ entries_in l → Writable l bytes → Writing (entries_in l) bytes bytes 0 es
begun {l} {bytes} all w =
    rw all
    (record {
      room = refl;
      good = w.good;
      fits = omega (arith, w.fits);
      same = put_front bytes (transcript_of (entries_in l)) w.fits;
    })

module _ {es : List Entry} {bytes₀ bytes : List ℕ} {at : ℕ} {left : List Entry} (w : Writing es bytes₀ bytes at left) where
  module _ {e : Entry} {left' : List Entry} (next : left ≡ e ∷ left') where
    abbrev rest : List ℕ
    rest = transcript_of left'

    text : transcript_of left ≡ record_of e ++ rest
    unfolding transcript_of
    text = ap transcript_of next

    long : length (transcript_of left) ≡ length (record_of e) + length rest
    long = ap length text ∙ length-append (record_of e) rest

    -- what the record asks for
    is_good : AllGood (e ∷ left')
    is_good = rw next at w.good

    has_room : at + length (record_of e) ≤ length bytes
    has_room = omega (arith, w.fits, w.room, long)

    -- one record more
    turned : {at' : ℕ} {bytes' : List ℕ} → Put bytes at (record_of e) at' bytes' → Writing es bytes₀ bytes' at' left'
    turned p =
        record {
          room = put_length p ∙ w.room;
          good = is_good.1;
          fits = omega (arith, w.fits, long, p.end);
          same = rw (p.end, p.bytes) (sets_behind bytes at (record_of e) rest ∙ rw text at w.same);
        }

  -- all of them
  ended : left ≡ [] → bytes ≡ over (transcript_of es) bytes₀
  unfolding transcript_of
  ended none = rw none at w.same

pub loop-e-init : goal.loop-e-init
loop-e-init c =
    begun (rw c.into_iter-e-iterator.ensures.into_iter_gives c.entries-e-items.ensures.all) c.requires

pub put_record-at-requires : goal.put_record-at-requires
put_record-at-requires c =
    let w = c.loop-e.invariant in
    let next = c.in-Some.ensures.steps in
    ((is_good w next).0, has_room w next)

pub loop-e-preserved : goal.loop-e-preserved
loop-e-preserved c = turned c.loop-e.invariant c.in-Some.ensures.steps c.put_record-at.ensures

pub returns : goal.returns
returns c = ended c.loop-e.invariant c.in-None.ensures.steps.0
