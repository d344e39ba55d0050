-- Round trips of lists and strings: reading what was written gives the list, and writing what was read gives the string, whatever the
-- list and whatever the string.
use Prim.Native.Nat.{ℕ}
use mathlib.Core.Path.{◌≡◌, refl, sym, ap, ◌∙◌}
use mathlib.Core.List.{List}
use Rattle.words.specs.Bytes.{AreBytes}
use Rattle.transcript_spec.specs.Format.{transcript_of}
use Rattle.transcript_spec.specs.InPlainWords.{AllGood}
use Rattle.transcript_spec.specs.Reading.{entries_read, refusal_read}
use Rattle.transcript_spec.specs.declared.Entry.{Entry}
use Rattle.transcript_spec.proofs.OneEncoding.{transcript_sound, sound_is}
use Rattle.transcript_spec.proofs.ReadExactly.{sound_exactly}

-- Reading what was written of good entries gives these entries, and no refusal.
pub reads_back : (es : List Entry) → AllGood es → (refusal_read (transcript_of es) ≡ 0) × (entries_read (transcript_of es) ≡ es)
reads_back es g = (sound_exactly (transcript_of es) es).0 (transcript_sound es g)

-- Writing what was read without a refusal gives the string, and the entries are good.
pub writes_back : (s : List ℕ) → AreBytes s → refusal_read s ≡ 0 → (transcript_of (entries_read s) ≡ s) × AllGood (entries_read s)
writes_back s b z =
    let q = sound_is s (entries_read s) b ((sound_exactly s (entries_read s)).1 (z, refl)) in
    (sym q.1, q.0)

-- Two strings that are read without a refusal to the same entries are the same.
pub same_entries_same_bytes : (s t : List ℕ) → AreBytes s → AreBytes t → refusal_read s ≡ 0 → refusal_read t ≡ 0 →
    entries_read s ≡ entries_read t → s ≡ t
same_entries_same_bytes s t a b p q e = sym (writes_back s a p).0 ∙ ap transcript_of e ∙ (writes_back t b q).0

-- Two lists of good entries with the same bytes are the same.
pub same_bytes_same_entries : (xs ys : List Entry) → AllGood xs → AllGood ys → transcript_of xs ≡ transcript_of ys → xs ≡ ys
same_bytes_same_entries xs ys g h e = sym (reads_back xs g).1 ∙ ap entries_read e ∙ (reads_back ys h).1
