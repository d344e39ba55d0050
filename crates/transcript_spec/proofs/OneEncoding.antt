-- One list has one encoding: the transcript of good entries is sound, and a sound string of bytes is the transcript of its entries.
use Prim.Native.Nat.{ℕ}
use native.Mathlib.Omega.{arith}
use mathlib.Core.Path.{◌≡◌, refl, sym, ap, ◌∙◌, subst}
use mathlib.Core.Bool.{Bool, true, false, cond}
use mathlib.Core.List.{List, [], ◌∷◌, ◌++◌}
use mathlib.Core.Logic.{⊎_elim}
use lib.Dec.{eqb}
use Rattle.words.specs.Bytes.{AreBytes}
use Rattle.std.proofs.lemmas.Bool.{cases_eq}
use Rattle.transcript_spec.specs.Format.{head_of, groups, record_of, transcript_of}
use Rattle.transcript_spec.specs.InPlainWords.{Good, AllGood, GoodRecord, a_read, a_write, Sound, nothing, and_more}
use Rattle.transcript_spec.specs.declared.Entry.{Entry}
use Rattle.transcript_spec.proofs.Bytes.{bytes_none, bytes_first, bytes_second, bytes_joined}
use Rattle.transcript_spec.proofs.Groups.{groups_say, groups_bytes, said_by_groups}
use Rattle.transcript_spec.proofs.Judged.{head_range}
use Rattle.transcript_spec.proofs.RecordBytes.{of_write, of_other}

-- ---- what is written is sound
-- The record of a good entry is a good record.
pub record_good : (e : Entry) → Good e → GoodRecord (record_of e) e
record_good e g =
    let r = head_range e g in
    let h = groups_say (head_of e) (omega arith) in
    ⊎_elim
    (λ z. subst (λ (s : List ℕ). GoodRecord s e) (sym (of_other e (λ o. omega arith))) (a_read g z h))
    (λ d.
    let o : e.kind ≡ 1 = omega (arith, g.kind, d) in
    subst (λ (s : List ℕ). GoodRecord s e) (sym (of_write e o)) (a_write g o h (groups_say e.word (omega (arith, g.word)))))
    (cases_eq e.kind 0)

-- The transcript of good entries is good records, theirs.
pub transcript_sound : (es : List Entry) → AllGood es → Sound (transcript_of es) es
unfolding transcript_of
transcript_sound [] g = nothing
transcript_sound (e ∷ es) g = and_more (record_good e g.0) (transcript_sound es g.1)

-- ---- and the other way round
-- The entries of good records are good.
good_entry : {s : List ℕ} {e : Entry} → GoodRecord s e → Good e
good_entry (a_read g z h) = g
good_entry (a_write g o p q) = g

-- The entries of good records are good.
pub good_entries : {s : List ℕ} {es : List Entry} → Sound s es → AllGood es
good_entries nothing = tt
good_entries (and_more g q) = (good_entry g, good_entries q)

-- A good record is that of its entry, and the entry is good.
pub good_record_is : (s : List ℕ) (e : Entry) → AreBytes s → GoodRecord s e → Good e × (s ≡ record_of e)
good_record_is s e b (a_read g z h) =
    let r = head_range e g in
    (g, said_by_groups s (head_of e) b h (omega arith) ∙ sym (of_other e (λ o. omega arith)))
good_record_is _ e b (a_write {h} {w} g o p q) =
    let r = head_range e g in
    let x = said_by_groups h (head_of e) (bytes_first h w b) p (omega arith) in
    let y = said_by_groups w e.word (bytes_second h w b) q (omega (arith, g.word)) in
    (g, ap (λ (l : List ℕ). l ++ w) x ∙ ap (λ (l : List ℕ). groups (head_of e) ++ l) y ∙ sym (of_write e o))

-- A string of bytes that is good records is the transcript of their entries, and these are good.
pub sound_is : (s : List ℕ) (es : List Entry) → AreBytes s → Sound s es → AllGood es × (s ≡ transcript_of es)
unfolding transcript_of
sound_is _ _ b nothing = (tt, refl)
sound_is _ _ b (and_more {r} {s} {e} {es} g q) =
    let x = good_record_is r e (bytes_first r s b) g in
    let y = sound_is s es (bytes_second r s b) q in
    ((x.0, y.0), ap (λ (l : List ℕ). l ++ s) x.1 ∙ ap (λ (l : List ℕ). record_of e ++ l) y.1)

-- ---- bytes
record_bytes : (e : Entry) → Good e → AreBytes (record_of e)
unfolding record_of
record_bytes e g =
    let r = head_range e g in
    bytes_joined (groups (head_of e)) (cond (eqb e.kind 1) (groups e.word) []) (groups_bytes (head_of e) (omega arith))
    (word (eqb e.kind 1))
  where
    word : (t : Bool) → AreBytes (cond t (groups e.word) [])
    word true = groups_bytes e.word (omega (arith, g.word))
    word false = bytes_none

-- What is written of good entries is bytes.
pub transcript_bytes : (es : List Entry) → AllGood es → AreBytes (transcript_of es)
unfolding transcript_of
transcript_bytes [] g = bytes_none
transcript_bytes (e ∷ es) g = bytes_joined (record_of e) (transcript_of es) (record_bytes e g.0) (transcript_bytes es g.1)

-- Two strings of bytes that are good records, of the same entries, are one.
pub one_encoding : (s t : List ℕ) (es : List Entry) → AreBytes s → AreBytes t → Sound s es → Sound t es → s ≡ t
one_encoding s t es a b p q = (sound_is s es a p).1 ∙ sym (sound_is t es b q).1
