-- What was left, said of any salvage that is done: nothing, if the string is sound; else the next record is bad, with the refusal reported,
-- and the reader says so too.
use Prim.Native.Nat.{ℕ, ◌-◌}
use native.Mathlib.Omega.{arith}
use mathlib.Core.Path.{◌≡◌, refl, sym, ap, ◌∙◌, subst}
use mathlib.Core.List.{List, [], ◌∷◌}
use mathlib.Core.Logic.{◌↔◌, ◌≢◌}
use lib.ListN.{length, drop}
use Rattle.transcript_spec.specs.InPlainWords.{Sound, nothing, BadRecord}
use Rattle.transcript_spec.specs.InPlainWords as format
use Rattle.transcript_spec.specs.Lists.{Lists, size}
use Rattle.transcript_spec.specs.Reading.{entries_read, ReadTranscript}
use Rattle.transcript_spec.specs.declared.Entry.{Entry}
use Rattle.transcript_spec.specs.declared.Transcribed.{Transcribed}
use Rattle.transcript_spec.proofs.Promised.{reader_exactly}
use Rattle.transcript_spec.proofs.ReadExactly.{sound_exactly}
use Rattle.salvage_spec.specs.InPlainWords.{SalvagedAll}
use Rattle.salvage_spec.specs.Salvage.{run, rest, SalvagedTranscript}
use Rattle.salvage_spec.specs.declared.Salvaged.{Salvaged}
use Rattle.salvage_spec.proofs.Divides.{Found}
use Rattle.salvage_spec.proofs.Longest.{next_is_bad, left_exactly, stopped_as_read}
use Rattle.salvage_spec.proofs.WhatWasWritten.{done, parts, kept_length, is_left}

module _ {s out : List ℕ} {o : Salvaged} {out' : List ℕ} (p : SalvagedTranscript s out o out') (z : o.number ≡ 0) where
  abbrev all : SalvagedAll s out o out'
  all = done p z

  found : Found s all.entries all.kept all.left o.stop
  found = parts p z

  -- The next record behind what was kept, if any, is bad, with the refusal that is reported.
  pub next_record_bad : o.left ≢ 0 → BadRecord (drop (length s - o.left) s) o.stop
  next_record_bad d =
      subst (λ (u : List ℕ). BadRecord u o.stop) (found.left ∙ sym (is_left p z))
      (subst (BadRecord (rest s)) found.refusal
      (next_is_bad s (λ e. d (all.bytes_left ∙ ap length (sym found.left ∙ e)))))

  -- The reader refuses the whole string with what is reported, if that is not 0, and names the place where the run ends.
  pub reader_says_so : {l l' : Lists} {a : Transcribed} → ReadTranscript s l a l' → o.stop ≢ 0 →
      a ≡ format.answer o.stop 0 (length s - o.left)
  reader_says_so {l} q d =
      q.answer
      ∙ stopped_as_read s (size l) (λ e. d (sym found.refusal ∙ e))
      ∙ ap (λ (n : ℕ). format.answer n 0 (length (run s))) found.refusal
      ∙ ap (format.answer o.stop 0) (ap length found.kept ∙ kept_length p z)

  -- The reader refuses what was left alone, if anything, with the refusal that is reported, at its first byte.
  pub reader_says_there : {l l' : Lists} {a : Transcribed} → ReadTranscript (drop (length s - o.left) s) l a l' → o.left ≢ 0 →
      a ≡ format.answer o.stop 0 0
  reader_says_there q d = (reader_exactly q (format.answer o.stop 0 0)).1 (format.ReadAs.bad_record refl nothing (next_record_bad d))

  -- Of a salvage that is done, nothing is left exactly if no refusal is reported.
  pub left_by_stop : o.left ≡ 0 ↔ (o.stop ≡ 0)
  left_by_stop = (
    λ e. sym found.refusal ∙ (left_exactly s).0 (found.left ∙ no_bytes all.left (sym all.bytes_left ∙ e)),
    λ e. all.bytes_left ∙ ap length (sym found.left ∙ (left_exactly s).1 (found.refusal ∙ e)),
  )
    where
      no_bytes : (l : List ℕ) → length l ≡ 0 → l ≡ []
      no_bytes [] e = refl
      no_bytes (b ∷ l) e = absurd (omega arith)

  -- Of a salvage that is done, nothing is left exactly if the string is sound.
  pub left_by_soundness : o.left ≡ 0 ↔ ((es : List Entry) × Sound s es)
  left_by_soundness = (
    λ e. (entries_read s, (sound_exactly s (entries_read s)).1 (found.refusal ∙ left_by_stop.0 e, refl)),
    λ q. left_by_stop.1 (sym found.refusal ∙ ((sound_exactly s q.0).0 q.1).0),
  )
