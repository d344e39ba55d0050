-- Any two outcomes that the statement of a call allows are one.
use Prim.Native.Nat.{ℕ}
use mathlib.Core.Path.{◌≡◌}
use mathlib.Core.List.{List}
use Rattle.words.proofs.One.{one_value}
use Rattle.transcript_spec.specs.Lists.{Lists}
use Rattle.transcript_spec.specs.Reading.{ReadTranscript}
use Rattle.transcript_spec.specs.Writing.{WroteTranscript}
use Rattle.transcript_spec.specs.declared.Transcribed.{Transcribed}

-- A writing has one outcome.
pub one_wrote : {l : Lists} {out : List ℕ} {o p : Transcribed} {out' out'' : List ℕ} →
    WroteTranscript l out o out' → WroteTranscript l out p out'' → (o ≡ p) × (out' ≡ out'')
one_wrote p q = (one_value p.answer q.answer, one_value p.bytes q.bytes)

-- A reading has one outcome.
pub one_read : {s : List ℕ} {l : Lists} {o p : Transcribed} {l' l'' : Lists} →
    ReadTranscript s l o l' → ReadTranscript s l p l'' → (o ≡ p) × (l' ≡ l'')
one_read p q = (one_value p.answer q.answer, one_value p.lists q.lists)
