-- Which input is turned, and what is written of it.
--   ReadToItsEnd read input   what was read into a buffer is the whole input: no read failed, and there is room left
--   Writes way t text         what may be written of an input t: of lines their transcript, of a transcript its lines
use Rattle.std.specs.Prelude.{ℕ, ◌<◌, List, length, Result, IsOk}
use Rattle.input.specs.Filling.{there}
use Rattle.input.specs.declared.Unread.{Unread}
use Rattle.transcript_spec.specs.Format.{transcript_of}
use Rattle.transcript_spec.specs.InPlainWords.{AllGood, Sound}
use Rattle.transcript_spec.specs.declared.Entry.{Entry}
use Rattle.transcript_lines.specs.Lines.{text_of}
use Rattle.transcript_exchange.specs.InPlainWords.{LinesOf}
use Rattle.transcript_command.specs.declared.Way.{Way}
use Rattle.transcript_command.specs.declared.Way.TheVariants.{Bytes, Lines}

abbrev pub ReadToItsEnd : Result ℕ Unread → List ℕ → Type 0
ReadToItsEnd read input = IsOk read × (there read < length input)

-- an input is written only if all of it is good
pub data Writes : Way → List ℕ → List ℕ → Type 0 where
  its_transcript : {t : List ℕ} {es : List Entry} → LinesOf t es → AllGood es → Writes Bytes t (transcript_of es)
  its_lines : {s : List ℕ} {es : List Entry} → Sound s es → Writes Lines s (text_of es)
