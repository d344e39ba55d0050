-- The two ways to turn, as one: what each leaves is what the way that is named leaves; what is turned fits the output, and may be written.
use Rattle.std.proofs.Common.{◌≡◌, ℕ, ◌≤◌, List, length, take, Result, Ok, sym, ap, ◌∙◌, subst}
use Rattle.transcript_spec.specs.Lists.{Lists}
use Rattle.transcript_exchange.specs.declared.NotTurned.{NotTurned}
use Rattle.transcript_exchange.specs.InNumbers.{turned_numbers}
use Rattle.transcript_exchange.proofs.Promised.{bytes_fit, lines_fit, to_bytes_done, to_lines_done}
use Rattle.transcript_command.specs.declared.Way.{Way}
use Rattle.transcript_command.specs.declared.Way.TheVariants.{Bytes, Lines}
use Rattle.transcript_command.specs.Ways.{TurnedTo, lines_turned, bytes_turned}
use Rattle.transcript_command.specs.Whole.{Writes, its_transcript, its_lines}

module _ {t : List ℕ} {l : Lists} {out : List ℕ} {o : Result ℕ NotTurned} {l' : Lists} {out' : List ℕ} where
  -- What is turned, either way, fits the output.
  pub turned_fits : {b : Way} → TurnedTo b t l out o l' out' → {k : ℕ} → o ≡ Ok k → k ≤ length out
  turned_fits (lines_turned x) e = bytes_fit x e
  turned_fits (bytes_turned x) e = lines_fit x e

  -- What is turned, either way, may be written: it is the transcript of the lines, or the lines of the transcript.
  pub turned_writes : {b : Way} → TurnedTo b t l out o l' out' → {k : ℕ} → o ≡ Ok k → Writes b t (take k out')
  turned_writes (lines_turned x) e =
      let done = to_bytes_done x (ap (λ (y : Result ℕ NotTurned). (turned_numbers y).number) e) in
      let count = ap (λ (y : Result ℕ NotTurned). (turned_numbers y).count) e in
      subst (Writes Bytes t) (sym done.3.bytes ∙ ap (λ (n : ℕ). take n out') count) (its_transcript done.1 done.2)
  turned_writes (bytes_turned x) e =
      let done = to_lines_done x (ap (λ (y : Result ℕ NotTurned). (turned_numbers y).number) e) in
      let count = ap (λ (y : Result ℕ NotTurned). (turned_numbers y).count) e in
      subst (Writes Lines t) (sym done.2.bytes ∙ ap (λ (n : ℕ). take n out') count) (its_lines done.1)
