-- `transcript::writing::put_records` meets its contract: at each entry the bytes lack just the records of those that are left.
use Rattle.std.proofs.Common.{ℕ, ◌≡◌, ◌+◌, ◌≤◌, List, length}
use Rattle.std.proofs.lemmas.List.Edits.{sets}
use Rattle.transcript_spec.specs.Format.{transcript_of}
use Rattle.transcript_spec.specs.InPlainWords.{AllGood}
use Rattle.transcript_spec.specs.Lists.{entries_in, over}
use Rattle.transcript_spec.specs.declared.Entry.{Entry}
use Rattle.transcript_lists.specs.Lent.{lists_of, entries_left}
use Rattle.transcript.proofs.writing.put_records.Given as goal

pub record Writing (es : List Entry) (bytes₀ bytes : List ℕ) (at : ℕ) (left : List Entry) : Type 0 where
  pub room : length bytes ≡ length bytes₀
  pub good : AllGood left
  pub fits : at + length (transcript_of left) ≤ length bytes₀
  pub same : sets bytes at (transcript_of left) ≡ over (transcript_of es) bytes₀

abbrev pub invariant-loop-e : goal.invariant-loop-e
invariant-loop-e l = Writing (entries_in (lists_of l.fn.list)) l.initial.bytes l.bytes l.at (entries_left l.e-iterator)
