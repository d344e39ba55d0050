-- `transcript::writing::judge` meets its contract: at place i all the entries are judged as those that are left, with the bytes wanted
-- so far. A record has at most four bytes, and there are fewer than 2^62 entries, so that the sum can't wrap.
use Rattle.std.proofs.Common.{ℕ, ◌≡◌, ◌+◌, ◌*◌, ◌≤◌, ◌<◌, ◌^◌, List, length}
use Rattle.std.specs.Iterator.Adapters.{enumerate_source, enumerate_count}
use Rattle.transcript_spec.specs.Lists.{entries_in}
use Rattle.transcript_spec.specs.declared.Entry.{Entry}
use Rattle.transcript_lists.specs.Lent.{lists_of, entries_left}
use Rattle.transcript.specs.WriterParts.{judged}
use Rattle.transcript.proofs.writing.judge.Given as goal

pub record Judging (es : List Entry) (wanted i : ℕ) (left : List Entry) : Type 0 where
  pub most : i + length left < 2 ^ 62
  pub few : wanted ≤ 4 * i
  pub same : judged 0 0 es ≡ judged i wanted left

abbrev pub invariant-loop-i : goal.invariant-loop-i
invariant-loop-i l =
    let it = l.i-iterator in
    (goal.iterator-loop-i).can_next it ×
    (goal.iterator-loop-i).is_finite it ×
    Judging (entries_in (lists_of l.fn.list)) l.wanted (enumerate_count it) (entries_left (enumerate_source it))
