-- `transcript::records::count_bytes` meets its contract: the groups of the head and, for a write, those of the word.
use native.Mathlib.Omega.{arith}
use Rattle.transcript_spec.proofs.Groups.{few_groups}
use Rattle.transcript_spec.proofs.RecordBytes.{length_of_write, of_other}
use Rattle.transcript.proofs.records.count_bytes.Goals as goal

pub head_of-requires : goal.head_of-requires
head_of-requires c = c.requires

pub overflow_add-result : goal.overflow_add-result
overflow_add-result c =
    let few = few_groups c.head_of.result in
    let few2 = few_groups c.args.e.word in
    omega (arith, c.count_groups-head.ensures, c.count_groups.ensures, few, few2)

pub returns-then-e-eq1 : goal.returns-then-e-eq1
returns-then-e-eq1 c =
    let e = c.args.e in
    let head = rw c.head_of.ensures at c.count_groups-head.ensures in
    rw (length_of_write e c.if-e-eq1.true, head, c.count_groups.ensures)

pub returns : goal.returns
returns c =
    let e = c.args.e in
    let head = rw c.head_of.ensures at c.count_groups-head.ensures in
    rw (of_other e c.if-e-eq1.false) head
