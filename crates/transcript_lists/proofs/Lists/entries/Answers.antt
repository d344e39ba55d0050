-- `entries` meets its contract: the iterator starts at the first entry, and there are as many as the shortest list has numbers.
use Rattle.std.proofs.Common.{◌-◌}
use native.Mathlib.Omega.{arith}
use Rattle.transcript_spec.specs.Lists.{size}
use Rattle.transcript_spec.proofs.Columns.{length_entries}
use Rattle.transcript_lists.specs.Lent.{lists_of}
use Rattle.transcript_lists.proofs.Lists.entries.Goals as goal

pub returns-clause-few : goal.returns-clause-few
returns-clause-few c =
    let l = lists_of c.args.self in
    omega (arith, c.ranges.self, length_entries l 0 (size l - 0))
