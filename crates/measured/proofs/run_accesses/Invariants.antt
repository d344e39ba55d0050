-- `measured::run_accesses` goes over the records of its script, each of 16 bytes, and the lent memory keeps its length.
use Rattle.std.proofs.Common.{◌≡◌, length}
use Rattle.measured.proofs.run_accesses.Given as goal

abbrev pub invariant-loop-bytes : goal.invariant-loop-bytes
invariant-loop-bytes l = (l.bytes-iterator.size ≡ 16) × (length l.memory ≡ length l.fn.memory)
