-- `write_all` has appended the first bytes of the text, all but the rest.
use Rattle.std.proofs.Common.{◌≡◌, ◌-◌, ◌≤◌, length, take, drop}
use Rattle.std.specs.Io.KnownBytes.{Appends}
use Rattle.output.proofs.write_all.Given as goal

abbrev pub invariant-loop-rest : goal.invariant-loop-rest
invariant-loop-rest g l =
    (length l.rest ≤ length l.fn.text)
    × (l.rest ≡ drop (length l.fn.text - length l.rest) l.fn.text)
    × Appends (g.W.Write.contents l.fn.to) (g.W.Write.contents l.to) (take (length l.fn.text - length l.rest) l.fn.text)

abbrev pub decreases-loop-rest : goal.decreases-loop-rest
decreases-loop-rest g l = length l.rest
