-- `sheet::judging::count_strokes` meets its contract: the sums are the definition's.
use Rattle.std.proofs.Common.{rules}
use Rattle.sheet.proofs.FewStrokes.{by_one, by_two}
use Rattle.sheet.proofs.judging.count_strokes.Goals as goal

pub returns-in-2 : goal.returns-in-2
returns-in-2 c = by_two _ _ c.requires c.in-2.is

pub returns-in_default : goal.returns-in_default
returns-in_default c = by_one _ _ c.requires (search rules)
