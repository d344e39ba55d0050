-- `sheet::judging::are_rising` meets its contract: the library's test asks of each tick and the next.
use Rattle.std.proofs.Common.{rules}
use Rattle.std.proofs.lemmas.List.Sorted.{answers_always}
use borrow.Author.Tests.{tests}
use lib.Dec.{ltb}
use Rattle.sheet.proofs.RisingTicks.{rising_answer}
use Rattle.sheet.proofs.judging.are_rising.Goals as goal

pub returns : goal.returns
returns c =
    rising_answer c.args.ticks.now c.is_sorted_by.result
    (c.is_sorted_by.ensures.cases ltb (answers_always _ _ _ (λ f x r g k. search (rules, tests))))
