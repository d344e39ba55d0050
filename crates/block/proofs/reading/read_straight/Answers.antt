-- `block::reading::read_straight` meets its contract: the copied words, with the word already held in front, are what the reads
-- hand out (`copied_read`).
use Rattle.std.proofs.Common.{◌≡◌, length, ap, ◌∙◌, arith}
use Rattle.words.specs.Addresses.{word_at}
use Rattle.words.specs.Memory.{AreWords}
use Rattle.words.specs.declared.WordNumber.{WordNumber}
use Rattle.block_spec.proofs.Lent.{part_is}
use Rattle.block_spec.proofs.Straight.{copied_read}
use Rattle.block.proofs.Counts.{as_counted}
use Rattle.block.proofs.reading.read_straight.Goals as goal
use Rattle.block.proofs.reading.read_straight.Goals.{After-word_of-here}

-- the word where the copy begins
here : (c : After-word_of-here) →
    c.word_of-here.result.0 ≡ (word_at c.args.r.pointer).0
here c = ap (λ (n : WordNumber). n.0) c.word_of-here.ensures

pub returns : goal.returns
returns c =
    let a = c.args in
    let words : AreWords a.memory.now = λ i. omega (arith, c.type_inv.memory i) in
    let count = length a.part.now in
    let copied = c.copy_from_slice.ensures.after ∙ part_is c.word_of-here.result.0 count a.memory.now in
    rw (c.step_by.ensures, c.from.ensures, as_counted, copied, here (goal.at.returns c).After-word_of-here)
    (copied_read a.r a.memory.now count c.requires words (omega arith))
