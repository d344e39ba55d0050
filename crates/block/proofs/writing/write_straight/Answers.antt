-- `block::writing::write_straight` meets its contract: the copied words are what the writes store (`copied_write`).
use Rattle.std.proofs.Common.{◌≡◌, length, ap, arith}
use Rattle.words.specs.Addresses.{word_at}
use Rattle.words.specs.declared.WordNumber.{WordNumber}
use Rattle.block_spec.proofs.Lent.{put_back}
use Rattle.block_spec.proofs.Straight.{copied_write}
use Rattle.block.proofs.writing.write_straight.Goals as goal
use Rattle.block.proofs.writing.write_straight.Goals.{After-word_of-here}

-- the word where the copy begins
here : (c : After-word_of-here) →
    c.word_of-here.result.0 ≡ (word_at c.args.r.pointer).0
here c = ap (λ (n : WordNumber). n.0) c.word_of-here.ensures

pub returns : goal.returns
returns c =
    let a = c.args in
    let copied = c.copy_from_slice in
    let back = put_back c.word_of-here.result.0 (length a.part.now) a.memory.now copied.new.self in
    rw (c.step_by.ensures, back, copied.ensures.after, here (goal.at.returns c).After-word_of-here)
    (copied_write a.part.now a.r a.memory.now c.requires (λ j. omega (arith, c.type_inv.part j)))
