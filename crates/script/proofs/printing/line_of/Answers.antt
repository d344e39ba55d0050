-- `script::printing::line_of` meets its contract: the letter, three numbers, the state, the line feed, and nothing after it.
use Rattle.std.proofs.Common.{replicate, ◌≤◌, set, length, length-set, sym, ◌∙◌, arith}
use lib.Seq.{take_all}
use Rattle.script.proofs.Laying.{byte_laid, follows}
use Rattle.script.specs.Answers.{line_of}
use Rattle.script.proofs.printing.line_of.Goals as goal

pub returns : goal.returns
unfolding line_of
returns c =
    let n = rw c.from.ensures at c.put_number.ensures in
    let first = byte_laid (replicate 47 32) 0 c.args.letter (omega arith) in
    let last = byte_laid c.put_state.new.line 46 10 (omega arith) in
    let long : length (set c.put_state.new.line 46 10) ≤ 47 = simp length-set (omega arith) in
    sym (take_all 47 (set c.put_state.new.line 46 10) long)
    ∙ (follows first (follows n (follows c.put_number-2.ensures (follows c.put_number-3.ensures (follows c.put_state.ensures last))))).laid
