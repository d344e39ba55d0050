-- `transcript_lines::putting::fill_text` meets its contract: each turn is one of those of `EntryByEntry`.
use Rattle.transcript_lines.proofs.EntryByEntry.{laid_start, laid_length, laid_room, laid_next, laid_all}
use Rattle.transcript_lines.proofs.putting.fill_text.Goals as goal

pub loop-e-init : goal.loop-e-init
loop-e-init c =
    laid_start c.args.text.now (rw c.into_iter-e-iterator.ensures.into_iter_gives c.entries-e-items.ensures.all) c.requires.0

pub put_line-at-requires : goal.put_line-at-requires
put_line-at-requires c = laid_room c.loop-e.invariant c.requires.1 c.in-Some.ensures.steps

pub loop-e-preserved : goal.loop-e-preserved
loop-e-preserved c = laid_next c.loop-e.invariant c.requires.1 c.in-Some.ensures.steps c.put_line-at.ensures

pub shape_of-text : goal.shape_of-text
shape_of-text c = laid_length c.loop-e.invariant c.requires.1

pub returns : goal.returns
returns c = laid_all c.loop-e.invariant c.requires.1 c.in-None.ensures.steps.0
