-- `transcript_lines::putting::judge_entries` meets its contract, by the place of the first entry that no line can say (`EntryByEntry`).
use mathlib.Core.Path.{sym, ap, ◌∙◌}
use Rattle.transcript_spec.specs.Lists.{entries_in}
use Rattle.transcript_lists.specs.Lent.{lists_of}
use Rattle.transcript_lines.proofs.EntryByEntry.{answered, judged_at}
use Rattle.transcript_lines.proofs.putting.judge_entries.Goals as goal

pub returns-in-Some : goal.returns-in-Some
returns-in-Some c =
    let es = entries_in (lists_of c.args.list) in
    ap (answered c.args.done) (sym c.in-Some.is) ∙ judged_at c.args.done es c.find_unsayable.ensures

pub returns-in-None : goal.returns-in-None
returns-in-None c =
    let es = entries_in (lists_of c.args.list) in
    ap (answered c.args.done) (sym c.in-None.is) ∙ judged_at c.args.done es c.find_unsayable.ensures
