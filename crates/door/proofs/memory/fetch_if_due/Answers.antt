-- `door::memory::fetch_if_due` meets its contract: a fetch is aimed, done and settled; where none is due, nothing is.
use Rattle.port_spec.specs.Cycle.{carried}
use Rattle.door.specs.Parts.{bytes_after}
use Rattle.door.proofs.NoStore.{idle_cycle, tag_of_no_fetch}
use Rattle.door.proofs.memory.fetch_if_due.Goals as goal

pub returns-in-Fetch : goal.returns-in-Fetch
unfolding carried bytes_after
returns-in-Fetch c =
    let d = c.in-Fetch.is in
    record {
      outcome = rw (d, c.settle_fetch.ensures, c.from.ensures, c.fetch_bytes.ensures, c.word_of.ensures, c.step_if-q.ensures);
      memory = rw d;
    }

pub returns : goal.returns
returns c =
    let a = c.args in
    idle_cycle a.r a.due a.memory.now c.requires (tag_of_no_fetch _ c.in_default.not-Fetch)
