-- `door::memory::carry_bytes` meets its contract: a store is aimed, done and settled; any other cycle changes no byte.
use Rattle.port_spec.specs.Cycle.{carried}
use Rattle.door.specs.Parts.{bytes_after}
use Rattle.door.proofs.NoStore.{no_store}
use Rattle.door.proofs.memory.carry_bytes.Goals as goal

pub returns-in-Store : goal.returns-in-Store
unfolding carried bytes_after
returns-in-Store c =
    let d = c.in-Store.is in
    let s = c.store_bytes-inside.ensures in
    record {
      outcome = rw (d, c.settle_store.ensures, s.fell, c.word_of.ensures);
      memory = rw (d, s.memory, c.word_of.ensures);
    }

pub fetch_if_due-requires : goal.fetch_if_due-requires
fetch_if_due-requires c = no_store c.args.due c.in_default.not-Store
