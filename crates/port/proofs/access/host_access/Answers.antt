-- `port::access::host_access` meets its contract: refused, or begun, carried and finished, by cases on reading and writing. The record
-- made anew at entry is the record that was passed.
use mathlib.Core.Path.{sym, ◌∙◌}
use borrow.Author.Tests.{eq-eqb, ne_eqb}
use Rattle.port_spec.specs.Host.{begin_access, done, access, access_memory}
use Rattle.port_spec.proofs.Named.{never_0}
use Rattle.port.proofs.access.host_access.Goals as goal

pub returns-in-Err : goal.returns-in-Err
unfolding access access_memory
returns-in-Err c =
    let n = c.in-Err.ensures in
    let t = ne_eqb _ _ (λ e. never_0 _ (n ∙ e)) in
    record {
      outcome = rw (t, c.refuse.ensures, c.set_latch-s.ensures, c.from.ensures, n);
      memory = rw t;
    }

pub returns-in-Read : goal.returns-in-Read
unfolding done access access_memory
returns-in-Read c =
    let b = rw c.set_latch-s.ensures at c.begin_read-b.ensures in
    let e = rw b at c.carry.ensures in
    let t = eq-eqb _ _ (sym c.in_default.ensures) in
    record {
      outcome = rw (t, c.finish.ensures, c.in-Read.is, b, e.outcome);
      memory = rw (t, c.in-Read.is) e.memory;
    }

pub returns-in-Write : goal.returns-in-Write
unfolding begin_access done access access_memory
returns-in-Write c =
    let b = rw c.set_latch-s.ensures at c.begin_write-b.ensures in
    let d = rw c.set_latch-s.ensures at c.due_of_write-due.ensures in
    let e = rw (b, d) at c.carry-in-Write.ensures in
    let t = eq-eqb _ _ (sym c.in_default.ensures) in
    record {
      outcome = rw (t, c.finish-in-Write.ensures, c.in-Write.is, b, e.outcome);
      memory = rw (t, c.in-Write.is) e.memory;
    }
