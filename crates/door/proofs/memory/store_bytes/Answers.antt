-- `door::memory::store_bytes` meets its contract: a word is in memory exactly if its two bytes are.
use Prim.Native.Nat.{◌<◌, ◌≤◌}
use native.Mathlib.Omega.{arith}
use borrow.Author.Tests.{lt-ltb, le-ltb}
use mathlib.Core.Path.{sym}
use lib.ListN.{length, length-set}
use Rattle.door_spec.specs.Bytes.{words_of}
use Rattle.door_spec.proofs.WordsAndBytes.{words_length}
use Rattle.door.specs.Parts.{store_bytes}
use Rattle.door.proofs.memory.store_bytes.Goals as goal

pub bounds-memory-i-then-k-memory : goal.bounds-memory-i-then-k-memory
bounds-memory-i-then-k-memory c = simp length-set (omega arith)

pub returns-then-k-memory : goal.returns-then-k-memory
unfolding store_bytes
returns-then-k-memory c =
    let a = c.args in
    let t : a.n.0 < length (words_of a.memory.now) = rw words_length c.if-k-memory.true in
    let e = lt-ltb _ _ t in
    record { fell = sym e; memory = rw (e, c.low_byte.ensures, c.high_byte.ensures) }

pub returns : goal.returns
unfolding store_bytes
returns c =
    let a = c.args in
    let t : length (words_of a.memory.now) ≤ a.n.0 = rw words_length c.if-k-memory.false in
    let e = le-ltb _ _ t in
    record { fell = sym e; memory = rw e }
