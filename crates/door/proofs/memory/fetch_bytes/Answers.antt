-- `door::memory::fetch_bytes` meets its contract: a word is in memory exactly if its two bytes are.
use Prim.Native.Nat.{◌<◌, ◌≤◌}
use borrow.Author.Tests.{lt-ltb, le-ltb}
use lib.ListN.{length}
use Rattle.words.specs.Memory.{fetch_at}
use Rattle.door_spec.specs.Bytes.{words_of}
use Rattle.door_spec.proofs.WordsAndBytes.{words_length, word_is_two_bytes}
use Rattle.door.proofs.memory.fetch_bytes.Goals as goal

pub returns-then-k-memory : goal.returns-then-k-memory
unfolding fetch_at
returns-then-k-memory c =
    let a = c.args in
    let t : a.n.0 < length (words_of a.memory.now) = rw words_length c.if-k-memory.true in
    rw (lt-ltb _ _ t, word_is_two_bytes _ _ t, c.join_bytes.ensures)

pub returns : goal.returns
unfolding fetch_at
returns c =
    let a = c.args in
    let t : length (words_of a.memory.now) ≤ a.n.0 = rw words_length c.if-k-memory.false in
    rw (le-ltb _ _ t)
