-- `block::writing::write_words` meets its contract: the writes that go straight and then the others are all of them
-- (`join_writes`), and so are the words of the two parts.
use Rattle.std.proofs.Common.{◌≤◌, length, take, drop, arith, length-drop, take-append-drop, length-take-le}
use Rattle.words.specs.Addresses.{word_at}
use Rattle.control.specs.Control.{incw}
use Rattle.port_spec.specs.Sequences.{machine}
use Rattle.block_spec.specs.Parts.{GoesStraight, WrittenFrom}
use Rattle.block_spec.proofs.Joining.{few_empties, join_writes}
use Rattle.words.proofs.Lent.{first_length}
use Rattle.block_spec.proofs.Lent.{first_is, rest_is}
use Rattle.block_spec.proofs.Straight.{writes_go_straight}
use Rattle.block.proofs.writing.write_words.Goals as goal
use Rattle.block.proofs.writing.write_words.Goals.{Else-n-eq0, After-write_straight-first, After-write_singly-rest}

-- some writes go straight
straight : (c : Else-n-eq0) →
    let a = c.args in
    let n = c.straight_writes-n.result in
    (n ≤ length a.part.now) × GoesStraight (incw a.r.control) (word_at a.r.pointer) (length a.memory.now) n
straight c =
    writes_go_straight _ _ _ _ c.requires.0 c.straight_writes-n.ensures c.if-n-eq0.false

-- what they leave
first : (c : After-write_straight-first) →
    let a = c.args in
    WrittenFrom (machine a.r a.memory.now) (take c.straight_writes-n.result a.part.now)
    c.write_straight-first.result c.write_straight-first.new.memory
first c = rw (first_is _ _) at c.write_straight-first.ensures

-- what the others leave
rest : (c : After-write_singly-rest) →
    let a = c.args in
    WrittenFrom (machine c.write_straight-first.result.registers c.write_straight-first.new.memory)
    (drop c.straight_writes-n.result a.part.now) c.write_singly-rest.result
    c.write_singly-rest.new.memory
rest c = rw (rest_is _ _) at c.write_singly-rest.ensures

pub slice_bounds-write_straight-end : goal.slice_bounds-write_straight-end
slice_bounds-write_straight-end c = (straight (goal.at.slice_bounds-write_straight-end c).Else-n-eq0).0

pub write_straight-first-requires : goal.write_straight-first-requires
write_straight-first-requires c =
    let s = straight (goal.at.write_straight-first-requires c).Else-n-eq0 in
    rw (first_length _ _ s.0) s.1

pub offset_bounds-part-n : goal.offset_bounds-part-n
offset_bounds-part-n c =
    omega (arith, (straight (goal.at.offset_bounds-part-n c).Else-n-eq0).0)

pub slice_bounds-write_singly-count : goal.slice_bounds-write_singly-count
slice_bounds-write_singly-count c =
    (straight (goal.at.slice_bounds-write_singly-count c).Else-n-eq0).0

pub overflow_add-result : goal.overflow_add-result
overflow_add-result c =
    let at = goal.at.overflow_add-result c in
    let some = first at.After-write_straight-first in
    let others = rest at.After-write_singly-rest in
    let part = c.args.part.now in
    let n = c.straight_writes-n.result in
    let most = (straight at.Else-n-eq0).0 in
    let few = few_empties (machine c.args.r c.args.memory.now) (take n part) in
    let fewer = few_empties (machine c.write_straight-first.result.registers c.write_straight-first.new.memory) (drop n part) in
    let n-words = length-take-le n part most in
    omega (arith, most, c.requires.1, some.tallied, others.tallied, few, fewer, n-words, length-drop n part)

pub returns : goal.returns
returns c =
    let at = goal.at.returns c in
    let n = c.straight_writes-n.result in
    let part = c.args.part.now in
    rw (take-append-drop n part) at (join_writes _ _ _ _ _ _ _ (first at.After-write_straight-first) (rest at.After-write_singly-rest))
