-- `block::reading::read_words` meets its contract: the reads that go straight and then the others are all of them (`join_reads`),
-- and so are the two parts that were lent.
use Rattle.std.proofs.Common.{◌≡◌, ◌+◌, ◌-◌, ◌≤◌, length, arith}
use Rattle.control.specs.Control.{incr}
use Rattle.port_spec.specs.Sequences.{machine}
use Rattle.block_spec.specs.Parts.{first_fetched, GoesStraight, ReadInto}
use Rattle.block_spec.proofs.Joining.{few_hollows, read_length, join_reads}
use Rattle.words.proofs.Lent.{first_length}
use Rattle.block_spec.proofs.Lent.{between, rest_starts, rest_length, both_back}
use Rattle.block_spec.proofs.Straight.{reads_go_straight}
use Rattle.block.proofs.reading.read_words.Goals as goal
use Rattle.block.proofs.reading.read_words.Goals.{Else-n-eq0, After-read_straight-first, After-read_singly-rest}

-- some reads go straight
straight : (c : Else-n-eq0) →
    let a = c.args in
    let n = c.straight_reads-n.result in
    (n ≤ length a.part.now) × GoesStraight (incr a.r.control) (first_fetched a.r) (length a.memory.now) n
straight c =
    reads_go_straight _ _ _ _ c.requires.0 c.straight_reads-n.ensures c.if-n-eq0.false

-- what they leave
first : (c : After-read_straight-first) → c.straight_reads-n.result ≤ length c.args.part.now →
    let a = c.args in
    ReadInto (machine a.r a.memory.now) c.straight_reads-n.result c.read_straight-first.result
    c.read_straight-first.new.part
first c most = rw (first_length _ _ most) at c.read_straight-first.ensures

-- where the others begin
starts : (c : After-read_straight-first) → c.straight_reads-n.result ≤ length c.args.part.now →
    let n = c.straight_reads-n.result in
    let part = c.args.part.now in
    n ≤ length (between n part c.read_straight-first.new.part)
starts c most =
    let n = c.straight_reads-n.result in
    let part = c.args.part.now in
    rest_starts n part c.read_straight-first.new.part most (read_length (first c most))

-- what the others leave
rest : (c : After-read_singly-rest) → c.straight_reads-n.result ≤ length c.args.part.now →
    length c.read_straight-first.new.part ≡ c.straight_reads-n.result →
    let a = c.args in
    ReadInto (machine c.read_straight-first.result.registers a.memory.now)
    (length a.part.now - c.straight_reads-n.result) c.read_singly-rest.result c.read_singly-rest.new.part
rest c most some =
    rw (rest_length _ _ _ most some) at c.read_singly-rest.ensures

pub slice_bounds-read_straight-end : goal.slice_bounds-read_straight-end
slice_bounds-read_straight-end c = (straight (goal.at.slice_bounds-read_straight-end c).Else-n-eq0).0

pub read_straight-first-requires : goal.read_straight-first-requires
read_straight-first-requires c =
    let s = straight (goal.at.read_straight-first-requires c).Else-n-eq0 in
    rw (first_length _ _ s.0) s.1

pub offset_bounds-part-n : goal.offset_bounds-part-n
offset_bounds-part-n c =
    omega (arith, (straight (goal.at.offset_bounds-part-n c).Else-n-eq0).0)

pub slice_bounds-read_singly-count : goal.slice_bounds-read_singly-count
slice_bounds-read_singly-count c =
    let at = goal.at.slice_bounds-read_singly-count c in
    starts at.After-read_straight-first (straight at.Else-n-eq0).0

pub read_singly-rest-requires : goal.read_singly-rest-requires
read_singly-rest-requires c =
    let at = goal.at.read_singly-rest-requires c in
    let most = (straight at.Else-n-eq0).0 in
    let few = c.requires in
    rw (rest_length _ _ _ most (read_length (first at.After-read_straight-first most))) (few.0, omega (arith, few.1))

pub overflow_add-result : goal.overflow_add-result
overflow_add-result c =
    let at = goal.at.overflow_add-result c in
    let most = (straight at.Else-n-eq0).0 in
    let some = first at.After-read_straight-first most in
    let others = rest at.After-read_singly-rest most (read_length some) in
    let m = c.args.memory.now in
    let n = c.straight_reads-n.result in
    let few = few_hollows (machine c.args.r m) n in
    let fewer = few_hollows (machine c.read_straight-first.result.registers m) (length c.args.part.now - n) in
    omega (arith, most, c.requires.1, some.tallied, others.tallied, few, fewer)

pub returns : goal.returns
returns c =
    let a = c.args in
    let n = c.straight_reads-n.result in
    let at = goal.at.returns c in
    let most = (straight at.Else-n-eq0).0 in
    let some = first at.After-read_straight-first most in
    let others = rest at.After-read_singly-rest most (read_length some) in
    let all : n + (length a.part.now - n) ≡ length a.part.now = omega (arith, most) in
    let joined = join_reads a.r a.memory.now n (length a.part.now - n) _ _ _ _ some others in
    rw (both_back n a.part.now _ most (read_length some) c.read_singly-rest.new.part) (rw all at joined)
