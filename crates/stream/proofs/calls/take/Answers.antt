-- `stream::calls::take` meets its contract: each way out is one of `Outcomes`.
use Prim.Native.Nat.{◌+◌, ◌≤◌}
use native.Mathlib.Omega.{arith}
use lib.ListN.{length}
use Rattle.stream.proofs.Outcomes.{found_within, refused_ended, refused_long, refused_small, taken_in}
use Rattle.stream.proofs.calls.take.Goals as goal

pub returns-then-st-clause-took : goal.returns-then-st-clause-took
returns-then-st-clause-took c = refused_ended _ _ _ c.if-st.true c.refuse.ensures

pub returns-then-left-bytes-clause-took : goal.returns-then-left-bytes-clause-took
returns-then-left-bytes-clause-took c = refused_long _ _ _ c.if-st.false (omega arith) c.refuse-then-left-bytes.ensures

pub returns-then-len-found-clause-took : goal.returns-then-len-found-clause-took
returns-then-len-found-clause-took c =
    let short : c.args.st.taken + length c.args.bytes.now ≤ 4294967295 = omega arith in
    refused_small _ _ _ c.if-st.false short c.scan_on-found.ensures
    (rw c.len.ensures at c.if-len-found.true) c.refuse-then-len-found.ensures

pub tell-requires : goal.tell-requires
tell-requires c =
    let short : c.args.st.taken + length c.args.bytes.now ≤ 4294967295 = omega arith in
    found_within _ _ c.scan_on-found.ensures short

pub returns-clause-took : goal.returns-clause-took
returns-clause-took c =
    let short : c.args.st.taken + length c.args.bytes.now ≤ 4294967295 = omega arith in
    taken_in _ _ _ c.if-st.false short c.scan_on-found.ensures
    (rw c.len.ensures at c.if-len-found.false) c.fill_on.ensures.filled c.tell.ensures
