-- `stream::calls::end_stream` meets its contract: by whether the stream has ended already.
use Rattle.stream.proofs.Outcomes.{end_refused, end_taken}
use Rattle.stream.proofs.calls.end_stream.Goals as goal

pub returns-then-st : goal.returns-then-st
returns-then-st c = end_refused _ c.if-st.true c.refuse.ensures

pub returns : goal.returns
returns c = end_taken _ c.if-st.false (rw (c.place_of.ensures, c.cut_off-number.ensures))
