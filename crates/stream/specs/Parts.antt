-- What the private functions state.
--   from_after st f   where in the stream the record begins that a delivery came to, in which f was found
--   told_of st f      what is answered of that delivery
--   Within st f       what was found lies within a stream of at most 4,294,967,295 bytes
use Rattle.std.specs.Prelude.{ℕ, ◌+◌, ◌≤◌, cond, not, eqb}
use Rattle.transcript_scan.specs.declared.scanning.ScannedOn.{ScannedOn}
use Rattle.stream_spec.specs.Stream.{streamed, place_of}
use Rattle.stream_spec.specs.declared.Stream.{Stream}
use Rattle.stream_spec.specs.declared.Streamed.{Streamed}

abbrev pub from_after : Stream → ScannedOn → ℕ
from_after st f = cond (eqb f.entries 0) st.from (st.taken + f.place)

abbrev pub told_of : Stream → ScannedOn → Streamed
told_of st f =
    streamed f.refusal f.entries (place_of f.refusal (from_after st f))
    (record { part = f.part; from = from_after st f; taken = st.taken + f.next; ended = not (eqb f.refusal 0) })

pub record Within (st : Stream) (f : ScannedOn) : Type 0 where
  pub place : st.taken + f.place ≤ 4294967295
  pub next : st.taken + f.next ≤ 4294967295
