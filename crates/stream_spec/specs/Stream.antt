-- A stream of deliveries: document 02, request (vii).
--   fresh_stream               before the first byte: a fresh start
--   resumed st                 the reader of request (ii), byte by byte, where the stream st stands
--   heard st s                 it, when the delivery s is read on from there
--   closed st                  the stream when the sender has said that nothing follows
--   barred st s room           25, 26 or 24, where one of them refuses a delivery, lent lists for so many entries; else 0
--   streamed n count place st  an answer, by its parts
--   place_of n from            the place that a refusal names; without one 0
--   standing_as n r, standing r   the stream that a reading has come to, refused with n; with its own refusal
--   answered_as n r, answered r  what is answered of a delivery that has come to the reading r, refused with n; with its own refusal
--   delivery_answer st s room  what a delivery answers
--   lists_after st s l         the lists given with it, afterwards
--   end_answered st            what is answered when the sender says that nothing follows
--   end_answer st              what the end answers
--   TookDelivery               these, as the contract of a delivery
use Rattle.std.specs.Prelude.{ℕ, ◌+◌, ◌≡◌, true, false, cond, not, List, [], eqb, ltb, length}
use Rattle.transcript_spec.specs.Lists.{Lists, size, with_entries}
use Rattle.transcript_spec.specs.Reading.{fresh, Reading, at, feeds, cut_off}
use Rattle.stream_spec.specs.declared.Stream.{Stream}
use Rattle.stream_spec.specs.declared.Streamed.{Streamed}

-- "until a fresh start"
abbrev pub fresh_stream : Stream
fresh_stream = record { part = fresh; from = 0; taken = 0; ended = false }

-- "a reader that keeps its place": the byte machine of request (ii), with the places of the whole stream
abbrev pub resumed : Stream → Reading
resumed st = at [] st.from st.taken st.part 0

abbrev pub heard : Stream → List ℕ → Reading
heard st s = feeds (resumed st) s

-- "or that end"
abbrev pub closed : Stream → Stream
closed st = record { part = st.part; from = st.from; taken = st.taken; ended = true }

-- "Refusals, before the others: 25 stream already ended; 26 stream would pass 4,294,967,295 bytes"; "A delivery whose finished good
-- records don't fit the list given with it is refused with 24 before its bad record is judged"
unfoldable pub barred : Stream → List ℕ → ℕ → ℕ
barred st s room =
    cond st.ended 25
    (cond (ltb 4294967295 (st.taken + length s)) 26
    (cond (ltb room (length (heard st s).got)) 24
    0))

abbrev pub streamed : ℕ → ℕ → ℕ → Stream → Streamed
streamed n count place st = record { number = n; count = count; place = place; stream = st }

-- "the final refusal with its place in the whole stream"
abbrev pub place_of : ℕ → ℕ → ℕ
place_of n from = cond (eqb n 0) 0 from

-- "after it .., more bytes are refused": a bad record ends the stream, and the bytes behind the one that shows it are not counted (ours)
abbrev pub standing_as : ℕ → Reading → Stream
standing_as n r = record { part = r.part; from = r.from; taken = r.next; ended = not (eqb n 0) }

abbrev pub standing : Reading → Stream
standing r = standing_as r.refusal r

-- "A refusal 20 to 23 still hands out the good records before it"
abbrev pub answered_as : ℕ → Reading → Streamed
answered_as n r = streamed n (length r.got) (place_of n r.from) (standing_as n r)

abbrev pub answered : Reading → Streamed
answered r = answered_as r.refusal r

-- a delivery that is refused with 25, 26 or 24 "changes nothing"
unfoldable pub delivery_answer : Stream → List ℕ → ℕ → Streamed
delivery_answer st s room = cond (eqb (barred st s room) 0) (answered (heard st s)) (streamed (barred st s room) 0 0 st)

unfoldable pub lists_after : Stream → List ℕ → Lists → Lists
lists_after st s l = cond (eqb (barred st s (size l)) 0) (with_entries (heard st s).got l) l

-- "A number cut off is refused only when the sender says that nothing follows"
abbrev pub end_answered : Stream → Streamed
end_answered st = streamed (cut_off st.part) 0 (place_of (cut_off st.part) st.from) (closed st)

-- the end is a call of its own, and a second one is refused with 25 (ours)
unfoldable pub end_answer : Stream → Streamed
end_answer st = cond st.ended (streamed 25 0 0 st) (end_answered st)

-- what a delivery leaves: its answer, with the stream, and the lists that it was lent
pub record TookDelivery (st : Stream) (s : List ℕ) (l : Lists) (o : Streamed) (l' : Lists) : Type 0 where
  pub answer : o ≡ delivery_answer st s (size l)
  pub lists : l' ≡ lists_after st s l
