-- The reader of deliveries in plain words: what the laws say of it. Document 02, request (vii). Answers and ended streams are made here
-- anew (`answer`, `shut`), so that a lie about those of the definitions is seen.
--   answer n count place st   an answer, by its parts
--   stream_after st s b       the stream when a delivery is read, ended or not
--   Came st s l o l'          what a delivery comes to, whatever the stream: each answer, when and only then, and the lists
--   handed o l'               the accesses that a delivery handed out: those in the first places of its lists, as many as it says
--   shut st                   the stream when the sender has said that nothing follows
--   EndCame st o              what the end comes to, whatever the stream: each answer, when and only then
--   Turn, Took                a delivery as it was made, with what came of it; deliveries one after another
--   Delivery, made t          a delivery without what came of it; that of a turn
--   sent_back n               24 or 26: the delivery is no part of the stream, and may be sent again
--   kept o s                  the bytes of a delivery, or none if it was sent back
--   joined ts                 the bytes of a stream: all that was delivered, but what was sent back
--   handed_out ts             the accesses that were handed out, in their order
--   answers_of ts             the answers of some turns
--   Verdict                   a refusal and its place
--   of_a_record n             20 to 23: the refusal of a record
--   verdict_of                the first such refusal among some answers
--   CutAlike                  a delivery, and the same bytes in two deliveries
--   read_verdict s            the refusal that the reader of request (ii) gives a string, with its place
--   Holds s es v              a string holds good records, those of the entries es, and then nothing, or a bad one, of which v tells
--   delivered ts, Roomy ts    all bytes that were delivered; each list that was lent has a place for each byte that came with it
use Rattle.std.specs.Prelude.{ℕ, ◌+◌, ◌<◌, ◌≤◌, ◌≡◌, Bool, true, false, cond, ◌&&◌, ◌||◌, List, [], ◌∷◌, ◌++◌, eqb, ltb, length}
use Rattle.transcript_spec.specs.InPlainWords.{first_places, Sound, BadRecord}
use Rattle.transcript_spec.specs.Lists.{Lists, size, entries_in, with_entries}
use Rattle.transcript_spec.specs.Reading.{cut_off, place_read, refusal_read}
use Rattle.transcript_spec.specs.declared.Entry.{Entry}
use Rattle.stream_spec.specs.Stream.{heard, TookDelivery}
use Rattle.stream_spec.specs.declared.Stream.{Stream}
use Rattle.stream_spec.specs.declared.Streamed.{Streamed}

abbrev pub answer : ℕ → ℕ → ℕ → Stream → Streamed
answer n count place st = record { number = n; count = count; place = place; stream = st }

-- ---- one delivery, to any stream

abbrev pub stream_after : Stream → List ℕ → Bool → Stream
stream_after st s ended = record { part = (heard st s).part; from = (heard st s).from; taken = (heard st s).next; ended = ended }

pub data Came (st : Stream) (s : List ℕ) (l : Lists) : Streamed → Lists → Type 0 where
  -- "25 stream already ended"
  ended_before : st.ended ≡ true → Came st s l (answer 25 0 0 st) l
  -- "26 stream would pass 4,294,967,295 bytes, changing nothing"
  too_long : st.ended ≡ false → 4294967295 < st.taken + length s → Came st s l (answer 26 0 0 st) l
  -- "A delivery whose finished good records don't fit the list given with it is refused with 24 .., and changes nothing"
  too_small : st.ended ≡ false → st.taken + length s ≤ 4294967295 → size l < length (heard st s).got → Came st s l (answer 24 0 0 st) l
  -- its good records are handed out, and no record of it is bad
  taken_in : st.ended ≡ false → st.taken + length s ≤ 4294967295 → length (heard st s).got ≤ size l → (heard st s).refusal ≡ 0 →
      Came st s l (answer 0 (length (heard st s).got) 0 (stream_after st s false)) (with_entries (heard st s).got l)
  -- "A refusal 20 to 23 still hands out the good records before it"; a delivery is never refused with 20
  then_bad : {n : ℕ} → st.ended ≡ false → st.taken + length s ≤ 4294967295 → length (heard st s).got ≤ size l →
      (heard st s).refusal ≡ n → 21 ≤ n → n ≤ 23 →
      Came st s l (answer n (length (heard st s).got) (heard st s).from (stream_after st s true)) (with_entries (heard st s).got l)

abbrev pub handed : Streamed → Lists → List Entry
handed o l' = entries_in (first_places o.count l')

-- ---- the end, of any stream

abbrev pub shut : Stream → Stream
shut st = record { part = st.part; from = st.from; taken = st.taken; ended = true }

pub data EndCame (st : Stream) : Streamed → Type 0 where
  already_ended : st.ended ≡ true → EndCame st (answer 25 0 0 st)
  nothing_missing : st.ended ≡ false → cut_off st.part ≡ 0 → EndCame st (answer 0 0 0 (shut st))
  -- "A number cut off is refused only when the sender says that nothing follows"
  number_missing : st.ended ≡ false → cut_off st.part ≡ 20 → EndCame st (answer 20 0 st.from (shut st))

-- ---- deliveries, one after another

-- the bytes that were delivered, the lists that were lent, what was answered, and the lists that were left
pub record Turn : Type 0 where
  pub bytes : List ℕ
  pub lent : Lists
  pub answer : Streamed
  pub left : Lists

pub data Took : Stream → List Turn → Stream → Type 0 where
  none : {st : Stream} → Took st [] st
  and_then : {st st' : Stream} {t : Turn} {ts : List Turn} → TookDelivery st t.bytes t.lent t.answer t.left →
      Took t.answer.stream ts st' → Took st (t ∷ ts) st'

-- what was delivered, and with which lists
pub record Delivery : Type 0 where
  pub bytes : List ℕ
  pub lent : Lists

abbrev pub made : Turn → Delivery
made t = record { bytes = t.bytes; lent = t.lent }

abbrev pub sent_back : ℕ → Bool
sent_back n = eqb n 24 || eqb n 26

abbrev pub kept : Streamed → List ℕ → List ℕ
kept o s = cond (sent_back o.number) [] s

-- "the joined bytes": but those that were sent back (ours)
unfoldable pub joined : List Turn → List ℕ
joined [] = []
joined (t ∷ ts) = kept t.answer t.bytes ++ joined ts

-- "the accesses handed out"
unfoldable pub handed_out : List Turn → List Entry
handed_out [] = []
handed_out (t ∷ ts) = handed t.answer t.left ++ handed_out ts

unfoldable pub answers_of : List Turn → List Streamed
answers_of [] = []
answers_of (t ∷ ts) = t.answer ∷ answers_of ts

-- "the final refusal with its place in the whole stream"
pub record Verdict : Type 0 where
  pub number : ℕ
  pub place : ℕ

abbrev pub of_a_record : ℕ → Bool
of_a_record n = ltb 19 n && ltb n 24

unfoldable pub verdict_of : List Streamed → Verdict
verdict_of [] = record { number = 0; place = 0 }
verdict_of (o ∷ rest) = cond (of_a_record o.number) (record { number = o.number; place = o.place }) (verdict_of rest)

-- a delivery, with its answer and its lists, and its two parts: the stream afterwards, what they hand out, and the refusal that is told
pub record CutAlike (o : Streamed) (l' : Lists) (o₁ : Streamed) (k₁' : Lists) (o₂ : Streamed) (k₂' : Lists) : Type 0 where
  pub stream : o₂.stream ≡ o.stream
  pub entries : handed o₁ k₁' ++ handed o₂ k₂' ≡ handed o l'
  pub refusal : verdict_of (o₁ ∷ o₂ ∷ []) ≡ verdict_of (o ∷ [])

-- ---- what the joined bytes hold, by the reader of request (ii), and record by record

abbrev pub read_verdict : List ℕ → Verdict
read_verdict s = record { number = refusal_read s; place = cond (eqb (refusal_read s) 0) 0 (place_read s) }

-- "the good records before the first bad one", and the refusal of that one with its place
pub data Holds (s : List ℕ) : List Entry → Verdict → Type 0 where
  all_good : {es : List Entry} → Sound s es → Holds s es (record { number = 0; place = 0 })
  a_bad_one : {es : List Entry} {t u : List ℕ} {n : ℕ} → s ≡ t ++ u → Sound t es → BadRecord u n →
      Holds s es (record { number = n; place = length t })

-- ---- streams in which nothing is sent back

-- all bytes that were delivered
unfoldable pub delivered : List Turn → List ℕ
delivered [] = []
delivered (t ∷ ts) = t.bytes ++ delivered ts

-- each list has a place for each byte that came with it
abbrev pub Roomy : List Turn → Type 0
Roomy [] = Unit
Roomy (t ∷ ts) = (length t.bytes ≤ size t.lent) × Roomy ts
