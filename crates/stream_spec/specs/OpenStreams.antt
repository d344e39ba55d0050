-- Streams that calls have come to from a fresh start, in plain words: record by record. Document 02, request (vii).
--   Reached st         calls have come from a fresh start to the stream st
--   StandsForBytes st  the stream st stands for some bytes
--   Begun u            u is nothing, or bytes of a record that is not whole
--   OpenAt t u st      the open stream st has read t, which is good records, and u, which is what there is of the next one
--   Behind w           w is nothing, or begins with a record that is not whole, or with a bad one
--   Divides u s v w es   the begun record u and the delivery s together are the good records v, those of the entries es, and w behind them
--   AnsweredAs t u s room n es p   a delivery to an open stream answers n and p and hands out es: each answer, when and only then
--   AnswerSays o l' n es p   an answer and its lists say the number n, the entries es and the place p
--   EndedAs t u n p    the end of an open stream answers n and p, likewise
use Rattle.std.specs.Prelude.{ℕ, ◌+◌, ◌<◌, ◌≤◌, ◌≡◌, false, List, [], ◌++◌, ◌≢◌, length}
use Rattle.words.specs.Bytes.{AreBytes}
use Rattle.transcript_spec.specs.InPlainWords.{Sound, BadRecord}
use Rattle.transcript_spec.specs.Lists.{Lists}
use Rattle.transcript_spec.specs.Reading.{start, feeds}
use Rattle.transcript_spec.specs.declared.Entry.{Entry}
use Rattle.stream_spec.specs.InPlainWords.{handed}
use Rattle.stream_spec.specs.Stream.{fresh_stream, standing, closed, end_answer, TookDelivery}
use Rattle.stream_spec.specs.declared.Stream.{Stream}
use Rattle.stream_spec.specs.declared.Streamed.{Streamed}

pub data Reached : Stream → Type 0 where
  fresh : Reached fresh_stream
  by_delivery : {st : Stream} {s : List ℕ} {l l' : Lists} {o : Streamed} → Reached st → AreBytes s → TookDelivery st s l o l' →
      Reached o.stream
  by_end : (st : Stream) → Reached st → Reached (end_answer st).stream

-- the streams that stand for some bytes, within the limit: as they are read, or when the sender has said that nothing follows
pub data StandsForBytes : Stream → Type 0 where
  as_read : (s : List ℕ) → AreBytes s → length s ≤ 4294967295 → StandsForBytes (standing (feeds start s))
  and_ended : (s : List ℕ) → AreBytes s → length s ≤ 4294967295 → StandsForBytes (closed (standing (feeds start s)))

-- a record that is not whole would be refused with 20 if nothing followed
pub data Begun : List ℕ → Type 0 where
  between : Begun []
  within : {u : List ℕ} → BadRecord u 20 → Begun u

-- `part` is what the byte machine of request (ii) keeps of u
pub record OpenAt (t u : List ℕ) (st : Stream) : Type 0 where
  pub entries : List Entry
  pub good : Sound t entries
  pub begun : Begun u
  pub part : st.part ≡ (feeds start u).part
  pub from : st.from ≡ length t
  pub taken : st.taken ≡ length (t ++ u)
  pub goes_on : st.ended ≡ false

pub data Behind : List ℕ → Type 0 where
  not_whole : {w : List ℕ} → Begun w → Behind w
  bad : {w : List ℕ} {n : ℕ} → BadRecord w n → n ≢ 20 → Behind w

pub record Divides (u s v w : List ℕ) (es : List Entry) : Type 0 where
  pub all : u ++ s ≡ v ++ w
  pub good : Sound v es

-- the number, the entries that are handed out, and the place in the whole stream
pub data AnsweredAs (t u s : List ℕ) (room : ℕ) : ℕ → List Entry → ℕ → Type 0 where
  too_long : 4294967295 < length (t ++ u) + length s → AnsweredAs t u s room 26 [] 0
  too_small : {v w : List ℕ} {es : List Entry} → length (t ++ u) + length s ≤ 4294967295 → Divides u s v w es → Behind w →
      room < length es → AnsweredAs t u s room 24 [] 0
  taken_in : {v w : List ℕ} {es : List Entry} → length (t ++ u) + length s ≤ 4294967295 → Divides u s v w es → Begun w →
      length es ≤ room → AnsweredAs t u s room 0 es 0
  then_bad : {v w : List ℕ} {es : List Entry} {n : ℕ} → length (t ++ u) + length s ≤ 4294967295 → Divides u s v w es → BadRecord w n →
      n ≢ 20 → length es ≤ room → AnsweredAs t u s room n es (length (t ++ v))

-- what an answer and its lists say
pub record AnswerSays (o : Streamed) (l' : Lists) (n : ℕ) (es : List Entry) (place : ℕ) : Type 0 where
  pub number : o.number ≡ n
  pub entries : handed o l' ≡ es
  pub place_told : o.place ≡ place

-- the number, and the place in the whole stream
pub data EndedAs (t : List ℕ) : List ℕ → ℕ → ℕ → Type 0 where
  nothing_missing : EndedAs t [] 0 0
  number_missing : {u : List ℕ} → BadRecord u 20 → EndedAs t u 20 (length t)
