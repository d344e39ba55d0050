-- A record carried out: crates/stream_trial/src/main.rt.
--   delivered_answer, delivered_lists   of the record's delivery, which is lent parts: what it answers, and the lists afterwards
--   answer_from, lists_from             the same of the record, whichever of the three it is
--   Delivered, CarriedOut               these, as the contracts of a delivery and of carrying out a record
use Rattle.std.specs.Prelude.{ℕ, ◌≡◌, cond, List}
use Rattle.transcript_spec.specs.Lists.{Lists, size}
use Rattle.stream_spec.specs.Stream.{streamed, delivery_answer, lists_after, end_answer}
use Rattle.stream_spec.specs.declared.Stream.{Stream}
use Rattle.stream_spec.specs.declared.Streamed.{Streamed}
use Rattle.stream_trial.specs.Record.{is_start, delivers, number, started_at, string_lent, lists_lent, lists_returned}

-- the record b, to the stream st, with the lists l
module _ (st : Stream) (b : List ℕ) (l : Lists) where
  unfoldable pub delivered_answer : Streamed
  delivered_answer = delivery_answer st (string_lent b) (size (lists_lent b l))

  unfoldable pub delivered_lists : Lists
  delivered_lists = lists_returned b l (lists_after st (string_lent b) (lists_lent b l))

  -- "0 a fresh start, 1 a delivery, 2 the end"; "A fresh start answers number 0, count 0, place 0"
  unfoldable pub answer_from : Streamed
  answer_from = cond (is_start b) (streamed 0 0 0 (started_at (number b))) (cond (delivers b) delivered_answer (end_answer st))

  -- a fresh start and the end leave them "untouched"
  unfoldable pub lists_from : Lists
  lists_from = cond (is_start b) l (cond (delivers b) delivered_lists l)

pub record Delivered (st : Stream) (b : List ℕ) (l : Lists) (o : Streamed) (l' : Lists) : Type 0 where
  pub answer : o ≡ delivered_answer st b l
  pub lists : l' ≡ delivered_lists st b l

pub record CarriedOut (st : Stream) (b : List ℕ) (l : Lists) (o : Streamed) (l' : Lists) : Type 0 where
  pub answer : o ≡ answer_from st b l
  pub lists : l' ≡ lists_from st b l
