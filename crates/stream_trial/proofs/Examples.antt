-- What records say and leave, by computation: the record whose byte k is k, so that each byte tells its place; and the records of a short
-- script, carried out one after the other.
use Prim.Native.Nat.{ℕ, zero, suc}
use mathlib.Core.Path.{◌≡◌, refl}
use mathlib.Core.Bool.{true, false}
use mathlib.Core.List.{List, [], ◌∷◌}
use Rattle.transcript_spec.specs.Lists.{Lists, lists}
use Rattle.transcript_spec.specs.Reading.{with_group, head_read, word_read, byte_taken, feed, feeds}
use Rattle.transcript_spec.specs.declared.Part.TheVariants.{Word}
use Rattle.stream_spec.specs.Stream.{fresh_stream, closed, barred, streamed, delivery_answer, lists_after, end_answer}
use Rattle.stream_spec.specs.declared.Stream.{Stream}
use Rattle.stream_trial.specs.Record.{is_start, delivers, number, started_at, string_lent, blank, lists_lent, lists_returned}
use Rattle.stream_trial.specs.CarriedOut.{delivered_answer, delivered_lists, answer_from, lists_from, CarriedOut}

-- n numbers from k on
abbrev counting : ℕ → ℕ → List ℕ
counting k zero = []
counting k (suc n) = k ∷ counting (suc k) n

abbrev own_places : List ℕ
own_places = counting 0 36

-- four lists that no number is in twice
abbrev apart : Lists
apart = lists (counting 10 6) (counting 20 6) (counting 30 6) (counting 40 6)

-- what records say, and what they deliver and lend
pub record Says : Type 0 where
  -- "what is done, modulo 3: 0 a fresh start, 1 a delivery, 2 the end"
  pub started : (is_start own_places ≡ true) × (is_start (255 ∷ []) ≡ true) × (delivers (255 ∷ []) ≡ false)
  pub delivering : (is_start (1 ∷ []) ≡ false) × (delivers (1 ∷ []) ≡ true) × (delivers (253 ∷ []) ≡ true)
  pub ending : (is_start (2 ∷ []) ≡ false) × (delivers (2 ∷ []) ≡ false) × (delivers (254 ∷ []) ≡ false)
  -- "32 bits, low byte first", from byte 8 on
  pub number_held : number own_places ≡ 0x0b0a0908
  -- one byte of the string is delivered, two kinds are lent, three registers, four lanes, five words
  pub string_part : string_lent own_places ≡ 12 ∷ []
  pub lists_part :
      lists_lent own_places apart ≡
      lists (10 ∷ 11 ∷ []) (20 ∷ 21 ∷ 22 ∷ []) (30 ∷ 31 ∷ 32 ∷ 33 ∷ []) (40 ∷ 41 ∷ 42 ∷ 43 ∷ 44 ∷ [])
  -- more than there are: all of them
  pub no_more_bytes : string_lent (1 ∷ 25 ∷ counting 2 35) ≡ counting 12 24
  pub no_more_places : lists_lent (1 ∷ 25 ∷ 7 ∷ 255 ∷ 6 ∷ 7 ∷ []) apart ≡ apart
  -- a byte that is not there counts as 0
  pub no_bytes : lists_lent [] apart ≡ lists [] [] [] []
  -- and what is lent comes back as other numbers
  pub lists_again :
      lists_returned own_places apart (lists (1 ∷ 1 ∷ []) (2 ∷ 2 ∷ 2 ∷ []) (3 ∷ 3 ∷ 3 ∷ 3 ∷ []) (4 ∷ 4 ∷ 4 ∷ 4 ∷ 4 ∷ [])) ≡
      lists (1 ∷ 1 ∷ 12 ∷ 13 ∷ 14 ∷ 15 ∷ []) (2 ∷ 2 ∷ 2 ∷ 23 ∷ 24 ∷ 25 ∷ []) (3 ∷ 3 ∷ 3 ∷ 3 ∷ 34 ∷ 35 ∷ [])
      (4 ∷ 4 ∷ 4 ∷ 4 ∷ 4 ∷ 45 ∷ [])

-- Byte 0 says, modulo 3, which call is made; the number is read from byte 8 on, low byte first; as many bytes are delivered and places lent
-- as the record says, or all where there are fewer; and what is lent comes back at its places.
pub they_say : Says
they_say =
    record {
      started = (refl, refl, refl);
      delivering = (refl, refl, refl);
      ending = (refl, refl, refl);
      number_held = refl;
      string_part = refl;
      lists_part = refl;
      no_more_bytes = refl;
      no_more_places = refl;
      no_bytes = refl;
      lists_again = refl;
    }

-- ---- a short script

-- what is done is a, m bytes of the string are delivered and so many places of each list lent, the number is 5, the string begins as s
abbrev asking : ℕ → ℕ → ℕ → ℕ → ℕ → ℕ → List ℕ → List ℕ
asking a m k r l w s = a ∷ m ∷ k ∷ r ∷ l ∷ w ∷ 0 ∷ 0 ∷ 5 ∷ 0 ∷ 0 ∷ 0 ∷ s

-- a read of register 3 on both lanes is whole; a write to register 2 on both lanes, begun at byte 6, lacks the last byte of its word 1234h
abbrev half_way : Stream
half_way = record { part = Word 0x1D (record { begun = true; padded = false; value = 0x24 }); from = 6; taken = 8; ended = false }

-- the lists with one entry in their first places, and the five places behind it
abbrev behind : List ℕ
behind = 0xEEEEEEEE ∷ 0xEEEEEEEE ∷ 0xEEEEEEEE ∷ 0xEEEEEEEE ∷ 0xEEEEEEEE ∷ []

abbrev with_first : ℕ → ℕ → ℕ → ℕ → Lists
with_first k r l w = lists (k ∷ behind) (r ∷ behind) (l ∷ behind) (w ∷ behind)

-- what the records of a short script leave, carried out one after the other
pub record Leaves : Type 0 where
  -- a fresh start, as if five bytes had come, of a fresh stream and of one that has ended
  pub begins : CarriedOut fresh_stream (asking 0 0 0 0 0 0 []) blank (streamed 0 0 0 (started_at 5)) blank
  pub begins_again : CarriedOut (closed half_way) (asking 3 1 6 6 6 6 (0x34 ∷ [])) blank (streamed 0 0 0 (started_at 5)) blank
  -- three bytes of four: the first makes an entry
  pub first_part :
      CarriedOut (started_at 5) (asking 1 3 1 2 3 6 (0x1E ∷ 0x1D ∷ 0xA4 ∷ 0x34 ∷ [])) blank (streamed 0 1 0 half_way) (with_first 0 3 3 0)
  -- the fourth, while no word can be taken: 24, and nothing moves
  pub no_room : CarriedOut half_way (asking 4 1 6 6 6 0 (0x34 ∷ [])) blank (streamed 24 0 0 half_way) blank
  -- the fourth again, with room
  pub last_part : CarriedOut half_way (asking 4 1 6 6 6 1 (0x34 ∷ [])) blank (streamed 0 1 0 (started_at 9)) (with_first 1 2 3 0x1234)
  -- the end, of all four bytes and of three
  pub ends : CarriedOut (started_at 9) (asking 2 1 6 6 6 6 (0x1E ∷ [])) blank (streamed 0 0 0 (closed (started_at 9))) blank
  pub ends_half_way : CarriedOut half_way (asking 5 1 6 6 6 6 (0x34 ∷ [])) blank (streamed 20 0 6 (closed half_way)) blank

-- By computation: fresh starts, a record in two deliveries, of which the second is first refused with 24, and the end, between two records
-- and within one.
pub they_leave : Leaves
unfolding
    answer_from lists_from delivered_answer delivered_lists barred delivery_answer lists_after end_answer with_group head_read word_read
    byte_taken
    feed feeds
they_leave =
    record {
      begins = record { answer = refl; lists = refl };
      begins_again = record { answer = refl; lists = refl };
      first_part = record { answer = refl; lists = refl };
      no_room = record { answer = refl; lists = refl };
      last_part = record { answer = refl; lists = refl };
      ends = record { answer = refl; lists = refl };
      ends_half_way = record { answer = refl; lists = refl };
    }
