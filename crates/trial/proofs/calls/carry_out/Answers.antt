-- `trial::calls::carry_out` meets its contract, by its tests of the letter; the lent parts of the room and of the list come back.
use Rattle.std.proofs.Common.{◌≡◌, ℕ, ◌++◌, take, drop, sym, ap, ◌∙◌}
use Rattle.trial.specs.Calls.{answer_to, room_after, list_after, lent_answer, lent_memory, lent_list}
use Rattle.words.specs.Lent.{lent, given_back}
use Rattle.trial.proofs.calls.carry_out.Goals as goal

pub returns-then-is_plain_letter : goal.returns-then-is_plain_letter
unfolding answer_to room_after list_after
returns-then-is_plain_letter c =
    let e1 = sym c.is_plain_letter.ensures ∙ c.if-is_plain_letter.true in
    record { answer = rw e1 c.call_plain.ensures; left = rw e1; list_left = rw e1 }

pub returns-then-is_whole_letter : goal.returns-then-is_whole_letter
unfolding answer_to room_after list_after
returns-then-is_whole_letter c =
    let e1 = sym c.is_plain_letter.ensures ∙ c.if-is_plain_letter.false in
    let e2 = sym c.is_whole_letter.ensures ∙ c.if-is_whole_letter.true in
    let d = c.call_whole.ensures in
    record { answer = rw (e1, e2) d.answer; left = rw (e1, e2) d.left; list_left = rw (e1, e2) d.list_left }

pub returns : goal.returns
unfolding answer_to room_after list_after
returns c =
    let e1 = sym c.is_plain_letter.ensures ∙ c.if-is_plain_letter.false in
    let e2 = sym c.is_whole_letter.ensures ∙ c.if-is_whole_letter.false in
    let a = c.args in
    let room = a.room.now in
    let list = a.list.now in
    let d = c.call_lent.ensures in
    let m : take c.min-length.result room ≡ lent a.s.length room = ap (λ (n : ℕ). take n room) c.min-length.ensures in
    let l : take c.min-size.result list ≡ lent a.s.size list = ap (λ (n : ℕ). take n list) c.min-size.ensures in
    record {
      answer = rw (e1, e2) (d.answer ∙ (λ i. lent_answer a.s (m i) (l i) a.call));
      left = rw (e1, e2) (ap (λ (n : ℕ). c.call_lent.new.memory ++ drop n room) c.min-length.ensures
          ∙ ap (given_back a.s.length room) (d.memory ∙ (λ i. lent_memory a.s (m i) (l i) a.call)));
      list_left = rw (e1, e2) (ap (λ (n : ℕ). c.call_lent.new.list ++ drop n list) c.min-size.ensures
          ∙ ap (given_back a.s.size list) (d.list ∙ (λ i. lent_list a.s (m i) (l i) a.call)));
    }
