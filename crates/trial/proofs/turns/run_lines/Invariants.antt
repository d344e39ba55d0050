-- What the loop of `trial::turns::run_lines` keeps: after i turns the world and the output are those of the first i lines, and the rest of
-- the input lies behind these.
use Rattle.std.proofs.Common.{◌≡◌, ℕ, ◌+◌, ◌*◌, ◌-◌, ◌/◌, ◌≤◌, ◌<◌, true, List, ◌++◌, length, take, drop, sym, ap, ◌∙◌, add-one, arith, length-drop, length-append}
use Rattle.std.proofs.lemmas.List.{take_at, drop_at}
use lib.Seq.{drop-drop}
use borrow.Rule.Slice.PartMut.{put_mid, same_len_mid}
use Rattle.block_spec.proofs.Lent.{part_length}
use Rattle.script.proofs.Laying.{pushed}
use Rattle.script.specs.Script.{is_call, call_in}
use Rattle.script.specs.Answers.{line_of}
use Rattle.trial.specs.Calls.{CarriedOut}
use Rattle.trial.specs.Lines.{World, world, line_at, answered, called, all_calls, after_lines, printed}
use Rattle.script.specs.declared.Call.{Call}
use Rattle.script.specs.declared.State.{State}
use Rattle.script.specs.declared.Done.{Done}
use Rattle.trial.proofs.turns.run_lines.Given as goal

pub record Running (w : World) (input output₀ : List ℕ) (state : State) (room list output : List ℕ) (i : ℕ) : Type 0 where
  pub most : i ≤ length input / 38
  pub size : length output ≡ length output₀
  pub rooms : length room ≡ length w.room
  pub lists : length list ≡ length w.list
  pub calls : all_calls input i ≡ true
  pub left : world state room list ≡ after_lines w input i
  pub out : take (47 * i) output ≡ printed w input i

module _ {w : World} {input output₀ : List ℕ} {state : State} {room list output : List ℕ} {i : ℕ}
    (k : Running w input output₀ state room list output i) (more : i < length input / 38)
    (fits : 47 * (length input / 38) ≤ length output₀) where
  -- Its answer has a place in the output.
  pub in_output : 47 * i + 47 ≤ length output
  in_output = omega (arith, k.size)

  -- one line more
  pub turned : {c : Call} {d : Done} {room' list' text : List ℕ} →
      is_call (line_at input i) ≡ true → c ≡ call_in (line_at input i) →
      CarriedOut state room list c d room' list' → length room' ≡ length room → length list' ≡ length list →
      text ≡ line_of c.letter d → length text ≡ 47 →
      Running w input output₀ d.state room' list' (put_mid (47 * i) (47 * i + 47 - 47 * i) output text) (i + 1)
  unfolding all_calls after_lines printed
  turned {c} {d} {room'} {list'} {text} good call done rooms lists written long =
      let next : 47 * (i + 1) ≡ 47 * i + 47 = omega arith in
      let same = long ∙ sym (part_length (47 * i) 47 output in_output) in
      let answer : d ≡ answered (after_lines w input i) (call_in (line_at input i)) =
      done.answer ∙ (λ t. answered (k.left t) (call t)) in
      record {
        most = omega arith;
        size = same_len_mid (47 * i) (47 * i + 47 - 47 * i) output text same ∙ k.size;
        rooms = rooms ∙ k.rooms;
        lists = lists ∙ k.lists;
        calls = rw (add-one, k.calls) good;
        left = rw add-one ((λ t. world (done.answer t).state (done.left t) (done.list_left t)) ∙ (λ t. called (k.left t) (call t)));
        out = rw (next, add-one)
            (pushed (47 * i) 47 output text in_output long ∙ (λ t. k.out t ++ written t)
            ∙ (λ t. printed w input i ++ line_of (call t).letter (answer t)));
      }

-- the lines that are left, each of 38 bytes: what of the input lies behind the first i
pub record Left (input rest : List ℕ) (size i : ℕ) : Type 0 where
  pub each : size ≡ 38
  pub behind : rest ≡ drop (38 * i) input

-- A line that comes off the front of the rest is line i of the input, which has so many, and what is left lies behind it.
pub line_off : {input rest line rest' : List ℕ} {size i : ℕ} → Left input rest size i → rest ≡ line ++ rest' → length line ≡ size →
    (i < length input / 38) × (line_at input i ≡ line) × (rest' ≡ drop (38 * (i + 1)) input)
line_off {input} {rest} {line} {rest'} {size} {i} k is long =
    let n : length line ≡ 38 = long ∙ k.each in
    let front : drop (38 * i) input ≡ line ++ rest' = sym k.behind ∙ is in
    let many = ap length front ∙ length-append line rest' in
    let next : 38 * i + 38 ≡ 38 * (i + 1) = omega arith in (
      omega (arith, n, many, length-drop (38 * i) input),
      ap (take 38) front ∙ take_at line rest' 38 n,
      sym (drop_at line rest' 38 n) ∙ ap (drop 38) (sym front) ∙ drop-drop 38 (38 * i) input ∙ ap (λ (j : ℕ). drop j input) next,
    )

-- Where no whole line is left, the lines before are all that the input has.
pub none_left : {input rest : List ℕ} {size i : ℕ} → Left input rest size i → length rest < size → length input / 38 ≤ i
none_left {input} {rest} {size} {i} k short =
    let many = ap length k.behind in
    omega (arith, k.each, short, many, length-drop (38 * i) input)

abbrev pub invariant-loop-line : goal.invariant-loop-line
invariant-loop-line l =
    Running (world l.initial.state l.initial.room l.initial.list) l.input l.initial.output l.state l.room l.list l.output l.calls
    × Left l.input l.line-iterator.rest.now l.line-iterator.size l.calls
