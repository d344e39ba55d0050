-- The loop over an input's lines: what holds at each turn, and how a turn ends.
use Prim.Native.Nat.{ℕ, suc, ◌+◌, ◌*◌, ◌-◌, ◌≤◌, ◌<◌}
use native.Mathlib.Omega.{arith}
use mathlib.Core.Path.{◌≡◌, refl, sym, ap, ◌∙◌, subst}
use mathlib.Core.Bool.{Bool, true, false, true≢false}
use mathlib.Core.Logic.{◌≢◌}
use mathlib.Core.List.{List, [], ◌∷◌, ◌++◌}
use lib.ListN.{length, drop, length-append, length-drop, drop_of_length-le}
use lib.Seq.{drop-append-add, drop-drop}
use Rattle.registers.specs.declared.Registers.{Registers}
use Rattle.port_spec.specs.Host.{access, access_memory}
use Rattle.port_spec.specs.Sequences.{Machine, after, answer_of}
use Rattle.port_spec.specs.declared.Access.{Access}
use Rattle.std.specs.Prelude.{Some, None}
use Rattle.listing.specs.Following.{is_good, NextAccess}
use Rattle.listing.specs.Line.{front_line, has_feed}
use Rattle.listing.specs.Answer.{answer_text, bad_line}
use Rattle.listing.specs.Listing.{Listing, start, stopped, listing, listed, with_text}
use Rattle.listing.specs.Parts.{laid, Put, AnsweredLine, ListedLines}
use Rattle.listing.specs.declared.Answered.{Answered}
use Rattle.listing.specs.declared.Front.{Front}
use Rattle.listing.specs.declared.Front.TheVariants.{Good, Bad, Open}
use Rattle.listing.proofs.AnswerTexts.{answer_length}
use Rattle.listing.proofs.Laying.{with_more, put_length}
use Rattle.listing.proofs.LineByLine.{within, between, GoodFront, Fronts, fronts, whole_good, never_ends, good_size}

-- the port with registers r and memory m
abbrev pub machine : Registers → List ℕ → Machine
machine r m = record { registers = r; memory = m }

-- between two turns: the listing of the whole input is that of the rest, from registers r and memory m; the answers so far lie at the
-- output's beginning
pub record Kept (r₀ : Registers) (m₀ input out₀ m out : List ℕ) (r : Registers) (used wrote : ℕ) : Type 0 where
  pub text : List ℕ
  pub come : listing (start (machine r₀ m₀)) input ≡ listing (between (machine r m) text used) (drop used input)
  pub printed : out ≡ with_text out₀ text
  pub end : wrote ≡ length text
  pub most : used ≤ length input
  pub few : 3 * length text ≤ 10 * used
  pub size : length m ≡ length m₀
  pub room : length out ≡ length out₀

-- At the start nothing is used and nothing written, and the listing of the whole input is that of the rest (`Kept`).
pub at_start : (r : Registers) (m input out : List ℕ) → Kept r m input out m out r 0 0
at_start r m input out =
    record {
      text = [];
      come = refl;
      printed = refl;
      end = refl;
      most = omega arith;
      few = omega arith;
      size = refl;
      room = refl;
    }

module _ {r₀ r : Registers} {m₀ input out₀ m out : List ℕ} {used wrote : ℕ} (k : Kept r₀ m₀ input out₀ m out r used wrote)
    (enough : 10 * length input ≤ 3 * (length out₀ - 9)) where
  front_is : {a : Access} {n : ℕ} → front_line (drop used input) ≡ Good a n → GoodFront (drop used input) a n
  front_is e = subst (Fronts (drop used input)) e (fronts (drop used input))

  -- A good line lies in the input, and has 6 bytes or more.
  pub good_lies : {a : Access} {n : ℕ} → front_line (drop used input) ≡ Good a n → (6 ≤ n) × (used + n ≤ length input)
  good_lies {a = a} {n = n} e =
      let g = front_is e in
      let short = good_size g.line a g.says in
      let all : length (drop used input) ≡ length g.line + suc (length g.rest) = ap length g.is ∙
      length-append g.line (10 ∷ g.rest) in
      let here = length-drop used input in
      (omega (arith, short.0, g.size), omega (arith, all, here, g.size, k.most, short.0))

  -- The answer to a good line has room in the output.
  pub room_for_answer : {a : Access} {n : ℕ} → front_line (drop used input) ≡ Good a n → wrote + 20 ≤ length out
  room_for_answer e =
      let lies = good_lies e in
      omega (arith, lies.0, lies.1, k.few, k.end, k.room, enough)

  -- Where a byte of the input is left, `bad line` has room in the output.
  pub room_for_bad : used < length input → wrote + 9 ≤ length out
  room_for_bad h = omega (arith, h, k.few, k.end, k.room, enough)

  -- After a good line the listing of the whole input is that of the rest again, and its answer lies behind those before it (`Kept`).
  pub turned : {a : Access} {n : ℕ} {o : Answered} {m' out' : List ℕ} → front_line (drop used input) ≡ Good a n →
      AnsweredLine r m a out wrote o m' out' → length m' ≡ length m →
      Kept r₀ m₀ input out₀ m' out' o.registers (used + n) o.wrote
  unfolding after answer_of
  turned {a = a} {n = n} {o = o} {m' = m'} {out' = out'} e x same =
      let g = front_is e in
      let short = good_size g.line a g.says in
      let lies = good_lies e in
      let t : List ℕ = answer_text a (access r m a).answer in
      let little = answer_length a (access r m a).answer in
      let joined = length-append k.text t in
      let rest : g.rest ≡ drop (used + n) input =
      sym (drop-append-add g.line (10 ∷ g.rest) 1) ∙
      ap (λ (i : ℕ). drop i (g.line ++ 10 ∷ g.rest)) (sym g.size) ∙
      ap (drop n) (sym g.is) ∙
      drop-drop n used input
      in
      let here : after (machine r m) a ≡ machine o.registers m' =
      ap (λ (q : Registers). machine q (access_memory r m a)) (sym x.registers) ∙ ap (machine o.registers) (sym x.memory)
      in
      let fits : length k.text + length t ≤ length out₀ = omega (arith, little, room_for_answer e, k.end, k.room) in
      let laid_there : out' ≡ with_text out₀ (k.text ++ t) =
      x.text.output ∙
      ap (λ (l : List ℕ). laid l wrote t) k.printed ∙
      ap (λ (i : ℕ). laid (with_text out₀ k.text) i t) k.end ∙
      with_more out₀ k.text t fits
      in
      record {
        text = k.text ++ t;
        come =
            k.come ∙
            ap (listing (between (machine r m) k.text used)) g.is ∙
            whole_good (machine r m) k.text used a g.line g.rest g.none (omega (arith, short.1)) g.says ∙
            ap (λ (s : Machine). listing (between s (k.text ++ t) (used + (length g.line + 1))) g.rest) here ∙
            ap (λ (i : ℕ). listing (between (machine o.registers m') (k.text ++ t) (used + i)) g.rest) (sym g.size) ∙
            ap (listing (between (machine o.registers m') (k.text ++ t) (used + n))) rest;
        printed = laid_there;
        end = x.text.end ∙ ap (λ (i : ℕ). i + length t) k.end ∙ sym joined;
        most = lies.1;
        few = omega (arith, little, joined, lies.0, k.few);
        size = same ∙ k.size;
        room = put_length (omega (arith, little, room_for_answer e)) x.text ∙ k.room;
      }

  -- A bad line ends the listing, and says so behind the answers.
  pub ends_bad : {e : ℕ} {out' : List ℕ} → used < length input → front_line (drop used input) ≡ Bad → Put out wrote bad_line e out' →
      ListedLines r₀ m₀ input out₀ (record { registers = r; used = used; wrote = e; ended = true }) m out'
  ends_bad {e = e} {out' = out'} more f x =
      let s = machine r m in
      let is : listing (start (machine r₀ m₀)) input ≡ stopped (between s k.text used) =
      k.come ∙ subst (Fronts (drop used input)) f (fronts (drop used input)) s k.text used
      in
      let joined = length-append k.text bad_line in
      let count : e ≡ length (k.text ++ bad_line) = x.end ∙ ap (λ (i : ℕ). i + 9) k.end ∙ sym joined in
      let fits : length k.text + length bad_line ≤ length out₀ = omega (arith, room_for_bad more, k.end, k.room) in
      record {
        outcome = ap (λ (i : ℕ). record { registers = r; used = used; wrote = i; ended = true }) count ∙ ap listed (sym is);
        memory = ap (λ (y : Listing). y.machine.memory) (sym is);
        output =
            x.output ∙
            ap (λ (l : List ℕ). laid l wrote bad_line) k.printed ∙
            ap (λ (i : ℕ). laid (with_text out₀ k.text) i bad_line) k.end ∙
            with_more out₀ k.text bad_line fits ∙
            ap (λ (y : Listing). with_text out₀ y.text) (sym is);
      }

  -- Where a listing goes on in a line, or between two, the loop leaves what there is.
  leaves : (u : List ℕ) → listing (start (machine r₀ m₀)) input ≡ within (machine r m) k.text used u →
      ListedLines r₀ m₀ input out₀ (record { registers = r; used = used; wrote = wrote; ended = false }) m out
  leaves u is =
      record {
        outcome = ap (λ (i : ℕ). record { registers = r; used = used; wrote = i; ended = false }) k.end ∙ ap listed (sym is);
        memory = ap (λ (y : Listing). y.machine.memory) (sym is);
        output = k.printed ∙ ap (λ (y : Listing). with_text out₀ y.text) (sym is);
      }

  -- A line begun ends the loop, with what was listed so far.
  pub ends_open : front_line (drop used input) ≡ Open →
      ListedLines r₀ m₀ input out₀ (record { registers = r; used = used; wrote = wrote; ended = false }) m out
  ends_open f =
      let p = subst (Fronts (drop used input)) f (fronts (drop used input)) in
      leaves (drop used input) (k.come ∙ never_ends (machine r m) k.text used (drop used input) p.0 p.1)

  -- The input's end ends the loop, with what was listed so far.
  pub ends_even : length input ≤ used →
      ListedLines r₀ m₀ input out₀ (record { registers = r; used = used; wrote = wrote; ended = false }) m out
  unfolding listing
  ends_even h = leaves [] (k.come ∙ ap (listing (between (machine r m) k.text used)) (drop_of_length-le input h))

-- no line at all may go on, and is not bad
open_bad : Open ≢ Bad
open_bad e = true≢false (ap is_open_line e)
  where
    is_open_line : Front → Bool
    is_open_line (Good a n) = false
    is_open_line Bad = false
    is_open_line Open = true

-- between two turns, by the text that is left
pub record Left (r₀ : Registers) (m₀ input out₀ m out : List ℕ) (r : Registers) (left : List ℕ) (wrote : ℕ) : Type 0 where
  pub used : ℕ
  pub is : left ≡ drop used input
  pub kept : Kept r₀ m₀ input out₀ m out r used wrote

-- At the start all is left.
pub left_start : (r : Registers) (m input out : List ℕ) {left : List ℕ} → left ≡ input → Left r m input out m out r left 0
left_start r m input out e = record { used = 0; is = e; kept = at_start r m input out }

module _ {r₀ r : Registers} {m₀ input out₀ m out left : List ℕ} {wrote : ℕ} (k : Left r₀ m₀ input out₀ m out r left wrote)
    (enough : 10 * length input ≤ 3 * (length out₀ - 9)) where
  there : {x : Front} → front_line left ≡ x → front_line (drop k.used input) ≡ x
  there e = ap front_line (sym k.is) ∙ e

  -- The answer to the next good line has room in the output.
  pub room_for_next : {a : Access} {left' : List ℕ} → NextAccess left (Some a) left' → wrote + 20 ≤ length out
  room_for_next next = room_for_answer k.kept enough (there next.1)

  -- After the next good line there is left what is behind it (`Left`).
  pub left_next : {a : Access} {left' : List ℕ} {o : Answered} {m' out' : List ℕ} → NextAccess left (Some a) left' →
      AnsweredLine r m a out wrote o m' out' → length m' ≡ length m → Left r₀ m₀ input out₀ m' out' o.registers left' o.wrote
  left_next next x same =
      record {
        used = k.used + next.0;
        is = next.2 ∙ ap (drop next.0) k.is ∙ drop-drop next.0 k.used input;
        kept = turned k.kept enough (there next.1) x same;
      }

  -- What is left lies in the input, and the bytes before it are used.
  pub used_is : (length left ≤ length input) × (k.used ≡ length input - length left)
  used_is =
      let here = ap length k.is ∙ length-drop k.used input in
      (omega (arith, here), omega (arith, here, k.kept.most))

  module _ {left' : List ℕ} (next : NextAccess left None left') where
    last : {x : Front} → x ≡ front_line left' → front_line (drop k.used input) ≡ x
    last e = there (ap front_line (sym next.1) ∙ sym e)

    so_much : {n : ℕ} → n ≡ length input - length left' → k.used ≡ n
    so_much e = used_is.1 ∙ ap (λ (u : List ℕ). length input - length u) (sym next.1) ∙ sym e

    -- What is left at the end lies in the input.
    pub lies : length left' ≤ length input
    lies = omega (arith, used_is.0, ap length next.1)

    some : front_line left' ≡ Bad → k.used < length input
    unfolding front_line has_feed
    some e = go left' next.1 e
      where
        go : (u : List ℕ) → u ≡ left → front_line u ≡ Bad → k.used < length input
        go [] f e = absurd (open_bad e)
        go (b ∷ u) f e = omega (arith, ap length f, ap length k.is, length-drop k.used input)

    -- Where a bad line is left, `bad line` has room in the output.
    pub room_for_last : {x : Front} → x ≡ front_line left' → x ≡ Bad → wrote + 9 ≤ length out
    room_for_last is e = room_for_bad k.kept enough (some (sym is ∙ e))

    -- A bad line ends the listing, and says so behind the answers.
    pub left_bad : {x : Front} → x ≡ front_line left' → x ≡ Bad → {n e : ℕ} {out' : List ℕ} → n ≡ length input - length left' →
        Put out wrote bad_line e out' → ListedLines r₀ m₀ input out₀ (record { registers = r; used = n; wrote = e; ended = true }) m out'
    left_bad is f {n} {e} {out'} h x =
        subst (λ (i : ℕ). ListedLines r₀ m₀ input out₀ (record { registers = r; used = i; wrote = e; ended = true }) m out')
        (so_much h) (ends_bad k.kept enough (some (sym is ∙ f)) (last is ∙ f) x)

    -- Another ends it with what was listed so far.
    pub left_open : {x : Front} → x ≡ front_line left' → x ≢ Bad → {n : ℕ} → n ≡ length input - length left' →
        ListedLines r₀ m₀ input out₀ (record { registers = r; used = n; wrote = wrote; ended = false }) m out
    left_open {x} is f {n} h =
        subst (λ (i : ℕ). ListedLines r₀ m₀ input out₀ (record { registers = r; used = i; wrote = wrote; ended = false }) m out)
        (so_much h) (ends_open k.kept enough (last (is_open x is f)))
      where
        is_open : (x : Front) → x ≡ front_line left' → x ≢ Bad → Open ≡ front_line left'
        is_open (Good a i) e g = absurd (true≢false (ap is_good (e ∙ ap front_line next.1) ∙ next.0))
        is_open Bad e g = absurd (g refl)
        is_open Open e g = e
