-- The two loops over the entries of a list: what holds at each turn, and what it says at the end; and where the first entry is that no line
-- can say. Each goes by the entries that are left.
use Prim.Native.Nat.{ℕ, suc, ◌+◌, ◌-◌, ◌≤◌, ◌<◌}
use native.Mathlib.Numerals.{add-one}
use native.Mathlib.Omega.{arith}
use mathlib.Core.Path.{◌≡◌, refl, sym, ap, ◌∙◌, subst}
use mathlib.Core.Bool.{Bool, true, false, cond}
use mathlib.Core.List.{List, [], ◌∷◌, ◌++◌, append_assoc, append-nil}
use lib.ListN.{length, length-append}
use borrow.Author.Tests.{lt-ltb, le-ltb}
use Rattle.std.specs.Prelude.{Option, Some, None, Result, Ok, Err, position}
use Rattle.std.specs.List.{position_from}
use Rattle.std.proofs.lemmas.Iterator.Adapters.{position_from-zero}
use Rattle.listing.specs.Spelled.{lines_of}
use Rattle.listing.specs.Parts.{laid, Put}
use Rattle.listing.proofs.Laying.{with_more}
use Rattle.transcript_spec.specs.Lists.{over}
use Rattle.transcript_spec.specs.declared.Entry.{Entry}
use Rattle.transcript_spec.proofs.Filled.{over_length}
use Rattle.transcript_lines.specs.Lines.{unsayable, line, text_of, AllHaveLines}
use Rattle.transcript_lines.specs.Putting.{first_unsayable, written_if_fits}
use Rattle.transcript_lines.specs.declared.NotPut.{NotPut}
use Rattle.transcript_lines.specs.declared.NotPut.TheVariants.{Unsayable, NoBytes}

-- ---- each is judged

-- the answer to the index of the first entry that no line can say
abbrev pub answered : Result ℕ NotPut → Option ℕ → Result ℕ NotPut
answered done None = done
answered done (Some k) = Err (Unsayable k)

from_place : (done : Result ℕ NotPut) (k : ℕ) (es : List Entry) → answered done (position_from unsayable k es) ≡ first_unsayable k es done
unfolding first_unsayable
from_place done k [] = refl
from_place done k (e ∷ rest) =
    either (unsayable e) (from_place done (k + 1) rest ∙ ap (λ (j : ℕ). first_unsayable j rest done) (add-one k))
  where
    either : (b : Bool) → answered done (position_from unsayable (k + 1) rest) ≡ first_unsayable (suc k) rest done →
        answered done (cond b (Some k) (position_from unsayable (k + 1) rest)) ≡
        cond b (Err (Unsayable k)) (first_unsayable (suc k) rest done)
    either true later = refl
    either false later = later

-- The answer goes by the index of the first entry that no line can say.
pub judged_at : (done : Result ℕ NotPut) (es : List Entry) {o : Option ℕ} → o ≡ position unsayable es →
    answered done o ≡ first_unsayable 0 es done
judged_at done es is = ap (answered done) (is ∙ position_from-zero unsayable es) ∙ from_place done 0 es

-- ---- their lines have so many bytes

abbrev bytes : List Entry → ℕ
bytes es = length (text_of es)

-- the lines of the entries that are not left fit the room, and leave so many bytes of it
pub record Measured (es : List Entry) (room spare : ℕ) (left : List Entry) : Type 0 where
  pub less : spare ≤ room
  pub come : spare + bytes es ≡ room + bytes left

-- At first all of the room is left.
pub measured_start : {es left : List Entry} (room : ℕ) → left ≡ es → Measured es room room left
measured_start room all = record { less = omega arith; come = ap (λ (l : List Entry). room + bytes l) (sym all) }

one_line : {e : Entry} {left left' : List Entry} → left ≡ e ∷ left' → bytes left ≡ length (line e) + bytes left'
unfolding lines_of
one_line {e} {left' = left'} next = ap bytes next ∙ length-append (line e) (text_of left')

module _ {es left : List Entry} {room spare : ℕ} (k : Measured es room spare left) where
  module _ {bytes_here : ℕ} {e : Entry} {left' : List Entry} (next : left ≡ e ∷ left') (long : bytes_here ≡ length (line e)) where
    -- The next line, if it fits what is left, takes its bytes of it.
    pub measured_next : bytes_here ≤ spare → Measured es room (spare - bytes_here) left'
    measured_next fits = record { less = omega (arith, k.less); come = omega (arith, k.come, one_line next, long, fits) }

    -- Where the next line does not fit what is left, the lines do not fit.
    pub measured_out : spare < bytes_here → Err NoBytes ≡ written_if_fits (bytes es) room
    measured_out more = rw (lt-ltb room (bytes es) (omega (arith, k.come, k.less, one_line next, long, more))) refl

  -- Where all lines are measured, they fit, and have as many bytes as the room has lost.
  pub measured_all : left ≡ [] → Ok (room - spare) ≡ written_if_fits (bytes es) room
  unfolding lines_of
  measured_all none =
      let nothing : bytes left ≡ 0 = ap bytes none in
      let all : room - spare ≡ bytes es = omega (arith, k.come, k.less, nothing) in
      rw (le-ltb room (bytes es) (omega (arith, all))) (ap Ok all)

-- ---- their lines are laid

-- the lines of the entries that are not left stand at the text's beginning
pub record Laid (es : List Entry) (out₀ out : List ℕ) (at : ℕ) (left : List Entry) : Type 0 where
  pub text : List ℕ
  pub come : text_of es ≡ text ++ text_of left
  pub there : out ≡ over text out₀
  pub end : at ≡ length text
  pub says : AllHaveLines left

-- At first no line stands in the text.
pub laid_start : {es left : List Entry} (out : List ℕ) → left ≡ es → AllHaveLines es → Laid es out out 0 left
laid_start out all says =
    record { text = []; come = ap text_of (sym all); there = refl; end = refl; says = subst AllHaveLines (sym all) says }

module _ {es left : List Entry} {out₀ out : List ℕ} {at : ℕ} (k : Laid es out₀ out at left) (room : bytes es ≤ length out₀) where
  whole : bytes es ≡ length k.text + bytes left
  whole = ap length k.come ∙ length-append k.text (text_of left)

  -- The text is as long as it was, whatever lines stand in it.
  pub laid_length : length out ≡ length out₀
  laid_length = ap length k.there ∙ over_length k.text out₀ (omega (arith, whole, room))

  module _ {e : Entry} {left' : List Entry} (next : left ≡ e ∷ left') where
    -- the next line has its place
    room_there : length k.text + length (line e) ≤ length out₀
    room_there = omega (arith, whole, room, one_line next)

    -- The next line has its place in the text, and a line can say its entry.
    pub laid_room : (at + length (line e) ≤ length out) × (unsayable e ≡ false)
    laid_room = (omega (arith, room_there, k.end, laid_length), (subst AllHaveLines next k.says).0)

    -- The next line, put behind those before it, stands there with them.
    pub laid_next : {end : ℕ} {out' : List ℕ} → Put out at (line e) end out' → Laid es out₀ out' end left'
    unfolding lines_of
    laid_next x =
        record {
          text = k.text ++ line e;
          come =
              k.come ∙ ap (λ (l : List Entry). k.text ++ text_of l) next ∙ sym (append_assoc k.text (line e) (text_of left'));
          there =
              x.output ∙
              ap (λ (o : List ℕ). laid o at (line e)) k.there ∙
              ap (λ (n : ℕ). laid (over k.text out₀) n (line e)) k.end ∙
              with_more out₀ k.text (line e) room_there;
          end = x.end ∙ ap (λ (n : ℕ). n + length (line e)) k.end ∙ sym (length-append k.text (line e));
          says = (subst AllHaveLines next k.says).1;
        }

  -- After the last entry the lines of all stand at the text's beginning, and the later bytes are as they were.
  pub laid_all : left ≡ [] → out ≡ over (text_of es) out₀
  unfolding lines_of
  laid_all none =
      let all : text_of es ≡ k.text = k.come ∙ ap (λ (l : List Entry). k.text ++ text_of l) none ∙ append-nil k.text in
      k.there ∙ ap (λ (t : List ℕ). over t out₀) (sym all)
