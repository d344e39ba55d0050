-- What the contracts of the reads promise, said of any outcome that they allow; and what the contracts say, taken from the contracts
-- themselves (`Contract`): each is a statement on the call's own arguments.
use Prim.Native.Nat.{ℕ, ◌+◌, ◌-◌, ◌≤◌, ◌<◌, min}
use native.Mathlib.Omega.{arith}
use mathlib.Core.Bool.{false}
use mathlib.Core.List.{List}
use mathlib.Core.Logic.{⊎_elim}
use mathlib.Core.Path.{◌≡◌, refl, ap, sym, ◌∙◌}
use lib.ListN.{length, take}
use borrow.Author.Rules.{rules}
use mir.Syntax.{w64}
use mir.Val.{Fits}
use borrow.Fn.Kinds.{Dens, ended_of}
use contract.Lifetimes.{Lfts}
use denote.Triple.Clauses.{AtExit}
use Rattle.std.proofs.lemmas.Bool.{cases_Bool}
use Rattle.words.proofs.Contracts.{Contract}
use Rattle.std.specs.Prelude.{Result, Ok, Err, is_err, IsErr}
use Rattle.input.specs.Filling.{answered, there, FilledBehind, FilledWhole}
use Rattle.input.specs.declared.Unread.{Unread}
use Rattle.input.proofs.filling.judge.Kinds as judge_kinds
use Rattle.input.proofs.filling.judge.Reads as judge
use Rattle.input.proofs.filling.fill.Kinds as fill_kinds
use Rattle.input.proofs.filling.fill.Reads as fill
use Rattle.input.proofs.whole.fill_whole.Kinds as fill_whole_kinds
use Rattle.input.proofs.whole.fill_whole.Reads as fill_whole
use Rattle.input.proofs.records.read_record.Kinds as read_record_kinds
use Rattle.input.proofs.records.read_record.Reads as read_record
use Rattle.input.proofs.records.read_record_from.Kinds as read_record_from_kinds
use Rattle.input.proofs.records.read_record_from.Reads as read_record_from
use Rattle.input.proofs.records.all_records.Kinds as all_records_kinds
use Rattle.input.proofs.records.all_records.Reads as all_records
use Rattle.input.proofs.records.places_lent.Kinds as places_lent_kinds
use Rattle.input.proofs.records.places_lent.Reads as places_lent

-- A read whose answer is an error has failed, and it brings nothing.
pub error_fails : {E : Type 0} (e : E) (held room : ℕ) → answered (Err e) held room ≡ Err (record { all = held })
unfolding answered
error_fails e held room = refl

-- A read that answers how many bytes it brought has not failed, and there are so many more, as far as there was room.
pub counted_is_read : (E : Type 0) (k held room : ℕ) → answered {E = E} (Ok k) held room ≡ Ok (held + min k room)
unfolding answered
counted_is_read E k held room = refl

module _ {b : List ℕ} {held : ℕ} {r : Result ℕ Unread} {b' : List ℕ} (p : FilledBehind b held r b') where
  -- A read leaves the bytes that are held, and the buffer as long as it was.
  pub held_bytes_stay : (take held b' ≡ take held b) × (length b' ≡ length b)
  held_bytes_stay = (p.first, p.as_long)

  -- With room for a byte more, there is after a read at least what was held, and no more than the buffer has.
  pub more_fits : held < length b → (held ≤ there r) × (there r ≤ length b)
  more_fits h = (p.behind, p.within h)

  -- A read that failed brings nothing.
  pub failed_brings_nothing : IsErr r → there r ≡ held
  failed_brings_nothing = p.failed_none

  -- Without room for a byte more, a read changes no byte, brings nothing, and has failed: it does not look like the input's end.
  pub no_room_no_end : length b ≤ held → (b' ≡ b) × (there r ≡ held) × IsErr r
  no_room_no_end h =
      let e = p.no_room h in
      (e.1, ap there e.0, ap (λ (x : Result ℕ Unread). is_err x) e.0)

module _ {b : List ℕ} {r : Result ℕ Unread} {b' : List ℕ} (p : FilledWhole b r b') where
  -- Reads one after another leave the buffer as long as it was, and what there is then lies in it.
  pub whole_fits : (length b' ≡ length b) × (there r ≤ length b)
  whole_fits = (p.as_long, p.within)

  -- A buffer that reads have filled has not failed, whatever would have come behind it.
  pub full_has_not_failed : there r ≡ length b → is_err r ≡ false
  full_has_not_failed e = ⊎_elim (λ f. absurd (omega (arith, e, p.failed_short f))) (λ f. f) (cases_Bool (is_err r))

  -- Into a buffer without a place nothing is read: there are no bytes then, and no read has failed.
  pub nothing_lent : length b ≡ 0 → (there r ≡ 0) × (is_err r ≡ false)
  nothing_lent e =
      let none : there r ≡ 0 = omega (arith, p.within, e) in
      (none, full_has_not_failed (none ∙ sym e))

-- ---- the contracts themselves
-- The function that judges what a read answered says what that answer means (`answered`).
pub judge_says : (κs : Lfts 1) (a : Dens κs judge_kinds.ps) (r : Result ℕ Unread)
    (s : AtExit (ended_of 1 judge_kinds.ps judge_kinds.r) κs) →
    judge.Post κs a r s → r ≡ answered a.0 a.1.0 (length a.1.1.0.now - a.1.0)
judge_says κs a r s p = p

-- `fill` takes any buffer and held, and all that its contract allows is `FilledBehind` of them.
pub fill_contract : Contract fill_kinds.ps fill_kinds.r fill.Pre fill.Post
    (λ κs args r left.
    let buffer = args.0 in
    let buffer' = left.0 in
    let held = args.1.0 in
    FilledBehind buffer.now held r buffer'.now)
fill_contract = record { takes_any = λ κs args. tt; says = λ κs args r left p. p }

-- `fill_whole` takes any buffer, and all that its contract allows is `FilledWhole` of it.
pub fill_whole_contract : Contract fill_whole_kinds.ps fill_whole_kinds.r fill_whole.Pre fill_whole.Post
    (λ κs args r left.
    let buffer = args.0 in
    let buffer' = left.0 in
    FilledWhole buffer.now r buffer'.now)
fill_whole_contract = record { takes_any = λ κs args. tt; says = λ κs args r left p. p }

-- `read_record` takes any bytes, and all that its contract allows is that there are as many afterwards, whatever they are.
pub read_record_contract : Contract read_record_kinds.ps read_record_kinds.r read_record.Pre read_record.Post
    (λ κs args r left.
    let bytes = args.0 in
    let bytes' = left.0 in
    length bytes'.now ≡ length bytes.now)
read_record_contract = record { takes_any = λ κs args. tt; says = λ κs args r left p. p }

-- `read_record_from` takes any bytes and handles, and all that its contract allows is the same.
pub read_record_from_contract : Contract read_record_from_kinds.ps read_record_from_kinds.r read_record_from.Pre read_record_from.Post
    (λ κs args r left.
    let bytes = args.0 in
    let bytes' = left.0 in
    length bytes'.now ≡ length bytes.now)
read_record_from_contract = record { takes_any = λ κs args. tt; says = λ κs args r left p. p }

-- `all_records` makes the records of a script of any length, and all that its contract allows is that they count down from 2^64 - 1.
pub all_records_contract : (n : ℕ) (fits : Fits w64 n) →
    Contract (all_records_kinds.ps n fits) (all_records_kinds.r n fits) (all_records.Pre n fits) (all_records.Post n fits)
    (λ κs args r left. r.turns ≡ 0xFFFFFFFFFFFFFFFF)
all_records_contract n fits = record { takes_any = λ κs args. search rules; says = λ κs args r left p. p }

-- `places_lent` takes any b and places, and all that its contract allows is the smaller (`min`).
pub places_lent_contract : Contract places_lent_kinds.ps places_lent_kinds.r places_lent.Pre places_lent.Post
    (λ κs args r left.
    let b = args.0 in
    let places = args.1.0 in
    r ≡ min b places)
places_lent_contract = record { takes_any = λ κs args. tt; says = λ κs args r left p. p }
