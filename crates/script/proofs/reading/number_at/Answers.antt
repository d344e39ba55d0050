-- `script::reading::number_at` meets its contract: digit by digit, until one is none.
use Rattle.std.proofs.Common.{◌≡◌, ℕ, ◌+◌, ◌-◌, ◌<◌, ◌≤◌, Some, None, List, length, take, drop, get_or, refl, sym, ap, ◌∙◌, arith}
use Rattle.std.proofs.lemmas.List.{get_or-take, get_or-drop}
use lib.ListN.{length-take, length-drop}
use Rattle.digits.specs.Digits.{hex_value}
use Rattle.script.specs.Script.{digits_from, number_from}
use Rattle.script.proofs.Shapes.{number_small, digit_more, no_space, no_digit, eight_digits}
use Rattle.script.proofs.reading.number_at.Goals as goal

-- the eight bytes that are read
abbrev part : List ℕ → ℕ → List ℕ
part s at = take (at + 9 - (at + 1)) (drop (at + 1) s)

eight : (s : List ℕ) (at : ℕ) → at + 9 ≤ length s → length (part s at) ≡ 8
eight s at h = simp (length-take, length-drop) (omega (arith, h))

byte_of : (s : List ℕ) (at i : ℕ) → i < 8 → get_or (part s at) i 0 ≡ get_or s (at + 1 + i) 0
byte_of s at i h = get_or-take (at + 9 - (at + 1)) (drop (at + 1) s) i 0 (omega (arith, h)) ∙ get_or-drop (at + 1) s i 0

pub returns-then-line-at-ne32 : goal.returns-then-line-at-ne32
returns-then-line-at-ne32 c = no_space c.args.line.now c.args.at c.if-line-at-ne32.true

pub loop-digit-init : goal.loop-digit-init
unfolding digits_from number_from
loop-digit-init c = (refl, refl)

pub overflow_mul-number : goal.overflow_mul-number
overflow_mul-number c =
    let n = eight c.args.line.now c.args.at c.requires in
    let i : c.loop-digit.digit-index < 8 = omega (arith, n, c.loop-digit-test.true) in
    let small = number_small c.args.line.now (c.args.at + 1) c.loop-digit.digit-index i c.loop-digit.invariant.0 in
    omega (arith, small, c.loop-digit.invariant.1)

pub returns-in_err-hex_value : goal.returns-in_err-hex_value
returns-in_err-hex_value c =
    let s = c.args.line.now in
    let n = eight s c.args.at c.requires in
    let i : c.loop-digit.digit-index < 8 = omega (arith, n, c.loop-digit-test.true) in
    let none : hex_value (get_or (part s c.args.at) c.loop-digit.digit-index 0) ≡ None = sym c.hex_value.ensures ∙ c.in_err-hex_value.was in
    c.from_residual.ensures
    ∙ no_digit s c.args.at c.loop-digit.digit-index i (ap hex_value (sym (byte_of s c.args.at c.loop-digit.digit-index i)) ∙ none)

pub overflow_add-number : goal.overflow_add-number
overflow_add-number c =
    let s = c.args.line.now in
    let n = eight s c.args.at c.requires in
    let i : c.loop-digit.digit-index < 8 = omega (arith, n, c.loop-digit-test.true) in
    let some : hex_value (get_or (part s c.args.at) c.loop-digit.digit-index 0) ≡ Some c.in_ok-hex_value.field-0 =
    sym c.hex_value.ensures ∙ c.in_ok-hex_value.was in
    let small = number_small s (c.args.at + 1) c.loop-digit.digit-index i c.loop-digit.invariant.0 in
    let more = digit_more s (c.args.at + 1) c.loop-digit.digit-index c.in_ok-hex_value.field-0 c.loop-digit.invariant.0
    (ap hex_value (sym (byte_of s c.args.at c.loop-digit.digit-index i)) ∙ some) in
    omega (arith, small, c.loop-digit.invariant.1, more.2, c.from.ensures)

pub loop-digit-preserved : goal.loop-digit-preserved
loop-digit-preserved c =
    let s = c.args.line.now in
    let n = eight s c.args.at c.requires in
    let i : c.loop-digit.digit-index < 8 = omega (arith, n, c.loop-digit-test.true) in
    let some : hex_value (get_or (part s c.args.at) c.loop-digit.digit-index 0) ≡ Some c.in_ok-hex_value.field-0 =
    sym c.hex_value.ensures ∙ c.in_ok-hex_value.was in
    let more = digit_more s (c.args.at + 1) c.loop-digit.digit-index c.in_ok-hex_value.field-0 c.loop-digit.invariant.0
    (ap hex_value (sym (byte_of s c.args.at c.loop-digit.digit-index i)) ∙ some) in
    (more.0, rw (c.from.ensures, c.loop-digit.invariant.1) more.1)

pub returns : goal.returns
returns c =
    let n = eight c.args.line.now c.args.at c.requires in
    let all : c.loop-digit.digit-index ≡ 8 = omega (arith, n, c.loop-digit-test.false, c.loop-digit.auto.digit-index-end) in
    let k = rw all at c.loop-digit.invariant in
    ap Some k.1 ∙ eight_digits c.args.line.now c.args.at c.if-line-at-ne32.false k.0
