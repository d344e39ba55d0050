-- `field::taking::gather` meets its contract: the window holds the words touched, and the field is in it where
-- `field_in_window` says; the cycles are as many as those words (`cycle_each`).
use Prim.Native.Nat.{ℕ, ◌*◌, ◌/◌, ◌%◌, ◌^◌, ◌<◌, ◌≤◌}
use native.Mathlib.Nat.{mod-lt, lt_of_lt_of_le}
use native.Mathlib.Omega.{arith}
use lib.Pow.{pow_pos, pow_mono}
use Rattle.std.proofs.lemmas.Nat.{one_shl}
use Rattle.words.specs.Memory.{AreWords}
use Rattle.field_spec.proofs.Counted.{no_fourth_word, touched_is, last_is}
use Rattle.field_spec.proofs.Grants.{cycle_each}
use Rattle.words.specs.Addresses.{word_at}
use Rattle.field_spec.specs.Field.{field_at}
use Rattle.field_spec.specs.Count.{touched, take_cycles}
use Rattle.field.specs.Parts.{window}
use mathlib.Core.Path.{◌≡◌, sym, ◌∙◌}
use Rattle.field.proofs.Window.{field_in_window}
use Rattle.field.proofs.taking.gather.Goals as goal

pub touched_by-words-requires : goal.touched_by-words-requires
touched_by-words-requires c = (c.requires.some, c.requires.most)

pub window_at-window-requires : goal.window_at-window-requires
window_at-window-requires c =
    let a = c.args.at in
    let n = c.args.size in
    rw (c.word_of.ensures, c.touched_by-words.ensures) (
      omega (arith, touched_is a n c.requires.some),
      (no_fourth_word a n c.requires.most, omega (arith, c.requires.there, last_is a n c.requires.some, touched_is a n c.requires.some)),
    )

-- The modulus of the code.
whole : (n : ℕ) → n ≤ 32 → 1 * 2 ^ n % 2 ^ 64 ≡ 2 ^ n
whole n l = one_shl n 64 (omega arith)

pub overflow_cast-result : goal.overflow_cast-result
overflow_cast-result c =
    let n = c.args.size in
    let v = c.window_at-window.result / 2 ^ (c.args.at.0 % 16) in
    let fits : v % 2 ^ n < 2 ^ 32 = lt_of_lt_of_le (mod-lt v (pow_pos n)) (pow_mono {j = 32} c.requires.most) in
    let cut : v % (1 * 2 ^ n % 2 ^ 64) < 2 ^ 32 = rw (whole n c.requires.most) fits in
    omega (arith, cut)

pub returns : goal.returns
returns c =
    let m = c.args.memory.now in
    let a = c.args.at in
    let n = c.args.size in
    let words : AreWords m = λ k. (c.type_inv.memory k).fits in
    let value : window m (word_at a).0 (touched a n) / 2 ^ (a.0 % 16) % (1 * 2 ^ n % 2 ^ 64) ≡ field_at m a n =
    rw (whole n c.requires.most) (sym (field_in_window m words a n)) in
    let taken : c.window_at-window.result / 2 ^ (a.0 % 16) % (1 * 2 ^ n % 2 ^ 64) ≡ field_at m a n =
    rw (c.window_at-window.ensures, c.word_of.ensures, c.touched_by-words.ensures) value in
    let count : c.touched_by-words.result ≡ take_cycles a n = c.touched_by-words.ensures ∙ sym (cycle_each a n) in
    λ j. record { number = 0; value = taken j; cycles = count j }
