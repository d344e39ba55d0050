-- Four lists of which code lends the first places, and these come back: what it lends and leaves is what the definitions say.
use Prim.Native.Nat.{ℕ, ◌-◌, min}
use mathlib.Core.Path.{◌≡◌}
use lib.ListN.{length, take}
use borrow.Rule.Slice.PartMut.{put_mid}
use Rattle.words.proofs.Lent.{lent_is, back_is}
use Rattle.transcript_spec.specs.Lists.{Lists, lists, lent_lists, lists_back}

-- what code lends of four lists: their first places, so many of each
abbrev pub parts : ℕ → ℕ → ℕ → ℕ → Lists → Lists
parts k r n w l = lists (take (k - 0) l.kinds) (take (r - 0) l.registers) (take (n - 0) l.lanes) (take (w - 0) l.words)

-- four lists whose first places, so many of each, come back as `part`
abbrev pub put_back : ℕ → ℕ → ℕ → ℕ → Lists → Lists → Lists
put_back k r n w l part =
    lists (put_mid 0 (k - 0) l.kinds part.kinds) (put_mid 0 (r - 0) l.registers part.registers)
    (put_mid 0 (n - 0) l.lanes part.lanes) (put_mid 0 (w - 0) l.words part.words)

-- k, r, n and w places are lent, where k₀, r₀, n₀ and w₀ are asked for
pub record Lends (k₀ r₀ n₀ w₀ : ℕ) (l : Lists) (k r n w : ℕ) : Type 0 where
  pub of_kinds : k ≡ min k₀ (length l.kinds)
  pub of_registers : r ≡ min r₀ (length l.registers)
  pub of_lanes : n ≡ min n₀ (length l.lanes)
  pub of_words : w ≡ min w₀ (length l.words)

module _ {k₀ r₀ n₀ w₀ : ℕ} {l : Lists} {k r n w : ℕ} (y : Lends k₀ r₀ n₀ w₀ l k r n w) where
  -- What code lends is the first places of each list, as many as are asked for, or all where there are fewer.
  pub parts_lent : parts k r n w l ≡ lent_lists k₀ r₀ n₀ w₀ l
  parts_lent i =
      lists (lent_is k₀ k l.kinds y.of_kinds i) (lent_is r₀ r l.registers y.of_registers i)
      (lent_is n₀ n l.lanes y.of_lanes i) (lent_is w₀ w l.words y.of_words i)

  -- What comes back takes the first places of each list, as many as were asked for, or all where there are fewer, and the others stay.
  pub parts_back : (part : Lists) → put_back k r n w l part ≡ lists_back k₀ r₀ n₀ w₀ l part
  parts_back part i =
      lists (back_is k₀ k l.kinds y.of_kinds part.kinds i) (back_is r₀ r l.registers y.of_registers part.registers i)
      (back_is n₀ n l.lanes y.of_lanes part.lanes i) (back_is w₀ w l.words y.of_words part.words i)
