-- `transcript::records::put_groups` meets its contract: by the number's size, one, two or three bytes, each in its place.
use Prim.Native.Nat.{ℕ, suc, ◌+◌, ◌/◌, ◌%◌, ◌≤◌, ◌<◌}
use native.Mathlib.Numerals.{add-one}
use native.Mathlib.Omega.{arith}
use mathlib.Core.Path.{◌≡◌, refl, ap}
use mathlib.Core.List.{List}
use lib.ListN.{length, set, length-set}
use Rattle.transcript_spec.specs.Format.{groups}
use Rattle.transcript.specs.WriterParts.{Put}
use Rattle.transcript_spec.proofs.Groups.{one_group, two_groups, three_groups}
use Rattle.transcript.proofs.records.put_groups.Goals as goal

module _ (o : List ℕ) (at v : ℕ) where
  one_put : v < 128 → Put o at (groups v) (at + 1) (set o at v)
  one_put h = rw (one_group v h) (record { end = refl; bytes = refl })

  two_put : 128 ≤ v → v < 16384 → Put o at (groups v) (at + 2) (set (set o at (128 + v / 128)) (at + 1) (v % 128))
  two_put h k = rw (two_groups v h k, add-one at) (record { end = refl; bytes = refl })

  three-put : 16384 ≤ v →
      Put o at (groups v) (at + 3) (set (set (set o at (128 + v / 16384)) (at + 1) (128 + v / 128 % 128)) (at + 2) (v % 128))
  three-put h =
      let two : at + 2 ≡ suc (suc at) = omega arith in
      rw (three_groups v h, add-one at, two) (record { end = refl; bytes = refl })

pub bounds-bytes-at : goal.bounds-bytes-at
bounds-bytes-at c = omega (arith, c.requires.1, ap length (one_group c.args.v c.if-v-lt128.true))

pub overflow_add-result : goal.overflow_add-result
overflow_add-result c = omega (arith, c.requires.1, ap length (one_group c.args.v c.if-v-lt128.true))

pub shape_of-bytes-then-v-lt128 : goal.shape_of-bytes-then-v-lt128
shape_of-bytes-then-v-lt128 c = simp length-set

pub returns-then-v-lt128 : goal.returns-then-v-lt128
returns-then-v-lt128 c = one_put _ _ _ c.if-v-lt128.true

pub bounds-bytes-at-then-v-lt16384 : goal.bounds-bytes-at-then-v-lt16384
bounds-bytes-at-then-v-lt16384 c = omega (arith, c.requires.1, ap length (two_groups c.args.v c.if-v-lt128.false c.if-v-lt16384.true))

pub bounds-bytes-at-then-v-lt16384-2 : goal.bounds-bytes-at-then-v-lt16384-2
bounds-bytes-at-then-v-lt16384-2 c =
    simp length-set
    (omega (arith, c.requires.1, ap length (two_groups c.args.v c.if-v-lt128.false c.if-v-lt16384.true)))

pub shape_of-bytes-then-v-lt16384 : goal.shape_of-bytes-then-v-lt16384
shape_of-bytes-then-v-lt16384 c = simp length-set

pub returns-then-v-lt16384 : goal.returns-then-v-lt16384
returns-then-v-lt16384 c = two_put _ _ _ c.if-v-lt128.false c.if-v-lt16384.true

pub bounds-bytes-at-2 : goal.bounds-bytes-at-2
bounds-bytes-at-2 c = omega (arith, c.requires.1, ap length (three_groups c.args.v c.if-v-lt16384.false))

pub bounds-bytes-at-3 : goal.bounds-bytes-at-3
bounds-bytes-at-3 c = simp length-set (omega (arith, c.requires.1, ap length (three_groups c.args.v c.if-v-lt16384.false)))

pub bounds-bytes-at-4 : goal.bounds-bytes-at-4
bounds-bytes-at-4 c = simp length-set (omega (arith, c.requires.1, ap length (three_groups c.args.v c.if-v-lt16384.false)))

pub shape_of-bytes : goal.shape_of-bytes
shape_of-bytes c = simp length-set

pub returns : goal.returns
returns c = three-put _ _ _ c.if-v-lt16384.false
