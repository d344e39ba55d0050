-- `field::putting::scatter` meets its contract: a field in one word by `in_one`, in two by `in_two`, in three by `in_three`.
use native.Mathlib.Omega.{arith}
use Prim.Native.Nat.{◌≤◌}
use Rattle.field.proofs.PutByWords.{put_little, part_length, rest_of_value, in_one, in_two, in_three}
use Rattle.field.proofs.putting.scatter.Goals as goal

pub put_part-requires : goal.put_part-requires
put_part-requires c =
    (rw c.word_of-word.ensures (omega (arith, c.requires.there)), c.if-end-le16.true)

pub returns-then-end-le16 : goal.returns-then-end-le16
returns-then-end-le16 c =
    rw (c.cost_of.ensures, c.put_part.ensures, c.word_of-word.ensures) (in_one _ _ _ _ c.requires c.if-end-le16.true)

pub put_part-requires-2 : goal.put_part-requires-2
put_part-requires-2 c =
    (rw c.word_of-word.ensures (omega (arith, c.requires.there)), omega arith)

pub put_part-requires-then-end-le32 : goal.put_part-requires-then-end-le32
put_part-requires-then-end-le32 c = (
  rw (c.word_of-word.ensures, c.put_part-2.ensures, part_length) (omega (arith, c.requires.there, c.if-end-le16.false)),
  omega (arith, c.if-end-le32.true),
)

pub overflow_add-result : goal.overflow_add-result
overflow_add-result c =
    let x : c.cost_of-then-end-le32.result ≤ 2 = rw c.cost_of-then-end-le32.ensures (put_little _) in
    let y : c.cost_of-then-end-le32-2.result ≤ 2 = rw c.cost_of-then-end-le32-2.ensures (put_little _) in
    omega arith

pub returns-then-end-le32 : goal.returns-then-end-le32
returns-then-end-le32 c =
    rw (
      c.cost_of-then-end-le32.ensures,
      c.cost_of-then-end-le32-2.ensures,
      c.put_part-then-end-le32.ensures,
      rest_of_value,
      c.put_part-2.ensures,
      c.word_of-word.ensures,
    )
    (in_two _ _ _ _ c.requires c.if-end-le16.false c.if-end-le32.true)

pub put_part-requires-3 : goal.put_part-requires-3
put_part-requires-3 c = (
  rw (c.word_of-word.ensures, c.put_part-2.ensures, part_length) (omega (arith, c.requires.there, c.if-end-le16.false)),
  omega arith,
)

pub put_part-requires-4 : goal.put_part-requires-4
put_part-requires-4 c = (
  rw (c.word_of-word.ensures, c.put_part-3.ensures, part_length, c.put_part-2.ensures, part_length)
      (omega (arith, c.requires.there, c.if-end-le32.false)),
  omega (arith, c.requires.most),
)

pub returns : goal.returns
returns c =
    rw (c.put_part-4.ensures, c.put_part-3.ensures, rest_of_value, rest_of_value, c.put_part-2.ensures, c.word_of-word.ensures)
    (in_three _ _ _ _ c.requires c.if-end-le32.false)
