-- `field::judging::judge` meets its contract: each test is the definition's.
use mathlib.Core.Path.{◌≡◌, sym, ◌∙◌}
use mathlib.Core.Bool.{Bool, false}
use native.Mathlib.Omega.{arith}
use borrow.Author.Tests.{le-ltb, le-leb, lt-leb}
use Rattle.field_spec.proofs.Counted.{touched_is, last_is}
use Rattle.field_spec.specs.Answers.{refusal}
use Rattle.field_spec.proofs.Accepted.{sized}
use Rattle.field.proofs.judging.judge.Goals as goal

-- A test that has come out false is false as the definition's.
passed : {t d : Bool} → t ≡ d → t ≡ false → d ≡ false
passed is came = sym is ∙ came

pub touched_by-count-requires : goal.touched_by-count-requires
touched_by-count-requires c = sized _ (passed c.is_no_size.ensures c.if-is_no_size.false)

pub overflow_sub-last : goal.overflow_sub-last
overflow_sub-last c =
    let a = c.args in
    omega (arith, c.touched_by-count.ensures, touched_is a.at a.size (sized _ (passed c.is_no_size.ensures c.if-is_no_size.false)).0)

pub returns-then-words-last : goal.returns-then-words-last
unfolding refusal
returns-then-words-last c =
    rw (
      passed c.is_over_limit.ensures c.if-is_over_limit.false,
      passed c.is_no_size.ensures c.if-is_no_size.false,
      le-ltb _ _ (rw c.touched_by-count.ensures at c.if-count-gt3.false),
      last_is _ _ (sized _ (passed c.is_no_size.ensures c.if-is_no_size.false)).0,
      le-leb _ _ (rw (c.word_of.ensures, c.touched_by-count.ensures) at c.if-words-last.true),
    )

pub returns : goal.returns
unfolding refusal
returns c =
    rw (
      passed c.is_over_limit.ensures c.if-is_over_limit.false,
      passed c.is_no_size.ensures c.if-is_no_size.false,
      le-ltb _ _ (rw c.touched_by-count.ensures at c.if-count-gt3.false),
      last_is _ _ (sized _ (passed c.is_no_size.ensures c.if-is_no_size.false)).0,
      lt-leb _ _ (rw (c.word_of.ensures, c.touched_by-count.ensures) at c.if-words-last.false),
    )
