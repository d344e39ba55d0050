-- `field::taking::window_at` meets its contract: the sums are the definition's for one, two and three words.
use native.Mathlib.Omega.{arith}
use mathlib.Core.Path.{◌≡◌, sym}
use Rattle.field.proofs.Window.{one_word, two_words, three_words}
use Rattle.field.proofs.taking.window_at.Goals as goal

pub returns-then-words-eq1 : goal.returns-then-words-eq1
returns-then-words-eq1 c = rw (c.from-first.ensures, c.if-words-eq1.true) (sym (one_word _ _))

pub returns-then-words-eq2 : goal.returns-then-words-eq2
returns-then-words-eq2 c = rw (c.from-first.ensures, c.from-second.ensures, c.if-words-eq2.true) (sym (two_words _ _))

pub returns : goal.returns
returns c =
    let e : c.args.words ≡ 3 = omega (arith, c.requires.0, c.requires.1.0, c.if-words-eq2.false, c.if-words-eq1.false) in
    rw (c.from-first.ensures, c.from-second.ensures, c.from-third.ensures, e) (sym (three_words _ _))
