-- Every entry that a transcript holds has a line: its register and its lanes are at most 3.
use native.Mathlib.Omega.{arith}
use mathlib.Core.Path.{◌≡◌}
use mathlib.Core.Bool.{false}
use mathlib.Core.List.{List, [], ◌∷◌}
use Rattle.transcript_spec.specs.InPlainWords.{Good, AllGood}
use Rattle.transcript_spec.specs.declared.Entry.{Entry}
use Rattle.transcript_lines.specs.Lines.{unsayable, AllHaveLines}
use Rattle.transcript_lines.proofs.Sayable.{sayable_when}

-- Every entry that a transcript holds has a line: a line can say a good entry.
pub good_sayable : (e : Entry) → Good e → unsayable e ≡ false
good_sayable e g =
    (sayable_when e).1
    (record {
      kind = g.kind;
      register = omega (arith, g.register);
      lanes = omega (arith, g.lanes);
      word = g.word;
      of_read = g.read;
    })

-- A line can say each of a list of good entries.
pub all_sayable : (es : List Entry) → AllGood es → AllHaveLines es
all_sayable [] g = tt
all_sayable (e ∷ es) g = (good_sayable e g.0, all_sayable es g.1)
