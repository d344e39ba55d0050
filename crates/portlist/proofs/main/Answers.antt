-- `portlist::main` meets its contract: the memory that it lends is 32,768 zero words.
use mathlib.Core.Path.{refl}
use Rattle.portlist.specs.Turning.{zero_words}
use Rattle.portlist.proofs.main.Goals as goal

pub list-listed-requires : goal.list-listed-requires
unfolding zero_words
list-listed-requires c = refl
