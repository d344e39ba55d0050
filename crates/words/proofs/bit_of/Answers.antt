-- `words::bit_of` meets its contract: a word has no bit above 15.
use Rattle.std.proofs.Common.{sym, ◌∙◌, arith, le-ltb}
use Rattle.words.proofs.Bits.{bit_above}
use Rattle.words.proofs.bit_of.Goals as goal

pub returns-else-i-lt16 : goal.returns-else-i-lt16
returns-else-i-lt16 c = le-ltb _ _ c.if-i-lt16.false ∙ sym (bit_above 16 (omega arith) (omega arith))
