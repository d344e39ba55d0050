-- The four lists of a call stay the same four slices, however often something is put into them.
use mathlib.Core.Path.{◌∙◌}
use Rattle.transcript_lists.specs.Lent.{SameLists}
use Rattle.transcript_lists.specs.declared.ListsMut.{ListsMut}

-- What are the same four slices as before, and were so before, are the same.
pub still_same : (l₀ l l' : ListsMut) → SameLists l₀ l → SameLists l l' → SameLists l₀ l'
still_same l₀ l l' first then = (then.0 ∙ first.0, then.1 ∙ first.1, then.2 ∙ first.2, then.3 ∙ first.3)
