-- What a text written leaves, of a writer whose bytes are known.
--   Wrote t old w new   the text t was written as w says, to a writer that held `old` before and holds `new` now
use Rattle.std.specs.Prelude.{ℕ, ◌≤◌, List, length, take, Result, Ok, Err}
use Rattle.std.specs.Io.KnownBytes.{Appends}
use Rattle.std.specs.declared.option.Option.{Option}
use Rattle.output.specs.declared.Stuck.{Stuck}

-- the first bytes of t, as many as it may be, were appended
abbrev pub Begun : List ℕ → Option (List ℕ) → Option (List ℕ) → Type 0
Begun t old new = (n : ℕ) × (n ≤ length t) × Appends old new (take n t)

-- "Ok" says that all of the text was appended; else some first bytes of it were, and nothing besides (ours)
abbrev pub Wrote : List ℕ → Option (List ℕ) → Result Unit Stuck → Option (List ℕ) → Type 0
Wrote t old (Ok x) new = Appends old new t
Wrote t old (Err e) new = Begun t old new
