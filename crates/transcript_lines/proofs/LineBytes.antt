-- The bytes of an entry's line, by its kind.
use mathlib.Core.Path.{◌≡◌, refl}
use mathlib.Core.List.{◌++◌}
use mathlib.Core.Logic.{◌≢◌}
use borrow.Author.Tests.{eq-eqb, ne_eqb}
use Rattle.transcript_spec.specs.declared.Entry.{Entry}
use Rattle.transcript_lines.specs.Lines.{access_of, line}
use Rattle.transcript_lines.specs.Parts.{head_text, word_text}

-- A read's line is its six first bytes.
pub read_line : (e : Entry) → e.kind ≡ 0 → line e ≡ head_text 82 e.register e.lanes 10
unfolding access_of
read_line e z = rw (eq-eqb e.kind 0 z) refl

-- A write's line is its six first bytes, and then its word.
pub write_line : (e : Entry) → e.kind ≢ 0 → line e ≡ head_text 87 e.register e.lanes 32 ++ word_text e.word
unfolding access_of
write_line e z = rw (ne_eqb e.kind 0 z) refl
