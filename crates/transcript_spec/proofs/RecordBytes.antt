-- An entry's record, by its kind: the head's groups alone or, for a write, with the word's behind them.
use Prim.Native.Nat.{◌+◌, ◌≤◌}
use native.Mathlib.Omega.{arith}
use mathlib.Core.Path.{◌≡◌, ap, ◌∙◌}
use mathlib.Core.Bool.{cond}
use mathlib.Core.List.{[], ◌++◌, append-nil}
use mathlib.Core.Logic.{⊎_elim, ◌≢◌}
use lib.Dec.{eqb}
use lib.ListN.{length, length-append}
use borrow.Author.Tests.{eq-eqb, ne_eqb}
use Rattle.std.proofs.lemmas.Bool.{cases_eq}
use Rattle.transcript_spec.specs.Format.{head_of, groups, record_of}
use Rattle.transcript_spec.specs.InPlainWords.{Good}
use Rattle.transcript_spec.specs.declared.Entry.{Entry}
use Rattle.transcript_spec.proofs.Groups.{one_group, few_groups}
use Rattle.transcript_spec.proofs.Judged.{head_range}

module _ (e : Entry) where
  -- The record of a write is the groups of its head, and then those of its word.
  pub of_write : e.kind ≡ 1 → record_of e ≡ groups (head_of e) ++ groups e.word
  unfolding record_of
  of_write h = rw (eq-eqb e.kind 1 h)

  -- The record of a write is as long as the groups of its head and of its word together.
  pub length_of_write : e.kind ≡ 1 → length (record_of e) ≡ length (groups (head_of e)) + length (groups e.word)
  length_of_write h = ap length (of_write h) ∙ length-append (groups (head_of e)) (groups e.word)

  -- The record of an entry that is no write is the groups of its head.
  pub of_other : e.kind ≢ 1 → record_of e ≡ groups (head_of e)
  unfolding record_of
  of_other h = rw (ne_eqb e.kind 1 h) (append-nil (groups (head_of e)))

  -- The groups of an entry's head are no longer than its record.
  pub head_fits : length (groups (head_of e)) ≤ length (record_of e)
  unfolding record_of
  head_fits = omega (arith, length-append (groups (head_of e)) (cond (eqb e.kind 1) (groups e.word) []))

  -- The record of a good entry has at most four bytes.
  pub short : Good e → length (record_of e) ≤ 4
  short g =
      let head = ap length (one_group (head_of e) (omega (arith, (head_range e g).1))) in
      ⊎_elim
      (λ h. omega (arith, head, few_groups e.word, length_of_write h))
      (λ h. omega (arith, head, ap length (of_other h)))
      (cases_eq e.kind 1)
