-- What is said of a table's count word goes by one answer alone, that of the first read; so a count is right for one number of strokes.
use Prim.Native.Nat.{ℕ}
use native.Mathlib.Omega.{arith}
use mathlib.Core.Path.{◌≡◌, sym, ap, ◌∙◌}
use mathlib.Core.Bool.{Bool, true, false, or-false}
use mathlib.Core.Logic.{⊎_elim, ◌≢◌}
use borrow.Author.Tests.{ne_eqb}
use Rattle.words.specs.declared.BitAddress.{BitAddress}
use Rattle.std.proofs.lemmas.Bool.{cases_eq}
use Rattle.port_spec.specs.Sequences.{Machine, answer_of, answers}
use Rattle.port_spec.specs.Table.{loaded, reading}
use Rattle.port_spec.specs.declared.Access.TheVariants.{Read}
use Rattle.port_spec.specs.declared.Answer.{Answer}
use Rattle.sheet_spec.specs.Reading.{whole, table_read, any_hollow}
use Rattle.sheet_spec.specs.Sheet.{count_refusal, count_number, read_number}

one_count : (hollow : Bool) (word m n : ℕ) → count_refusal m hollow word ≡ 0 → m ≢ n → count_refusal n hollow word ≡ 43
unfolding count_refusal
one_count true word m n z d = absurd (omega (arith, z))
one_count false word m n z d =
    ⊎_elim
    (λ e. rw (ne_eqb word n (λ x. d (sym e ∙ x))))
    (λ e. let x : ◌≡◌ {A = ℕ} 43 0 = rw (ne_eqb word m e) at z in absurd (omega (arith, x)))
    (cases_eq word m)

module _ (s : Machine) (a : BitAddress) where
  -- the answer to the read of the count word
  abbrev pub counted : Answer
  counted = answer_of (loaded s a) (Read 2 3)

  -- What is said of the count word goes by the answer of the first read alone: by its mark and its word.
  pub count_is : (n : ℕ) → count_number whole s a n ≡ count_refusal n counted.hollow counted.word
  unfolding table_read answers reading any_hollow
  count_is n = ap (λ (b : Bool). count_refusal n b counted.word) (or-false counted.hollow)

  -- A count that is right for m strokes is wrong for any other number of them, which is 43, whatever the ticks are.
  pub wrong_count : (m n : ℕ) → count_number whole s a m ≡ 0 → m ≢ n → read_number whole s a n ≡ 43
  unfolding read_number
  wrong_count m n z d = rw (count_is n ∙ one_count counted.hollow counted.word m n (sym (count_is m) ∙ z) d)

  -- Of a table that is not refused the count is right.
  pub right_count : (n : ℕ) → read_number whole s a n ≡ 0 → count_number whole s a n ≡ 0
  unfolding read_number
  right_count n z =
      ⊎_elim (λ e. e) (λ d. rw (ne_eqb (count_number whole s a n) 0 d) at z) (cases_eq (count_number whole s a n) 0)
