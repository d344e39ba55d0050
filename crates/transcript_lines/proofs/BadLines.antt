-- The two kinds of a bad line behind good ones: "A line of another shape, a last one without its line feed included".
use Prim.Native.Nat.{ℕ, ◌+◌}
use native.Mathlib.Omega.{arith}
use mathlib.Core.Path.{◌≡◌, refl, sym, ap, ◌∙◌}
use mathlib.Core.Bool.{true, true≢false}
use mathlib.Core.List.{List, [], ◌∷◌, ◌++◌, append_assoc}
use mathlib.Core.Logic.{◌≢◌}
use lib.ListN.{length, length-append}
use Rattle.std.specs.Prelude.{Err}
use Rattle.listing.specs.Line.{bad, line_of, has_feed, with_length, front_line}
use Rattle.listing.specs.Spelled.{line_text}
use Rattle.listing.specs.Pieces.{NoFeed}
use Rattle.listing.specs.declared.Front.TheVariants.{Bad}
use Rattle.listing.proofs.Feeds.{has_laid}
use Rattle.listing.proofs.FrontLine.{whole_line}
use Rattle.transcript_spec.specs.declared.Entry.{Entry}
use Rattle.transcript_lines.specs.InPlainWords.{NoGoodLine}
use Rattle.transcript_lines.specs.Lines.{access_of, text_of, AllHaveLines}
use Rattle.transcript_lines.specs.Taking.{take_answer}
use Rattle.transcript_lines.specs.declared.NotTaken.TheVariants.{BadLine}
use Rattle.listing.specs.Following.{is_good}
use Rattle.transcript_lines.proofs.TakenLines.{front_none}
use Rattle.transcript_lines.proofs.TakeAnswers.{take_answers}

module _ (es : List Entry) (h : AllHaveLines es) (room : ℕ) where
  bad_behind : (left : List ℕ) → left ≢ [] → NoGoodLine left → take_answer (text_of es ++ left) room ≡ Err (BadLine (length es))
  bad_behind left some none =
      (take_answers (text_of es ++ left) room (Err (BadLine (length es)))).1
      (record { left = left; good = record { entries = es; is = refl; says = h; count = refl }; some = some; bad = none })

  -- A line of another shape than a read's or a write's, behind good ones, is a bad line, whatever follows it.
  pub other_shape : (u v : List ℕ) → NoFeed u → line_of u ≡ bad →
      take_answer (text_of es ++ (u ++ 10 ∷ v)) room ≡ Err (BadLine (length es))
  other_shape u v plain shape =
      let front : front_line (u ++ 10 ∷ v) ≡ Bad = whole_line u v plain ∙ ap (with_length (length u + 1)) shape in
      let some : u ++ 10 ∷ v ≢ [] = λ e. absurd (omega (arith, ap length e, length-append u (10 ∷ v))) in
      bad_behind (u ++ 10 ∷ v) some (front_none (u ++ 10 ∷ v) (ap is_good front))

  -- A last line without its line feed, of any shape, behind good ones, is a bad line.
  pub last_line : (u : List ℕ) → NoFeed u → u ≢ [] → take_answer (text_of es ++ u) room ≡ Err (BadLine (length es))
  last_line u plain some =
      let feeds : (e : Entry) (v : List ℕ) → u ≡ line_text (access_of e) ++ (10 ∷ []) ++ v → has_feed u ≡ true =
      λ e v is. ap has_feed (is ∙ append_assoc (line_text (access_of e)) (10 ∷ []) v) ∙ has_laid (line_text (access_of e)) v
      in
      bad_behind u some (λ e v s is. true≢false (sym (feeds e v is) ∙ plain))
