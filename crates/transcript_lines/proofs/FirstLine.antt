-- A text begins with a good line exactly if that is the line of an access that a line can ask for: what stands before its first line
-- feed is judged as a line, and no byte of such a line is a line feed.
use Prim.Native.Nat.{ℕ, ◌+◌, ◌≤◌}
use native.Mathlib.Omega.{arith}
use mathlib.Core.Path.{◌≡◌, sym, ap, ◌∙◌, subst}
use mathlib.Core.List.{List, [], ◌∷◌, ◌++◌, append_assoc}
use lib.ListN.{length, drop, length-append}
use lib.Seq.{drop_at}
use Rattle.port_spec.specs.declared.Access.{Access}
use Rattle.listing.specs.Line.{with_length, front_line}
use Rattle.listing.specs.Spelled.{line_text, Sayable}
use Rattle.listing.specs.declared.Front.TheVariants.{Good}
use Rattle.listing.proofs.GoodLines.{says_it, only_it, no_feed_in}
use Rattle.listing.proofs.FrontLine.{whole_line}
use Rattle.listing.proofs.LineByLine.{Fronts, fronts}

-- the line of an access with its line feed
abbrev pub whole : Access → List ℕ
whole a = line_text a ++ (10 ∷ [])

-- A text that begins with the line of an access that a line can ask for has that line at its front, as long as it is.
pub good_front : (a : Access) (v : List ℕ) → Sayable a → front_line (whole a ++ v) ≡ Good a (length (whole a))
good_front a v h =
    ap front_line (append_assoc (line_text a) (10 ∷ []) v) ∙
    whole_line (line_text a) v (no_feed_in a) ∙
    ap (with_length (length (line_text a) + 1)) (says_it a h) ∙
    ap (Good a) (sym (length-append (line_text a) (10 ∷ [])))

-- a text that begins with a line that asks for a, n bytes long
pub record Begins (t : List ℕ) (a : Access) (n : ℕ) : Type 0 where
  pub is : t ≡ whole a ++ drop n t
  pub says : Sayable a
  pub size : n ≡ length (whole a)
  pub some : 1 ≤ n
  pub all : n ≤ length t

-- A text with a good line at its front begins with the line of that access, which a line can ask for; it has one byte or more, and lies in
-- the text.
pub begins : (t : List ℕ) {a : Access} {n : ℕ} → front_line t ≡ Good a n → Begins t a n
begins t {a} {n} e =
    let g = subst (Fronts t) e (fronts t) in
    let o = only_it g.line a g.says in
    let size : n ≡ length (whole a) = g.size ∙ ap (λ (u : List ℕ). length u + 1) o.0 ∙ sym (length-append (line_text a) (10 ∷ [])) in
    let is : t ≡ whole a ++ g.rest =
    g.is ∙ ap (λ (u : List ℕ). u ++ 10 ∷ g.rest) o.0 ∙ sym (append_assoc (line_text a) (10 ∷ []) g.rest)
    in
    let rest : drop n t ≡ g.rest = ap (drop n) is ∙ drop_at (whole a) g.rest n (sym size) in
    let long = ap length is ∙ length-append (whole a) g.rest in
    record {
      is = is ∙ ap (λ (v : List ℕ). whole a ++ v) (sym rest);
      says = o.1;
      size = size;
      some = omega (arith, g.size);
      all = omega (arith, size, long);
    }
