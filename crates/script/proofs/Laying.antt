-- Texts laid down in a line or in the output, one after the other.
use Prim.Native.Nat.{ℕ, ◌+◌, ◌-◌, ◌≤◌, ◌<◌}
use native.Mathlib.Numerals.{add-one}
use native.Mathlib.Omega.{arith}
use mathlib.Core.Path.{◌≡◌, ap, sym, ◌∙◌}
use mathlib.Core.List.{List, [], ◌∷◌, ◌++◌, append_assoc}
use lib.ListN.{length, take, set, length-append}
use lib.Seq.{length-take-le, take_at, take-suc-set}
use borrow.Author.Tests.{eq-eqb}
use borrow.Rule.Slice.PartMut.{put_mid, post_of}
use Rattle.script.specs.Answers.{line_of, with_line, Laid}
use Rattle.script.specs.declared.Done.{Done}

-- The n places from a on came back as ys: with what stands before them, they are the first a + n places.
pub pushed : (a n : ℕ) (l ys : List ℕ) → a + n ≤ length l → length ys ≡ n →
    take (a + n) (put_mid a (a + n - a) l ys) ≡ take a l ++ ys
pushed a n l ys h e =
    let after : List ℕ = post_of a (a + n - a) l in
    let front : length (take a l ++ ys) ≡ a + n = simp (length-append, length-take-le a l (omega arith)) (omega (arith, e)) in
    ap (take (a + n)) (sym (append_assoc (take a l) ys after)) ∙ take_at (take a l ++ ys) after (a + n) front

-- A byte set in its place is laid down there.
pub byte_laid : (l : List ℕ) (at byte : ℕ) → at < length l → Laid at l (byte ∷ []) (at + 1) (set l at byte)
byte_laid l at byte h = record { laid = rw add-one (take-suc-set l at byte h) }

-- Two texts laid down one after the other are one.
pub follows : {a b e : ℕ} {l x l' y l'' : List ℕ} → Laid a l x b l' → Laid b l' y e l'' → Laid a l (x ++ y) e l''
follows {a} {b} {e} {l} {x} {l'} {y} {l''} p q =
    record { laid = q.laid ∙ ap (λ (t : List ℕ). t ++ y) p.laid ∙ append_assoc (take a l) x y }

-- A place of 47 bytes gets the whole of a line.
pub whole_line : (l : List ℕ) (letter : ℕ) (d : Done) → length l ≡ 47 → with_line l letter d ≡ line_of letter d
unfolding with_line
whole_line l letter d e = rw (eq-eqb (length l) 47 e)
