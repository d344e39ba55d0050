-- Texts laid into an output, one behind another.
use Prim.Native.Nat.{ℕ, suc, ◌+◌, ◌-◌, ◌≤◌}
use native.Mathlib.Nat.{add_assoc, zero-add}
use native.Mathlib.Omega.{arith}
use mathlib.Core.Path.{◌≡◌, sym, ap, ◌∙◌}
use mathlib.Core.List.{List, [], ◌∷◌, ◌++◌, append_assoc, append-nil}
use lib.ListN.{length, take, drop, set, length-append, length-take, length-drop, drop_of_length-le}
use lib.Seq.{length-take-le, take_at, drop-append-add, drop-drop, sets-eq, take-length, take_all}
use borrow.Rule.Slice.PartMut.{put_mid, post_of}
use Rattle.listing.specs.Listing.{with_text}
use Rattle.listing.specs.Parts.{laid, Put}

-- A text laid into the output leaves it as long as it was.
pub laid_length : (o : List ℕ) (at : ℕ) (t : List ℕ) → at + length t ≤ length o → length (laid o at t) ≡ length o
laid_length o at t h = simp (length-append, length-take, length-drop) (omega arith)

-- Two texts, one laid behind the other, are laid together.
pub laid_behind : (o : List ℕ) (at : ℕ) (t u : List ℕ) → at + length t + length u ≤ length o →
    laid (laid o at t) (at + length t) u ≡ laid o at (t ++ u)
laid_behind o at t u h =
    let p : List ℕ = take at o in
    let d : List ℕ = drop (at + length t) o in
    let far : ℕ = at + length t + length u in
    let front : length (p ++ t) ≡ at + length t =
    length-append p t ∙ ap (λ (n : ℕ). n + length t) (length-take-le at o (omega (arith, h)))
    in
    let joined : p ++ (t ++ d) ≡ p ++ t ++ d = sym (append_assoc p t d) in
    let before : take (at + length t) (p ++ (t ++ d)) ≡ p ++ t = ap (take (at + length t)) joined ∙
    take_at (p ++ t) d (at + length t) front in
    let behind : drop far (p ++ (t ++ d)) ≡ drop far o =
    ap (drop far) joined ∙
    ap (λ (n : ℕ). drop (n + length u) (p ++ t ++ d)) (sym front) ∙
    drop-append-add (p ++ t) d (length u) ∙
    drop-drop (length u) (at + length t) o
    in
    let end : at + length (t ++ u) ≡ far = ap (λ (n : ℕ). at + n) (length-append t u) ∙ sym (add_assoc at (length t) (length u)) in
    ap (λ (x : List ℕ). x ++ (u ++ drop far (p ++ (t ++ d)))) before ∙
    ap (λ (x : List ℕ). p ++ t ++ (u ++ x)) behind ∙
    append_assoc p t (u ++ drop far o) ∙
    ap (λ (x : List ℕ). p ++ x) (sym (append_assoc t u (drop far o))) ∙
    ap (λ (n : ℕ). p ++ (t ++ u ++ drop n o)) (sym end)

-- What is put behind a text that was put is put with it.
pub put_behind : {o o' o'' : List ℕ} {at e f : ℕ} {t u : List ℕ} → at + length t + length u ≤ length o →
    Put o at t e o' → Put o' e u f o'' → Put o at (t ++ u) f o''
put_behind {o = o} {o' = o'} {at = at} {e = e} {t = t} {u = u} h x y =
    record {
      end = y.end ∙ ap (λ (n : ℕ). n + length u) x.end ∙ add_assoc at (length t) (length u) ∙
          ap (λ (n : ℕ). at + n) (sym (length-append t u));
      output =
          y.output ∙
          ap (λ (l : List ℕ). laid l e u) x.output ∙
          ap (λ (n : ℕ). laid (laid o at t) n u) x.end ∙
          laid_behind o at t u h;
    }

-- Six bytes, each set in its place, are laid.
pub six_laid : (o : List ℕ) (at a b c d e f : ℕ) → at + 6 ≤ length o →
    set (set (set (set (set (set o at a) (at + 1) b) (at + 2) c) (at + 3) d) (at + 4) e) (at + 5) f ≡
    laid o at (a ∷ b ∷ c ∷ d ∷ e ∷ f ∷ [])
six_laid o at a b c d e f h =
    let e1 : at + 1 ≡ suc at = omega arith in
    let e2 : at + 2 ≡ suc (suc at) = omega arith in
    let e3 : at + 3 ≡ suc (suc (suc at)) = omega arith in
    let e4 : at + 4 ≡ suc (suc (suc (suc at))) = omega arith in
    let e5 : at + 5 ≡ suc (suc (suc (suc (suc at)))) = omega arith in
    let bytes : List ℕ = a ∷ b ∷ c ∷ d ∷ e ∷ f ∷ [] in
    rw (e1, e2, e3, e4, e5) (sets-eq bytes o at h ∙ append_assoc (take at o) bytes (drop (at + 6) o))

-- A text copied into the part from `at` on, which then comes back as ys, is the text laid.
pub copied_in : (o : List ℕ) (at : ℕ) (t ys : List ℕ) → at + length t ≤ length o →
    ys ≡ take (length t) t ++ drop (length t) (take (length o - at) (drop at o)) → put_mid at (length o - at) o ys ≡ laid o at t
copied_in o at t ys h e =
    let short : length (drop at o) ≤ length o - at = simp length-drop (omega arith) in
    let none : post_of at (length o - at) o ≡ [] = drop_of_length-le (drop at o) short in
    let part : take (length o - at) (drop at o) ≡ drop at o = take_all (length o - at) (drop at o) short in
    let behind : drop (length t) (take (length o - at) (drop at o)) ≡ drop (at + length t) o =
    ap (drop (length t)) part ∙ drop-drop (length t) at o
    in
    ap (λ (x : List ℕ). take at o ++ (ys ++ x)) none ∙
    ap (λ (x : List ℕ). take at o ++ x) (append-nil ys ∙ e ∙ ap (λ (x : List ℕ). x ++ drop (length t) (take (length o - at) (drop at o)))
    (take-length t)) ∙
    ap (λ (x : List ℕ). take at o ++ (t ++ x)) behind

-- A text copied over the part of the output from `at` on that is as long as the text is the text laid.
pub copied_over : (o : List ℕ) (at n : ℕ) (t ys : List ℕ) → n ≡ length t → ys ≡ t → put_mid at n o ys ≡ laid o at t
copied_over o at n t ys e same =
    ap (λ (n : ℕ). put_mid at n o ys) e ∙
    ap (λ (ys : List ℕ). put_mid at (length t) o ys) same ∙
    ap (λ (x : List ℕ). take at o ++ (t ++ x)) (drop-drop (length t) at o)

-- A text put into the output leaves it as long as it was.
pub put_length : {o o' t : List ℕ} {at e : ℕ} → at + length t ≤ length o → Put o at t e o' → length o' ≡ length o
put_length {o = o} {t = t} {at = at} h x = ap length x.output ∙ laid_length o at t h

-- A text laid behind the one at the output's beginning lengthens it.
pub with_more : (o t u : List ℕ) → length t + length u ≤ length o → laid (with_text o t) (length t) u ≡ with_text o (t ++ u)
with_more o t u h =
    let same : (x : List ℕ) → laid o 0 x ≡ with_text o x = λ x. ap (λ (n : ℕ). x ++ drop n o) (zero-add (length x)) in
    ap (λ (l : List ℕ). laid l (length t) u) (sym (same t)) ∙
    ap (λ (n : ℕ). laid (laid o 0 t) n u) (sym (zero-add (length t))) ∙
    laid_behind o 0 t u (omega (arith, h)) ∙
    same (t ++ u)
