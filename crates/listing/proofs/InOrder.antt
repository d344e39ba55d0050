-- The answers come in the order of the lines, each from where the accesses before it left the port.
use Prim.Native.Nat.{ℕ, ◌+◌, ◌≤◌, ◌<◌}
use native.Mathlib.Nat.{add-zero}
use native.Mathlib.Omega.{arith}
use mathlib.Core.Path.{◌≡◌, refl, sym, ap, ◌∙◌}
use mathlib.Core.Bool.{false}
use mathlib.Core.List.{List, [], ◌∷◌, ◌++◌, append_assoc, append-nil}
use lib.ListN.{length, length-append}
use Rattle.port_spec.specs.Sequences.{Machine, after, answer_of}
use Rattle.port_spec.specs.declared.Access.{Access}
use Rattle.listing.specs.Answer.{answer_text}
use Rattle.listing.specs.Listing.{Listing, start, listing}
use Rattle.listing.specs.Spelled.{line_text, Sayable, lines_of, AllSayable, answers_of}
use Rattle.listing.specs.Pieces.{left_over, at_end, printed, behind}
use Rattle.listing.proofs.GoodLines.{says_it, no_feed_in}
use Rattle.listing.proofs.LineByLine.{between, whole_good, good_size}
use Rattle.listing.proofs.Cutting.{behind_all, come}

-- A good line prints its answer, and then what follows it prints, from where its access left the port.
pub line_then : (s : Machine) (a : Access) (v : List ℕ) → Sayable a →
    printed s (line_text a ++ 10 ∷ v) ≡ answer_text a (answer_of s a) ++ printed (after s a) v
line_then s a v h =
    let u : List ℕ = line_text a in
    let t : List ℕ = answer_text a (answer_of s a) in
    let n : ℕ = 0 + (length u + 1) in
    let says = says_it a h in
    let short = good_size u a says in
    let y = listing (start (after s a)) v in
    let here : between (after s a) t n ≡ behind t n (start (after s a)) =
    ap (λ (l : List ℕ). between (after s a) l n) (sym (append-nil t)) ∙
    ap (between (after s a) (t ++ [])) (sym (add-zero n))
    in
    let goes : listing (start s) (u ++ 10 ∷ v) ≡ behind t n y =
    whole_good s [] 0 a u v (no_feed_in a) (omega (arith, short.1)) says ∙
    ap (λ (x : Listing). listing x v) here ∙
    behind_all t n (start (after s a)) v
    in
    ap at_end goes ∙ append_assoc t y.text (left_over y.begun)

-- A list of accesses, a line each, prints their answers in order.
pub in_order : (s : Machine) (all : List Access) → AllSayable all → printed s (lines_of all) ≡ answers_of s all
unfolding lines_of answers_of listing
in_order s [] h = refl
in_order s (a ∷ rest) h =
    ap (printed s) (append_assoc (line_text a) (10 ∷ []) (lines_of rest)) ∙
    line_then s a (lines_of rest) h.0 ∙
    ap (λ (l : List ℕ). answer_text a (answer_of s a) ++ l) (in_order (after s a) rest h.1)

-- 32 bytes are enough for a listing to go forward: a line of them is answered, or a bad one ended it.
pub goes_forward : (s : Machine) (t : List ℕ) → 32 ≤ length t → (listing (start s) t).ended ≡ false → 0 < (listing (start s) t).used
goes_forward s t h e =
    let c = come s t in
    let p = c.place e in
    let all = ap length p.is ∙ length-append p.lines (listing (start s) t).begun in
    omega (arith, h, all, p.size, c.short)
