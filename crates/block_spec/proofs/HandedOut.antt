-- What a run of answers hands out, by what each gives: its words, and how many of them are hollow. Words given as held are handed out
-- and not counted; filler is handed out and counted.
use Prim.Native.Nat.{ℕ, zero, suc, ◌+◌}
use native.Mathlib.Nat.{zero-add}
use native.Mathlib.Omega.{arith}
use mathlib.Core.Path.{◌≡◌, refl, sym, ap, ◌∙◌}
use mathlib.Core.List.{List, [], ◌∷◌, ◌++◌, map, append-nil}
use lib.ListN.{replicate}
use Rattle.port_spec.specs.Table.{Given, given, held_word, filler}
use Rattle.port_spec.specs.declared.Answer.{Answer}
use Rattle.port_spec.specs.Sequences.{words_in}
use Rattle.block_spec.specs.Block.{counted, tally, hollows_in}

words_given : (xs : List Answer) → words_in xs ≡ map (λ (g : Given). g.word) (map given xs)
words_given [] = refl
words_given (x ∷ xs) = ap (λ (l : List ℕ). x.word ∷ l) (words_given xs)

hollows_of : List Given → ℕ
hollows_of [] = 0
hollows_of (g ∷ gs) = counted g.hollow + hollows_of gs

hollows_given : (xs : List Answer) → hollows_in xs ≡ hollows_of (map given xs)
unfolding tally hollows_of
hollows_given [] = refl
hollows_given (x ∷ xs) = ap (λ (n : ℕ). counted x.hollow + n) (hollows_given xs)

words_told : (ws : List ℕ) (j : ℕ) → map (λ (g : Given). g.word) (map held_word ws ++ replicate j filler) ≡ ws ++ replicate j 0xffff
words_told [] zero = refl
words_told [] (suc j) = ap (λ (l : List ℕ). 0xffff ∷ l) (words_told [] j)
words_told (w ∷ ws) j = ap (λ (l : List ℕ). w ∷ l) (words_told ws j)

next : (j : ℕ) → 1 + j ≡ suc j
next j = omega arith

hollows_told : (ws : List ℕ) (j : ℕ) → hollows_of (map held_word ws ++ replicate j filler) ≡ j
unfolding hollows_of
hollows_told [] zero = refl
hollows_told [] (suc j) = ap (λ (n : ℕ). 1 + n) (hollows_told [] j) ∙ next j
hollows_told (w ∷ ws) j = ap (λ (n : ℕ). 0 + n) (hollows_told ws j) ∙ zero-add j

-- Answers that give words as held, and after them filler, hand out just these, and the fillers are those counted hollow.
pub held_then_hollow : (xs : List Answer) (ws : List ℕ) (j : ℕ) → map given xs ≡ map held_word ws ++ replicate j filler →
    (words_in xs ≡ ws ++ replicate j 0xffff) × (hollows_in xs ≡ j)
held_then_hollow xs ws j e =
    (words_given xs ∙ ap (map (λ (g : Given). g.word)) e ∙ words_told ws j, hollows_given xs ∙ ap hollows_of e ∙ hollows_told ws j)

-- Answers that give all words as held hand out just these, and none is hollow.
pub all_held : (xs : List Answer) (ws : List ℕ) → map given xs ≡ map held_word ws → (words_in xs ≡ ws) × (hollows_in xs ≡ 0)
all_held xs ws e =
    let told = held_then_hollow xs ws 0 (e ∙ sym (append-nil (map held_word ws))) in
    (told.0 ∙ append-nil ws, told.1)
