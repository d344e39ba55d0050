-- Any bytes can be delivered to any stream, with any lists, in any parts: so the laws on deliveries one after another speak of all of them.
use Prim.Native.Nat.{ℕ, ◌≤◌}
use native.Mathlib.Omega.{arith}
use mathlib.Core.Path.{◌≡◌, refl, ap}
use mathlib.Core.List.{List, [], ◌∷◌, ◌++◌, map, flatten}
use lib.ListN.{length, replicate, length-replicate}
use Rattle.transcript_spec.specs.Lists.{Lists, lists, size}
use Rattle.stream_spec.specs.InPlainWords.{Turn, Took, none, and_then, Delivery, made, delivered, Roomy}
use Rattle.stream_spec.specs.Stream.{delivery_answer, lists_after}
use Rattle.stream_spec.specs.declared.Stream.{Stream}

-- Any deliveries to any stream, with any lists, come to something, so that the laws on deliveries speak of all of them.
pub takes_any : (st : Stream) (ds : List Delivery) → (ts : List Turn) × (st' : Stream) × Took st ts st' × (map made ts ≡ ds)
takes_any st [] = ([], st, none, refl)
takes_any st (d ∷ ds) =
    let o = delivery_answer st d.bytes (size d.lent) in
    let t : Turn = record { bytes = d.bytes; lent = d.lent; answer = o; left = lists_after st d.bytes d.lent } in
    let x = takes_any o.stream ds in
    (t ∷ x.0, x.1, and_then (record { answer = refl; lists = refl }) x.2, ap (λ (l : List Delivery). d ∷ l) x.3)

-- Lists for so many entries.
abbrev pub spare : ℕ → Lists
spare n = lists (replicate n 0) (replicate n 0) (replicate n 0) (replicate n 0)

-- The lists `spare n` have places for n entries.
pub spare_size : (n : ℕ) → n ≤ size (spare n)
spare_size n = let e : length {A = ℕ} (replicate n 0) ≡ n = length-replicate n 0 in omega arith

-- Bytes in any parts can be delivered so that each list has a place for each byte, and all bytes that are delivered are those of the parts.
pub any_cut : (st : Stream) (parts : List (List ℕ)) →
    (ts : List Turn) × (st' : Stream) × Took st ts st' × Roomy ts × (map (λ (t : Turn). t.bytes) ts ≡ parts) ×
    (delivered ts ≡ flatten parts)
unfolding delivered flatten
any_cut st [] = ([], st, none, tt, refl, refl)
any_cut st (s ∷ rest) =
    let l = spare (length s) in
    let t : Turn = record { bytes = s; lent = l; answer = delivery_answer st s (size l); left = lists_after st s l } in
    let x = any_cut t.answer.stream rest in (
      t ∷ x.0,
      x.1,
      and_then (record { answer = refl; lists = refl }) x.2,
      (spare_size (length s), x.3),
      ap (λ (y : List (List ℕ)). s ∷ y) x.4,
      ap (λ (y : List ℕ). s ++ y) x.5,
    )
