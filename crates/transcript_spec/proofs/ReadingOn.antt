-- A string that is read on from a reading, byte by byte: what one byte more makes of it, and how it ends.
use Prim.Native.Nat.{ℕ, suc, ◌+◌, ◌≤◌, ◌<◌}
use native.Mathlib.Nat.{le_refl, le_trans}
use native.Mathlib.Numerals.{add-one}
use native.Mathlib.Omega.{arith}
use mathlib.Core.Path.{◌≡◌, refl, sym, ap, ◌∙◌}
use mathlib.Core.Bool.{Bool, true, false, cond}
use mathlib.Core.List.{List, [], ◌∷◌}
use mathlib.Core.Logic.{◌≢◌}
use lib.Dec.{eqb}
use lib.ListN.{length, drop, get_or, drop_of_length-le, length-append}
use lib.Seq.{drop-cons}
use borrow.Author.Tests.{ne_eqb}
use Rattle.transcript_spec.specs.Reading.{Reading, at, byte_taken, fed, feed, feeds}
use Rattle.transcript_spec.specs.declared.Entry.{Entry}
use Rattle.transcript_spec.specs.declared.Part.{Part}
use Rattle.transcript_spec.specs.declared.Step.{Step}
use Rattle.transcript_spec.specs.declared.Step.TheVariants.{Goes, Whole, Bad}

-- After a refusal nothing moves.
pub stays_refused : (r : Reading) (bytes : List ℕ) → r.refusal ≢ 0 → feeds r bytes ≡ r
unfolding feeds feed
stays_refused r [] h = refl
stays_refused r (b ∷ bytes) h =
    ap (λ (t : Bool). feeds (cond t (fed r.got r.from (r.next + 1) (byte_taken r.part b)) r) bytes) (ne_eqb r.refusal 0 h) ∙
    stays_refused r bytes h

-- ---- entries are only added

step_adds : (got : List Entry) (from next : ℕ) (x : Step) → length got ≤ length (fed got from next x).got
step_adds got from next (Goes p) = le_refl (length got)
step_adds got from next (Whole e) = simp length-append (omega arith)
step_adds got from next (Bad n) = le_refl (length got)

byte_adds : (r : Reading) (b : ℕ) → length r.got ≤ length (feed r b).got
unfolding feed
byte_adds r b = either (eqb r.refusal 0)
  where
    either : (t : Bool) → length r.got ≤ length (cond t (fed r.got r.from (r.next + 1) (byte_taken r.part b)) r).got
    either true = step_adds r.got r.from (r.next + 1) (byte_taken r.part b)
    either false = le_refl (length r.got)

-- A reading has the entries that it had before, and more.
pub only_adds : (r : Reading) (bytes : List ℕ) → length r.got ≤ length (feeds r bytes).got
unfolding feeds
only_adds r [] = le_refl (length r.got)
only_adds r (b ∷ bytes) = le_trans (byte_adds r b) (only_adds (feed r b) bytes)

-- ---- the bytes of a string one by one

-- i bytes of s, read on from r₀, make r: what r makes of the others is what r₀ makes of all
pub record Reached (r₀ : Reading) (s : List ℕ) (i : ℕ) (r : Reading) : Type 0 where
  pub most : i ≤ length s
  pub come : feeds r₀ s ≡ feeds r (drop i s)

-- Before the first byte the reading is where it began.
pub none_yet : (r₀ : Reading) (s : List ℕ) → Reached r₀ s 0 r₀
none_yet r₀ s = record { most = omega arith; come = refl }

-- One byte more makes of the reading what it makes of the record that is being read.
pub one_more : {r₀ : Reading} {s : List ℕ} {i : ℕ} {got : List Entry} {from next : ℕ} {p : Part} →
    Reached r₀ s i (at got from next p 0) → i < length s → {x : Step} → byte_taken p (get_or s i 0) ≡ x →
    Reached r₀ s (i + 1) (fed got from (next + 1) x)
unfolding feeds feed
one_more {s = s} {i = i} {got = got} {from = from} {next = next} {p = p} here more {x} e =
    record {
      most = omega arith;
      come =
          here.come ∙
          ap (feeds (at got from next p 0)) (drop-cons s i 0 more) ∙
          ap (λ (y : Step). feeds (fed got from (next + 1) y) (drop (suc i) s)) e ∙
          ap (λ (j : ℕ). feeds (fed got from (next + 1) x) (drop j s)) (sym (add-one i));
    }

module _ {r₀ r : Reading} {s : List ℕ} {i : ℕ} (here : Reached r₀ s i r) where
  -- At the end of a string the reading is what the whole string makes.
  pub at_end : length s ≤ i → feeds r₀ s ≡ r
  unfolding feeds
  at_end h = here.come ∙ ap (feeds r) (drop_of_length-le s h)

  -- After a bad record the reading is what the whole string makes.
  pub at_refusal : r.refusal ≢ 0 → feeds r₀ s ≡ r
  at_refusal h = here.come ∙ stays_refused r (drop i s) h

  -- The entries read so far are no more than those of the whole string.
  pub so_far : length r.got ≤ length (feeds r₀ s).got
  so_far = rw here.come (only_adds r (drop i s))
