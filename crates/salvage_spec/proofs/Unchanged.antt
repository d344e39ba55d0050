-- A sound transcript comes out the same, with nothing left and no refusal, and no other does. What is kept is sound, so salvaging it again
-- changes nothing.
use Prim.Native.Nat.{ℕ}
use mathlib.Core.Path.{◌≡◌, sym, subst}
use mathlib.Core.List.{List, [], append-nil}
use mathlib.Core.Logic.{◌↔◌}
use Rattle.transcript_spec.specs.InPlainWords.{Sound}
use Rattle.transcript_spec.specs.Reading.{entries_read, refusal_read}
use Rattle.transcript_spec.specs.declared.Entry.{Entry}
use Rattle.salvage_spec.specs.InPlainWords.{none_left, Divides}
use Rattle.salvage_spec.specs.Salvage.{run}
use Rattle.salvage_spec.proofs.Divides.{Found, found, divides}

-- A sound transcript is good records, and nothing is left behind them.
pub sound_divides : {s : List ℕ} {es : List Entry} → Sound s es → Divides s es s [] 0
sound_divides {s} q = record { all = sym (append-nil s); good = q; behind = none_left }

-- A sound transcript comes out the same, with nothing left and no refusal.
pub comes_out_same : {s : List ℕ} {es : List Entry} → Sound s es → Found s es s [] 0
comes_out_same q = found (sound_divides q)

-- A transcript comes out the same exactly if it is sound; then its entries are those that are kept.
pub same_exactly : (s : List ℕ) (es : List Entry) → Sound s es ↔ (run s ≡ s) × (entries_read s ≡ es)
same_exactly s es = (
  λ q. let f = comes_out_same q in (f.kept, f.entries),
  λ h. subst (Sound s) h.1 (subst (λ (t : List ℕ). Sound t (entries_read s)) h.0 (divides s).good),
)

-- What is kept is sound: reading it gives the records that were kept, and no refusal.
pub kept_is_sound : (s : List ℕ) → (refusal_read (run s) ≡ 0) × (entries_read (run s) ≡ entries_read s)
kept_is_sound s = let f = comes_out_same (divides s).good in (f.refusal, f.entries)

-- Salvaging what is kept again changes nothing.
pub again_same : (s : List ℕ) → Found (run s) (entries_read s) (run s) [] 0
again_same s = comes_out_same (divides s).good
