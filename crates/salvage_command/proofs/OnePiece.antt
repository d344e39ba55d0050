-- What a turn leaves, of a piece that is salvaged, and of one that is left.
use Prim.Native.Nat.{ℕ, ◌+◌, ◌-◌, ◌≤◌, min}
use native.Mathlib.Omega.{arith}
use mathlib.Core.Path.{◌≡◌, refl, sym, ap, ◌∙◌}
use mathlib.Core.Bool.{Bool, true, false, cond}
use mathlib.Core.List.{List, []}
use lib.ListN.{length, take, drop, length-append, length-drop, take-append-drop}
use lib.Seq.{length-take-le, take-take}
use Rattle.transcript_spec.specs.Reading.{entries_read, refusal_read}
use Rattle.salvage_spec.specs.InPlainWords.{answer}
use Rattle.salvage_spec.specs.Pieces.{may_go_on, at_hand, held_of, piece_taken, piece_written, Progress as SalvageProgress}
use Rattle.salvage_spec.specs.Salvage.{run, rest, SalvagedTranscript}
use Rattle.salvage_spec.specs.declared.Salvaged.{Salvaged}
use Rattle.salvage_spec.proofs.WhatWasWritten.{fits_if_all_would}
use Rattle.salvage_spec.proofs.Divides.{divides, run_length}
use Rattle.salvage_spec.proofs.Longest.{no_more_than_bytes}
use Rattle.salvage_spec.proofs.AsManyBytes.{as_many_bytes}
use Rattle.salvage_command.specs.Turning.{progress_of, held_count, leaving, Ready, Took}
use Rattle.salvage_command.specs.declared.pieces.Progress.{Progress}
use Rattle.salvage_command.proofs.Fronts.{take_min, within_first}

-- ---- the bytes at hand
module _ (p : Progress) (x : List ℕ) where
  -- those that are held, and those behind them
  all_at_hand : at_hand (progress_of p x) (drop p.held x) ≡ x
  all_at_hand = take-append-drop p.held x

  parts_long : length x ≡ length (run x) + length (rest x)
  parts_long = ap length (divides x).all ∙ length-append (run x) (rest x)

  held_first : take (held_count (refusal_read x) (length (rest x))) (rest x) ≡ held_of x
  unfolding held_of
  held_first = either (may_go_on (refusal_read x))
    where
      either : (t : Bool) → take (cond t (min 4 (length (rest x))) 0) (rest x) ≡ cond t (take 4 (rest x)) []
      either true = take_min 4 (rest x)
      either false = refl

  few : held_count (refusal_read x) (length (rest x)) ≤ min 4 (length (rest x))
  few = either (may_go_on (refusal_read x))
    where
      either : (t : Bool) → cond t (min 4 (length (rest x))) 0 ≤ min 4 (length (rest x))
      either true = omega arith
      either false = omega arith

  held_length : length (held_of x) ≡ held_count (refusal_read x) (length (rest x))
  held_length =
      sym (ap length held_first) ∙ length-take-le (held_count (refusal_read x) (length (rest x))) (rest x) (omega (arith, few))

-- ---- a piece that is salvaged
-- the progress of a salvage: how many records are kept, the bytes held, how many bytes are left, and what stopped it
abbrev pub by_parts : ℕ → List ℕ → ℕ → ℕ → SalvageProgress
by_parts kept held gone stop = record { kept = kept; held = held; gone = gone; stop = stop }

same_progress : {a a' : ℕ} {b b' : List ℕ} {c c' d d' : ℕ} → a ≡ a' → b ≡ b' → c ≡ c' → d ≡ d' → by_parts a b c d ≡ by_parts a' b' c' d'
same_progress p q r s = cc

-- the progress that these bytes make, from so many records and so many bytes left
abbrev by_bytes : ℕ → ℕ → List ℕ → SalvageProgress
by_bytes kept gone y =
    by_parts (kept + length (entries_read y)) (held_of y) (gone + (length (rest y) - length (held_of y))) (refusal_read y)

module _ (p : Progress) (piece sound : List ℕ) (all : ℕ) (ready : Ready p piece sound all) {o : Salvaged} {sound' : List ℕ}
    (s : SalvagedTranscript (take all piece) sound o sound') where
  abbrev x : List ℕ
  x = take all piece

  all_long : length x ≡ all
  all_long = length-take-le all piece ready.within

  room : length x ≤ length sound
  room = omega (arith, all_long, ready.within, ready.room.fits)

  report : o ≡ answer 0 (length (entries_read x)) (length (rest x)) (refusal_read x)
  report = (fits_if_all_would s room).0

  left_is : o.left ≡ length (rest x)
  left_is = ap (λ (a : Salvaged). a.left) report

  kept_is : o.kept ≡ length (entries_read x)
  kept_is = ap (λ (a : Salvaged). a.kept) report

  stop_is : o.stop ≡ refusal_read x
  stop_is = ap (λ (a : Salvaged). a.stop) report

  -- Of the bytes at hand no more are left than there are.
  pub left_within : o.left ≤ all
  left_within = omega (arith, left_is, all_long, parts_long p x)

  written_long : all - o.left ≡ length (run x)
  written_long = omega (arith, left_is, all_long, parts_long p x)

  -- Of the bytes at hand no more records are kept than there are bytes.
  pub kept_within : o.kept ≤ all
  kept_within = let n = no_more_than_bytes (divides x).good in omega (arith, n, kept_is, all_long, parts_long p x)

  module _ {held : ℕ} (h : held ≡ held_count o.stop o.left) where
    held_is : held ≡ held_count (refusal_read x) (length (rest x))
    held_is = h ∙ ap (λ (k : ℕ). held_count k o.left) stop_is ∙ ap (held_count (refusal_read x)) left_is

    -- Four bytes at most are held, and no more than are left.
    pub held_within : (held ≤ 4) × (held ≤ o.left)
    held_within = (omega (arith, held_is, few p x), omega (arith, held_is, few p x, left_is))

    -- The bytes that are held stand within the piece.
    pub held_there : all - o.left + held ≤ length piece
    held_there = omega (arith, held_within.1, left_within, ready.within)

    module _ (piece' : List ℕ) (m : take held piece' ≡ take held (drop (all - o.left) piece)) where
      held_bytes : take held piece' ≡ held_of x
      held_bytes =
          m
          ∙ sym (within_first all (all - o.left) held piece ready.within (omega (arith, held_within.1, left_within)))
          ∙ ap (λ (w : ℕ). take held (drop w x)) (written_long ∙ run_length x)
          ∙ ap (λ (n : ℕ). take n (rest x)) held_is
          ∙ held_first p x

      -- Where no bad record has stopped the salvage for good, a turn takes the bytes at hand as the pieces of `salvage_spec` are taken:
      -- records kept, bytes left and held, what stopped it, and what is written.
      pub salvaged : may_go_on p.stop ≡ true →
          Took p x
          (record {
            progress = record { kept = p.kept + o.kept; gone = p.gone + (o.left - held); held = held; stop = o.stop };
            wrote = all - o.left;
          })
          piece' sound'
      unfolding piece_taken piece_written
      salvaged t =
          let by : List ℕ → SalvageProgress = by_bytes p.kept p.gone in
          let hand = all_at_hand p x in
          record {
            progress =
                rw t
                (same_progress
                (ap (λ (n : ℕ). p.kept + n) kept_is)
                held_bytes
                (ap (λ (n : ℕ). p.gone + (n - held)) left_is
                ∙ ap (λ (n : ℕ). p.gone + (length (rest x) - n)) (held_is ∙ sym (held_length p x)))
                stop_is
                ∙ ap by (sym hand));
            written = ap (λ (n : ℕ). take n sound') written_long ∙ (fits_if_all_would s room).1 ∙ ap run (sym hand) ∙ rw t;
            few = held_within.0;
            fits = omega (arith, as_many_bytes s, all_long, ready.within, ready.room.fits);
            kept = omega (arith, kept_within, all_long);
            gone = omega (arith, left_within, all_long);
          }

-- ---- a piece that is left

-- Behind a bad record a turn leaves all bytes that came: it counts them, and writes nothing.
pub left : (p : Progress) (piece sound : List ℕ) (all : ℕ) → Ready p piece sound all → may_go_on p.stop ≡ false →
    Took p (take all piece) (leaving p all) piece sound
unfolding piece_taken piece_written
left p piece sound all ready t =
    let long = length-take-le all piece ready.within in
    let behind = length-drop p.held (take all piece) in
    record {
      progress =
          rw t
          (same_progress refl (sym (take-take p.held all piece ready.behind))
          (ap (λ (n : ℕ). p.gone + n) (omega (arith, long, behind)))
          refl);
      written = rw t refl;
      few = ready.room.few;
      fits = omega arith;
      kept = omega arith;
      gone = omega (arith, long);
    }
