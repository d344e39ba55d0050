-- What the ticks leave, once they are read and judged: a refusal with the list as it was, or the times.
use Prim.Native.Nat.{ℕ, ◌-◌, ◌≤◌}
use native.Mathlib.Omega.{arith}
use mathlib.Core.Path.{◌≡◌, sym, ap, ◌∙◌}
use mathlib.Core.List.{List}
use mathlib.Core.Logic.{◌≢◌}
use lib.Ieee.{Float}
use lib.ListN.{length, get_or}
use borrow.Author.Tests.{eq-eqb, ne_eqb}
use Rattle.port_spec.specs.Sequences.{Machine}
use Rattle.tempo_spec.specs.Tempo.{with_times}
use Rattle.sheet_spec.specs.Sheet.{ticks_refusal, refused_sheet}
use Rattle.sheet_spec.proofs.Rising.{rises, none_before_first}
use Rattle.sheet.specs.Parts.{ReadTicks, ticks_number, ticks_sheet, ticks_list, TookTicks}
use Rattle.sheet.specs.declared.TicksRead.{TicksRead}
use Rattle.sheet.proofs.ReadingOn.{memory_kept, read_length}
use Rattle.sheet.proofs.RisingTicks.{unrefused_rise}

module _ {s : Machine} {n : ℕ} {o : TicksRead} {m ticks : List ℕ} (k : ReadTicks s n o m ticks)
    (number : ℕ) (e : number ≡ ticks_refusal o.hollow ticks) where
  told : number ≡ ticks_number s n
  unfolding ticks_number
  told = e ∙ rw (k.hollow, k.words)

  -- Ticks that are refused leave the list, and answer their number and zeros.
  pub ticks_refused : number ≢ 0 → (rule : ℕ) (l : List Float) → TookTicks s rule n l (refused_sheet number o.registers) m l
  unfolding ticks_sheet ticks_list
  ticks_refused h rule l =
      let t = ne_eqb (ticks_number s n) 0 (λ z. h (told ∙ z)) in
      record {
        outcome = rw (t, told, ap (λ (u : Machine). u.registers) k.ends_at);
        memory = memory_kept k;
        list = rw t;
      }

  -- Of ticks that are not refused, one or more, the first lies before the last or is it.
  pub first_then_last : number ≡ 0 → 1 ≤ n → get_or ticks 0 0 ≤ get_or ticks (length ticks - 1) 0
  first_then_last h some =
      let long = read_length k in
      none_before_first (λ j. get_or ticks j 0) (length ticks) (rises ticks (unrefused_rise o.hollow ticks (sym e ∙ h)))
      (length ticks - 1) (omega arith)

  -- Of ticks that are not refused the rule and the strokes are shown, and the list takes their times.
  pub ticks_taken : number ≡ 0 → (rule : ℕ) (l l' : List Float) →
      l' ≡ with_times (get_or ticks 0 0) (get_or ticks (length ticks - 1) 0) n l →
      TookTicks s rule n l (record { number = 0; rule = rule; strokes = n; registers = o.registers }) m l'
  unfolding ticks_sheet ticks_list
  ticks_taken h rule l l' x =
      let z = sym told ∙ h in
      let t = eq-eqb (ticks_number s n) 0 z in
      record {
        outcome = rw (t, z, ap (λ (u : Machine). u.registers) k.ends_at);
        memory = memory_kept k;
        list = rw t (rw k.words at (rw (read_length k) at x));
      }
