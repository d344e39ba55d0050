-- Demand 3 over the registers alone: of a sixteen-bit access done as two byte accesses, the first calls for no cycle, and the
-- second leaves the registers and calls for the cycle that the whole access does. By cases on the register.
use Prim.Native.Nat.{ℕ, zero, suc, ◌+◌, ◌<◌}
use native.Mathlib.Omega.{arith}
use mathlib.Core.Path.{◌≡◌, refl, sym, ap, ◌∙◌}
use mathlib.Core.Bool.{Bool, true, false, cond}
use borrow.Author.Tests.{ne_eqb, le-ltb}
use Rattle.words.specs.Bytes.{lo, hi, replaced}
use Rattle.words.specs.declared.BitAddress.{BitAddress}
use Rattle.words.proofs.Lanes.{replaced_word}
use Rattle.words.proofs.ByBytes.{lay_both, replaced_both, shown_both}
use Rattle.control.specs.Control.{lbl, bare, host_low, control_laid, closes, fetches, first_lane, last_lane}
use Rattle.control.proofs.LowByte.{host_byte}
use Rattle.control.proofs.ClosingByte.{first_is_open, last_closes, both_close}
use Rattle.registers.specs.Registers.{low_half, high_half, with_pointer, with_control, register_word, half_written, written}
use Rattle.registers.specs.declared.Registers.{Registers}
use Rattle.registers.proofs.RegisterWords.{low_of_halves, high_of_halves}
use Rattle.port_spec.specs.Host.{read_due, write_due, begin_access}
use Rattle.port_spec.specs.Sequences.{Sixteen, load, save, on}
use Rattle.port_spec.specs.declared.Due.{Due}
use Rattle.port_spec.specs.declared.Due.TheVariants.{Nothing}
use Rattle.port_spec.specs.declared.Begun.{Begun}
use Rattle.port_spec.proofs.OpenByte.{open_calls_none}

-- b is a whole access, b₁ and b₂ its two byte accesses: their words add up to its word, both have its hollow mark, the first calls for no
-- cycle and the second for its cycle, and they leave its registers
pub record Paired (b b₁ b₂ : Begun) : Type 0 where
  pub word : b₁.word + b₂.word ≡ b.word
  pub hollow_first : b₁.hollow ≡ b.hollow
  pub hollow_last : b₂.hollow ≡ b.hollow
  pub no_cycle : b₁.due ≡ Nothing
  pub due : b₂.due ≡ b.due
  pub registers : b₂.registers ≡ b.registers

-- the first of the two byte accesses of a sixteen-bit access, before any cycle
abbrev pub first_of : Registers → Sixteen → Begun
first_of r a = begin_access r (on (first_lane r.control) a)

-- the second of the two byte accesses of a sixteen-bit access, on the registers that the first left, before any cycle
abbrev pub last_of : Registers → Sixteen → Begun
last_of r a = begin_access (first_of r a).registers (on (last_lane r.control) a)

-- ---- the pointer's halves

module _ (b : Bool) (a : BitAddress) (w : ℕ) where
  low_both : half_written (half_written a 0 (cond b 2 1) w) 0 (cond b 1 2) w ≡ half_written a 0 3 w
  unfolding half_written
  low_both =
      let p = replaced_word (cond b 2 1) (low_half a) w in
      rw (low_of_halves _ (high_half a) p, high_of_halves _ (high_half a) p (omega arith), replaced_both b (low_half a) w)

  high_both : half_written (half_written a 1 (cond b 2 1) w) 1 (cond b 1 2) w ≡ half_written a 1 3 w
  unfolding half_written
  high_both =
      let p = replaced_word (cond b 2 1) (high_half a) w in
      rw (
        low_of_halves (low_half a) (replaced (cond b 2 1) (high_half a) w) (omega arith),
        high_of_halves (low_half a) _ (omega arith) p,
        replaced_both b (high_half a) w,
      )

-- ---- the control register, which takes what is none of the first three
module _ (k : ℕ) (h : 2 < k) where
  writes_control : (r : Registers) (lanes w : ℕ) → written r k lanes w ≡ with_control r (control_laid host_low lanes r.control w)
  unfolding written
  writes_control r lanes w = rw (le-ltb k 2 (omega arith), ne_eqb k 2 (omega arith))

  -- It calls for no cycle at any control word, so it is harmless that LBL changes in mid-word.
  calls_none : (c lanes : ℕ) → write_due c k lanes ≡ Nothing
  unfolding write_due fetches
  calls_none c lanes =
      rw (ne_eqb k 2 (omega arith), ne_eqb k 0 (omega arith), ne_eqb k 1 (omega arith)) (go (closes c lanes) (lbl c) _)
    where
      go : (t b : Bool) (d : Due) → cond t (cond (cond b false false) d Nothing) Nothing ≡ Nothing
      go true true d = refl
      go true false d = refl
      go false b d = refl

  control_both : (r : Registers) (w : ℕ) →
      written (written r k (first_lane r.control) w) k (last_lane r.control) w ≡ written r k 3 w
  control_both r w =
      let c = r.control in
      rw (writes_control r (first_lane c) w, writes_control r 3 w)
      (writes_control (with_control r (control_laid host_low (first_lane c) c w)) (last_lane c) w ∙
      ap (with_control r) (lay_both (lbl c) (λ x. host_low x (lo w)) c (hi (bare w)) (λ x. host_byte x (lo w)) (omega arith)))

-- ---- a read changes no register, whatever register it is of
read_pair : (r : Registers) (k : ℕ) → Paired (begin_access r (on 3 (load k))) (first_of r (load k)) (last_of r (load k))
unfolding begin_access read_due
read_pair r k =
    let c = r.control in
    record {
      word = shown_both (lbl c) (register_word r k);
      hollow_first = refl;
      hollow_last = refl;
      no_cycle = open_calls_none r (on (first_lane c) (load k)) (first_is_open c);
      due = rw (last_closes c, both_close c);
      registers = refl;
    }

-- ---- a write: the first byte of any register calls for no cycle
module _ (r : Registers) where
  abbrev c : ℕ
  c = r.control

  write_pair : (k w : ℕ) →
      (last_of r (save k w)).due ≡ (begin_access r (on 3 (save k w))).due →
      (last_of r (save k w)).registers ≡ (begin_access r (on 3 (save k w))).registers →
      Paired (begin_access r (on 3 (save k w))) (first_of r (save k w)) (last_of r (save k w))
  unfolding begin_access write_due
  write_pair k w d e = record {
    word = refl;
    hollow_first = refl;
    hollow_last = refl;
    no_cycle = open_calls_none r (on (first_lane c) (save k w)) (first_is_open c);
    due = d;
    registers = e;
  }

  -- Before any cycle the two byte accesses of a sixteen-bit access answer, call for a cycle and leave the registers as the whole one
  -- (`Paired`).
  pub begin_pair : (a : Sixteen) → Paired (begin_access r (on 3 a)) (first_of r a) (last_of r a)
  unfolding begin_access write_due written half_written
  begin_pair (load k) = read_pair r k
  begin_pair (save zero w) =
      write_pair 0 w (rw (last_closes c, both_close c)) (ap (with_pointer r) (low_both (lbl c) r.pointer w))
  begin_pair (save (suc zero) w) =
      write_pair 1 w (rw (last_closes c, both_close c)) (ap (with_pointer r) (high_both (lbl c) r.pointer w))
  begin_pair (save (suc (suc zero)) w) =
      write_pair 2 w (rw (last_closes c, both_close c)) (rw (replaced_both (lbl c) r.latch w))
  begin_pair (save (suc (suc (suc k))) w) =
      let h : 2 < suc (suc (suc k)) = omega arith in
      write_pair (suc (suc (suc k))) w
      (calls_none (suc (suc (suc k))) h _ (last_lane c) ∙ sym (calls_none (suc (suc (suc k))) h c 3))
      (control_both (suc (suc (suc k))) h r w)
