-- Where HSTCTL's parts stand: document 01, "MSGIN 0-2, INTIN 3, MSGOUT 4-6, INTOUT 7, .. INCW 11, INCR 12, LBL 13".
-- NMI, NMIM, CF and HLT have no name here, since nothing obeys them: `Written` says of all high bits but 10 that a
-- write of that byte replaces them.
use Prim.Native.Nat.{ℕ, ◌+◌, ◌/◌, ◌<◌}
use native.Mathlib.Nat.{zero-add}
use mathlib.Core.Path.{◌≡◌, refl, ◌∙◌}
use mathlib.Core.Bool.{Bool}
use Rattle.words.specs.Bytes.{bit}
use Rattle.words.proofs.Bits.{bit_of_quotient, bit_of_remainder}
use Rattle.control.specs.Control.{msgin, intin, msgout, intout, incw, incr, lbl}

-- a flag that is bit n of every word
abbrev Flag : (ℕ → Bool) → ℕ → Type 0
Flag flag n = (c : ℕ) → flag c ≡ bit c n

-- a message of three bits whose bit i is bit n + i of the word
abbrev Message : (ℕ → ℕ) → ℕ → Type 0
Message message n = (c i : ℕ) → i < 3 → bit (message c) i ≡ bit c (n + i)

-- where the seven parts of HSTCTL stand that have a name here
pub record BitPlaces : Type 0 where
  pub message_in : Message msgin 0
  pub interrupt_in : Flag intin 3
  pub message_out : Message msgout 4
  pub interrupt_out : Flag intout 7
  pub step_writing : Flag incw 11
  pub step_reading : Flag incr 12
  pub low_byte_last : Flag lbl 13

-- In every word bit i of MSGIN is bit i, bit i of MSGOUT bit 4 + i, for i below 3; INTIN, INTOUT, INCW, INCR and LBL are bits 3, 7, 11, 12
-- and 13: where the paper has them.
pub bit_places : BitPlaces
bit_places = record {
  message_in = λ c i h. rw zero-add (bit_of_remainder c 3 i h);
  interrupt_in = λ c. refl;
  message_out = λ c i h. bit_of_remainder (c / 16) 3 i h ∙ bit_of_quotient c 4 i;
  interrupt_out = λ c. refl;
  step_writing = λ c. refl;
  step_reading = λ c. refl;
  low_byte_last = λ c. refl;
}
