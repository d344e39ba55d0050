-- Demand 1 at the door: "A refusal returns zeros and false marks, cycle none; nothing lent or passed on changes".
use Prim.Native.Nat.{ℕ, ◌*◌}
use native.Mathlib.Omega.{arith}
use mathlib.Core.Path.{◌≡◌}
use mathlib.Core.List.{List}
use mathlib.Core.Logic.{◌≢◌}
use borrow.Author.Tests.{ne_eqb}
use Rattle.port_spec.specs.declared.Access.{Access}
use Rattle.door_spec.specs.Answer.{packed}
use Rattle.door_spec.specs.Door.{call_number, call_tells, call_answer, call_image, call_memory}

-- a call that is refused: its number in bits 16-23 and zeros, and every lent byte as it stood
pub record Refused (image memory : List ℕ) (a : Access) : Type 0 where
  pub answer : call_answer image memory a ≡ 65536 * call_number image memory a
  pub image_kept : call_image image memory a ≡ image
  pub memory_kept : call_memory image memory a ≡ memory

-- A call with another number than 0 answers 65,536 times that number, and leaves every byte of image and memory.
pub refuses : (image memory : List ℕ) (a : Access) → call_number image memory a ≢ 0 → Refused image memory a
unfolding packed call_tells call_image call_memory
refuses image memory a n =
    let t = ne_eqb _ _ n in
    record { answer = rw t (omega arith); image_kept = rw t; memory_kept = rw t }
