-- One call at the C door: document 01, 'Blocks and the two doors' and 'Numbers returned'.
--   misfit image memory         number 11 applies
--   call_number image memory a  number 11, 1, 2 or 3, or 0 where none applies
--   call_tells image memory a   the answer, before it is packed
--   call_answer, call_image, call_memory   what a call answers, and what it leaves of all that it was lent
--   Called                      these three, as the contract of a call
use Rattle.std.specs.Prelude.{ℕ, ◌%◌, Bool, cond, not, ◌||◌, List, ◌≡◌, eqb, ltb, length}
use Rattle.words.specs.Bytes.{bit}
use Rattle.port_spec.specs.Host.{number_for, access, access_memory}
use Rattle.port_spec.specs.declared.Access.{Access}
use Rattle.port_spec.specs.declared.Answer.{Answer}
use Rattle.port_spec.specs.declared.Outcome.{Outcome}
use Rattle.door_spec.specs.Bytes.{words_of, bytes_of, byte}
use Rattle.door_spec.specs.Image.{registers_of, image_of}
use Rattle.door_spec.specs.Answer.{packed, refusing}

-- "11 C door: image not nine bytes, hollow byte over 1, bit 10 set, or odd memory length"; an image of another length is looked at no
-- further (ours)
unfoldable pub misfit : List ℕ → List ℕ → Bool
misfit image memory =
    not (eqb (length image) 9) ||
    (ltb 1 (byte image 8) ||
    (bit (registers_of image).control 10 ||
    eqb (length memory % 2) 1))

-- "Tested in this order: 11 first, then as numbered"
unfoldable pub call_number : List ℕ → List ℕ → Access → ℕ
call_number image memory a = cond (misfit image memory) 11 (number_for (words_of memory) a)

-- the access that a call does: that of the registers and words that its bytes stand for
abbrev pub outcome_of : List ℕ → List ℕ → Access → Outcome
outcome_of image memory a = access (registers_of image) (words_of memory) a

abbrev pub words_after : List ℕ → List ℕ → Access → List ℕ
words_after image memory a = access_memory (registers_of image) (words_of memory) a

-- "A refusal returns zeros and false marks, cycle none; nothing lent or passed on changes"
unfoldable pub call_tells : List ℕ → List ℕ → Access → Answer
call_tells image memory a =
    cond (eqb (call_number image memory a) 0) (outcome_of image memory a).answer (refusing (call_number image memory a))

abbrev pub call_answer : List ℕ → List ℕ → Access → ℕ
call_answer image memory a = packed (call_tells image memory a)

unfoldable pub call_image : List ℕ → List ℕ → Access → List ℕ
call_image image memory a =
    cond (eqb (call_number image memory a) 0) (image_of (outcome_of image memory a).registers) image

unfoldable pub call_memory : List ℕ → List ℕ → Access → List ℕ
call_memory image memory a =
    cond (eqb (call_number image memory a) 0) (bytes_of (words_after image memory a)) memory

-- what one call leaves: its answer, the image and the memory
pub record Called (image memory : List ℕ) (a : Access) (answer : ℕ) (image' memory' : List ℕ) : Type 0 where
  pub answered : answer ≡ call_answer image memory a
  pub image_left : image' ≡ call_image image memory a
  pub memory_left : memory' ≡ call_memory image memory a
