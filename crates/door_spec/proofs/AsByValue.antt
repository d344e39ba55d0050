-- The door does what the access by value does on the registers and words that the bytes stand for; what a call leaves fits the door
-- again, so no call is refused with number 11 for what an accepted one left.
-- A call that is done leaves the image and the bytes of what the access leaves; one that is refused with 1, 2 or 3 leaves its own,
-- and a good image is that of its registers.
use Prim.Native.Nat.{ℕ, ◌*◌, ◌%◌}
use native.Mathlib.Omega.{arith}
use mathlib.Core.Path.{◌≡◌, refl, sym, ap, ◌∙◌}
use mathlib.Core.Bool.{Bool, true, false, cond}
use mathlib.Core.List.{List}
use mathlib.Core.Logic.{◌≢◌}
use lib.Dec.{eqb}
use lib.ListN.{length}
use borrow.Author.Tests.{eqb-false}
use Rattle.words.specs.Bytes.{AreBytes}
use Rattle.registers.specs.declared.Registers.{Registers}
use Rattle.port_spec.specs.Host.{number_for, access, access_memory}
use Rattle.port_spec.specs.declared.Access.{Access}
use Rattle.port_spec.specs.declared.Outcome.{Outcome}
use Rattle.port_spec.proofs.Taken.{barred, barred_memory}
use Rattle.port_spec.proofs.Widths.{access_fits, access_memory_fits, access_ten_clear}
use Rattle.door_spec.specs.Bytes.{words_of, bytes_of}
use Rattle.door_spec.specs.Image.{registers_of, image_of}
use Rattle.door_spec.specs.Answer.{refusing}
use Rattle.door_spec.specs.Door.{call_number, call_tells, call_image, call_memory}
use Rattle.door_spec.specs.InPlainWords.{GoodImage, Fitting, FitsImage}
use Rattle.door_spec.proofs.WordsAndBytes.{bytes_length, bytes_of_words, words_of_bytes, words_fit, bytes_fit}
use Rattle.door_spec.proofs.ImageAndRecord.{registers_of_image, image_of_registers, image_fits, image_bytes, good_image}
use Rattle.door_spec.proofs.Numbers.{fit_number}

-- what holds of a call that is done, and is the same for one that is refused
done_or_same : {A : Type 0} (n : ℕ) (x y : A) → (n ≢ 0 → y ≡ x) → cond (eqb n 0) x y ≡ x
done_or_same {A} n x y h = go (eqb n 0) refl
  where
    go : (t : Bool) → eqb n 0 ≡ t → cond t x y ≡ x
    go true e = refl
    go false e = h (eqb-false n 0 e)

twice_even : (n : ℕ) → 2 * n % 2 ≡ 0
twice_even n = omega arith

module _ (image memory : List ℕ) (f : Fitting image memory) (s : AreBytes image) (t : AreBytes memory) (a : Access) where
  abbrev r : Registers
  r = registers_of image

  abbrev m : List ℕ
  m = words_of memory

  -- ---- what is left, whether the call is done or refused
  number_by_words : call_number image memory a ≡ number_for m a
  number_by_words = fit_number image memory a f

  barred_words : call_number image memory a ≢ 0 → number_for m a ≢ 0
  barred_words n z = n (number_by_words ∙ z)

  -- A call that 11 does not refuse tells what the access by value tells on the registers and words that its bytes stand for.
  pub tells_as_access : call_tells image memory a ≡ (access r m a).answer
  unfolding call_tells
  tells_as_access =
      done_or_same (call_number image memory a) _ _
      (λ n. ap refusing number_by_words ∙ sym (ap (λ (o : Outcome). o.answer) (barred r m a (barred_words n))))

  -- A call that 11 does not refuse leaves the image of the registers that the access by value leaves.
  pub image_as_access : call_image image memory a ≡ image_of (access r m a).registers
  unfolding call_image
  image_as_access =
      done_or_same (call_number image memory a) _ _
      (λ n.
      sym
      (ap (λ (o : Outcome). image_of o.registers) (barred r m a (barred_words n)) ∙
      image_of_registers image f.good_image s))

  -- A call that 11 does not refuse leaves the bytes of the words that the access by value leaves.
  pub memory_as_access : call_memory image memory a ≡ bytes_of (access_memory r m a)
  unfolding call_memory
  memory_as_access =
      done_or_same (call_number image memory a) _ _
      (λ n. sym (ap bytes_of (barred_memory r m a (barred_words n)) ∙ bytes_of_words memory f.even_memory t))

  -- ---- what that stands for
  given : FitsImage r
  given = image_fits image f.good_image s

  fits : FitsImage (access r m a).registers
  fits =
      record {
        widths = access_fits r m a given.widths (words_fit memory t);
        ten_clear = access_ten_clear r m a given.ten_clear;
      }

  -- The image after a call that 11 does not refuse stands for the registers that the access by value leaves.
  pub registers_left : registers_of (call_image image memory a) ≡ (access r m a).registers
  registers_left = rw image_as_access (registers_of_image (access r m a).registers fits.widths)

  -- The memory after a call that 11 does not refuse stands for the words that the access by value leaves.
  pub words_left : words_of (call_memory image memory a) ≡ access_memory r m a
  words_left =
      rw memory_as_access
      (words_of_bytes (access_memory r m a) (access_memory_fits r m a given.widths (words_fit memory t)))

  -- ---- another call can follow
  -- A call that 11 does not refuse leaves a good image.
  pub good_again : GoodImage (call_image image memory a)
  good_again = rw image_as_access (good_image (access r m a).registers fits)

  -- What is left by a call that 11 does not refuse fits the door again: 11 does not refuse the next call.
  pub fits_again : Fitting (call_image image memory a) (call_memory image memory a)
  fits_again =
      record {
        good_image = good_again;
        even_memory = rw (memory_as_access, bytes_length) (twice_even (length (access_memory r m a)));
      }

  -- A call that 11 does not refuse leaves an image that is made of bytes.
  pub image_bytes_again : AreBytes (call_image image memory a)
  image_bytes_again = rw image_as_access (image_bytes (access r m a).registers)

  -- A call that 11 does not refuse leaves a memory that is made of bytes.
  pub memory_bytes_again : AreBytes (call_memory image memory a)
  memory_bytes_again = rw memory_as_access (bytes_fit (access_memory r m a))
