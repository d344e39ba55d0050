-- The two ways through a call, as both functions go them: refused with its number; or begun, carried out over the bytes and closed.
use Prim.Native.Nat.{ℕ}
use native.Mathlib.Omega.{arith}
use mathlib.Core.Path.{◌≡◌, sym, ◌∙◌}
use mathlib.Core.List.{List}
use mathlib.Core.Logic.{◌≢◌}
use lib.ListN.{length}
use borrow.Author.Tests.{eq-eqb, ne_eqb}
use Rattle.words.specs.Bytes.{AreBytes}
use Rattle.port_spec.specs.Host.{begin_access, finished, done}
use Rattle.port_spec.specs.declared.Access.{Access}
use Rattle.port_spec.specs.declared.Begun.{Begun}
use Rattle.port_spec.specs.declared.Carried.{Carried}
use Rattle.port_spec.proofs.Taken.{taken, taken_memory}
use Rattle.door_spec.specs.Bytes.{words_of}
use Rattle.door_spec.specs.Image.{registers_of}
use Rattle.door_spec.specs.Answer.{packed, refusing}
use Rattle.door_spec.specs.Door.{misfit, call_number, call_tells, call_image, call_memory, Called}
use Rattle.door_spec.specs.InPlainWords.{Fitting}
use Rattle.door_spec.proofs.Numbers.{numbered, fit_number, unfit_number}
use Rattle.door.specs.Parts.{CycledBytes, Closed}
use Rattle.door.proofs.CycleOverBytes.{cycled_bytes}

module _ (image memory : List ℕ) (a : Access) where
  -- A call that is refused leaves what its statement says by leaving all as it stood.
  pub refused_call : call_number image memory a ≢ 0 → Called image memory a (packed (refusing (call_number image memory a))) image memory
  unfolding call_tells call_image call_memory
  refused_call n =
      let t = ne_eqb _ _ n in
      record { answered = rw t; image_left = rw t; memory_left = rw t }

  -- A call that is lent an image of another length than nine is refused with number 11.
  pub other_length : length image ≢ 9 → Called image memory a (packed (refusing 11)) image memory
  unfolding misfit
  other_length n =
      let e : call_number image memory a ≡ 11 = unfit_number image memory a (rw (ne_eqb _ _ n)) in
      rw e at (refused_call (λ z. omega (arith, e, z)))

  abbrev begun : Begun
  begun = begin_access (registers_of image) a

  module _ (unrefused : call_number image memory a ≡ 0) where
    accepted : Fitting image memory
    accepted = ((numbered image memory a).done.0 unrefused).0

    -- A call that is accepted leaves what its statement says where the cycle of the access, on what the bytes stand for, is done over
    -- the bytes, and the call is closed.
    pub closed_call : {c : Carried} {x : ℕ} {image' memory' : List ℕ} → AreBytes memory →
        CycledBytes begun.registers begun.due memory c memory' → Closed (finished begun c) x image' →
        Called image memory a x image' memory'
    unfolding call_tells call_image call_memory done
    closed_call s k d =
        let t = eq-eqb _ _ unrefused in
        let n = sym (fit_number image memory a accepted) ∙ unrefused in
        let o = taken (registers_of image) (words_of memory) a n in
        record {
          answered = rw (t, o) (rw k.outcome at d.answered);
          image_left = rw (t, o) (rw k.outcome at d.image_left);
          memory_left =
              rw (t, taken_memory (registers_of image) (words_of memory) a n)
              (k.memory ∙ cycled_bytes memory accepted.even_memory s _ _);
        }
