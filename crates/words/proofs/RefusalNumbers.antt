-- What the numbers of refusals say: each refusal has a number of its own, and none has 0, which says done.
use Rattle.std.proofs.Common.{◌≡◌, ℕ, cond, ◌==◌, ◌≢◌, List, [], ◌∷◌, Option, Some, None, refl, sym, ap, ◌∙◌}
use Rattle.std.proofs.lemmas.Option.{none-some, same_Some}
use Rattle.words.specs.Refusals.{refusal_number}
use Rattle.words.specs.declared.refusals.Refusal.{Refusal}
use Rattle.words.specs.declared.refusals.Refusal.TheVariants.{MemoryOverLimit, UnknownRegister, UnnamedLanes, NoFieldSize, FourthWord, BeyondMemory}
use Rattle.words.specs.declared.refusals.Refusal.TheVariants.{AlreadyWaiting, NoneWaiting, UnknownSource, BlockTooLong, Misfit}
use Rattle.words.specs.declared.refusals.Refusal.TheVariants.{CutOff, LeadingZeroGroup, OverLargeNumber, NoLanes, ListTooSmall}
use Rattle.words.specs.declared.refusals.Refusal.TheVariants.{StreamEnded, StreamTooLong, ByteAccess, UnknownKind}
use Rattle.words.specs.declared.refusals.Refusal.TheVariants.{TimeOutOfRange, ListTooShort, HollowWord, WrongCount, TicksNotRising}
use Rattle.words.specs.declared.refusals.Refusal.TheVariants.{UnknownRule, NoIncrement}

-- every refusal
abbrev all_refusals : List Refusal
all_refusals =
    MemoryOverLimit ∷ UnknownRegister ∷ UnnamedLanes ∷ NoFieldSize ∷ FourthWord ∷ BeyondMemory ∷
    AlreadyWaiting ∷ NoneWaiting ∷ UnknownSource ∷ BlockTooLong ∷ Misfit ∷ CutOff ∷
    LeadingZeroGroup ∷ OverLargeNumber ∷ NoLanes ∷ ListTooSmall ∷ StreamEnded ∷ StreamTooLong ∷
    ByteAccess ∷ UnknownKind ∷ TimeOutOfRange ∷ ListTooShort ∷ HollowWord ∷ WrongCount ∷
    TicksNotRising ∷ UnknownRule ∷ NoIncrement ∷ []

-- the first of a list with a number
abbrev with_number : ℕ → List Refusal → Option Refusal
with_number n [] = None
with_number n (r ∷ rest) = cond (refusal_number r == n) (Some r) (with_number n rest)

-- A refusal is the one of all that has its number.
found_again : (r : Refusal) → with_number (refusal_number r) all_refusals ≡ Some r
found_again MemoryOverLimit = refl
found_again UnknownRegister = refl
found_again UnnamedLanes = refl
found_again NoFieldSize = refl
found_again FourthWord = refl
found_again BeyondMemory = refl
found_again AlreadyWaiting = refl
found_again NoneWaiting = refl
found_again UnknownSource = refl
found_again BlockTooLong = refl
found_again Misfit = refl
found_again CutOff = refl
found_again LeadingZeroGroup = refl
found_again OverLargeNumber = refl
found_again NoLanes = refl
found_again ListTooSmall = refl
found_again StreamEnded = refl
found_again StreamTooLong = refl
found_again ByteAccess = refl
found_again UnknownKind = refl
found_again TimeOutOfRange = refl
found_again ListTooShort = refl
found_again HollowWord = refl
found_again WrongCount = refl
found_again TicksNotRising = refl
found_again UnknownRule = refl
found_again NoIncrement = refl

-- No two refusals have the same number.
pub numbers_differ : (r s : Refusal) → refusal_number r ≡ refusal_number s → r ≡ s
numbers_differ r s e = same_Some r s (sym (found_again r) ∙ ap (λ (n : ℕ). with_number n all_refusals) e ∙ found_again s)

-- No refusal has the number 0, with which a call says that it is done.
pub none_is_0 : (r : Refusal) → refusal_number r ≢ 0
none_is_0 r e = none-some r (ap (λ (n : ℕ). with_number n all_refusals) (sym e) ∙ found_again r)
