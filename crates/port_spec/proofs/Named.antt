-- A refusal by name has a number that is never 0, so what is refused is not done.
use mathlib.Core.Path.{◌≡◌, refl}
use mathlib.Core.Bool.{false}
use mathlib.Core.Logic.{◌≢◌}
use lib.Dec.{eqb}
use borrow.Author.Tests.{eqb-false}
use Rattle.words.specs.Refusals.{refusal_number}
use Rattle.words.specs.declared.refusals.Refusal.{Refusal}
use Rattle.words.specs.declared.refusals.Refusal.TheVariants.{MemoryOverLimit, UnknownRegister, UnnamedLanes, NoFieldSize, FourthWord, BeyondMemory}
use Rattle.words.specs.declared.refusals.Refusal.TheVariants.{AlreadyWaiting, NoneWaiting, UnknownSource, BlockTooLong, Misfit}
use Rattle.words.specs.declared.refusals.Refusal.TheVariants.{CutOff, LeadingZeroGroup, OverLargeNumber, NoLanes, ListTooSmall}
use Rattle.words.specs.declared.refusals.Refusal.TheVariants.{StreamEnded, StreamTooLong, ByteAccess, UnknownKind}
use Rattle.words.specs.declared.refusals.Refusal.TheVariants.{TimeOutOfRange, ListTooShort, HollowWord, WrongCount, TicksNotRising}
use Rattle.words.specs.declared.refusals.Refusal.TheVariants.{UnknownRule, NoIncrement}

not_0 : (r : Refusal) → eqb (refusal_number r) 0 ≡ false
not_0 MemoryOverLimit = refl
not_0 UnknownRegister = refl
not_0 UnnamedLanes = refl
not_0 NoFieldSize = refl
not_0 FourthWord = refl
not_0 BeyondMemory = refl
not_0 AlreadyWaiting = refl
not_0 NoneWaiting = refl
not_0 UnknownSource = refl
not_0 BlockTooLong = refl
not_0 Misfit = refl
not_0 CutOff = refl
not_0 LeadingZeroGroup = refl
not_0 OverLargeNumber = refl
not_0 NoLanes = refl
not_0 ListTooSmall = refl
not_0 StreamEnded = refl
not_0 StreamTooLong = refl
not_0 ByteAccess = refl
not_0 UnknownKind = refl
not_0 TimeOutOfRange = refl
not_0 ListTooShort = refl
not_0 HollowWord = refl
not_0 WrongCount = refl
not_0 TicksNotRising = refl
not_0 UnknownRule = refl
not_0 NoIncrement = refl

-- The number of a refusal is never 0.
pub never_0 : (r : Refusal) → refusal_number r ≢ 0
never_0 r = eqb-false _ _ (not_0 r)
