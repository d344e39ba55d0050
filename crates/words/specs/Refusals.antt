-- The numbers with which calls refuse: document 01, 'Numbers returned', and the requests of document 02.
--   refusal_number r    the number of a refusal
--   number_returned x   what a judge finds, as a call returns it
use Rattle.std.specs.Prelude.{ℕ, Result, Ok, Err}
use Rattle.words.specs.declared.refusals.Refusal.{Refusal}
use Rattle.words.specs.declared.refusals.Refusal.TheVariants.{MemoryOverLimit, UnknownRegister, UnnamedLanes, NoFieldSize, FourthWord, BeyondMemory}
use Rattle.words.specs.declared.refusals.Refusal.TheVariants.{AlreadyWaiting, NoneWaiting, UnknownSource, BlockTooLong, Misfit}
use Rattle.words.specs.declared.refusals.Refusal.TheVariants.{CutOff, LeadingZeroGroup, OverLargeNumber, NoLanes, ListTooSmall}
use Rattle.words.specs.declared.refusals.Refusal.TheVariants.{StreamEnded, StreamTooLong, ByteAccess, UnknownKind}
use Rattle.words.specs.declared.refusals.Refusal.TheVariants.{TimeOutOfRange, ListTooShort, HollowWord, WrongCount, TicksNotRising}
use Rattle.words.specs.declared.refusals.Refusal.TheVariants.{UnknownRule, NoIncrement}

abbrev pub refusal_number : Refusal → ℕ
refusal_number MemoryOverLimit = 1
refusal_number UnknownRegister = 2
refusal_number UnnamedLanes = 3
refusal_number NoFieldSize = 4
refusal_number FourthWord = 5
refusal_number BeyondMemory = 6
refusal_number AlreadyWaiting = 7
refusal_number NoneWaiting = 8
refusal_number UnknownSource = 9
refusal_number BlockTooLong = 10
refusal_number Misfit = 11
refusal_number CutOff = 20
refusal_number LeadingZeroGroup = 21
refusal_number OverLargeNumber = 22
refusal_number NoLanes = 23
refusal_number ListTooSmall = 24
refusal_number StreamEnded = 25
refusal_number StreamTooLong = 26
refusal_number ByteAccess = 30
refusal_number UnknownKind = 31
refusal_number TimeOutOfRange = 40
refusal_number ListTooShort = 41
refusal_number HollowWord = 42
refusal_number WrongCount = 43
refusal_number TicksNotRising = 44
refusal_number UnknownRule = 45
refusal_number NoIncrement = 46

-- "0 done"; else the number of what refuses
abbrev pub number_returned : {A : Type 0} → Result A Refusal → ℕ
number_returned (Ok x) = 0
number_returned (Err r) = refusal_number r
