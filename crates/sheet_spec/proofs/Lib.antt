-- The laws of a strike sheet, in reading order.
-- ---- the tests
pub mod Rule
pub mod Range
pub mod Strokes
pub mod Rising
-- ---- a sheet that is begun, and one that is refused; demand 1
pub mod Begun
pub mod Taken
pub mod CountWord
pub mod Heard
pub mod Numbers
pub mod Refused
pub mod Moves
pub mod One
-- ---- demand 3: a sheet done by bytes
pub mod ByBytes
-- ---- the tuner's bet and the keeper's worry; the times
pub mod TheBet
pub mod InNumbers
pub mod InTempo
-- ---- the two rules beside each other
pub mod BothRules
-- ---- the contract of the call
pub mod Promised
-- ---- by computation
pub mod Examples
