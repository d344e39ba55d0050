-- The laws of fields, in reading order.
-- ---- bit by bit
pub mod WordBits
pub mod OneBit
pub mod Readings
pub mod Signs
pub mod OneNumber
-- ---- a field's words, and what they cost
pub mod Counted
pub mod Sums
pub mod Grants
-- ---- accepted and refused; demand 1
pub mod Accepted
pub mod Answered
pub mod Numbers
pub mod One
-- ---- what was put in is taken out, and back
pub mod RoundTrips
pub mod AfterPut
pub mod Promised
-- ---- the part in one word
pub mod Steps
