-- The laws of the even-tempo time, in reading order.
-- ---- arithmetic in double precision
pub mod Operations
pub mod WholeNumbers
pub mod Quotients
-- ---- the times
pub mod EvenTempo
pub mod Times
pub mod Examples
