-- The laws of the bench, in reading order. Proofs of single functions are in the folders beside them.
-- ---- what is promised of the call: demand 1, the access by value, the contracts themselves; one outcome
pub mod Promised
pub mod One
pub mod ByValue
-- ---- any number of accesses
pub mod WholeDay
-- ---- demand 3
pub mod ByBytes
-- ---- for a proof by hand: the port's types in a walk of the code
pub mod PlainData
