-- Laws that the code is proved by. Proofs of single functions are in the folders beside them.
-- ---- the writer
pub mod Judging
pub mod Putting
pub mod Written
-- ---- the reader
pub mod ReadOutcomes
-- ---- the contracts
pub mod Promised
