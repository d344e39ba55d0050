-- The laws of output, in reading order. Proofs of single functions are in the folders beside them.
pub mod Promised
