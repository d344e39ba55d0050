-- The laws of the trial. Proofs of single functions are in the folders beside them.
pub mod One
