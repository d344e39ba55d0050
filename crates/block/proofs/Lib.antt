-- What the contracts of the calls say. The laws of blocks are crate `block_spec`; proofs of single functions are in the folders beside
-- this.
pub mod Counts
pub mod Promised
