-- What the contracts of the calls say. The laws of an access are crate `port_spec`; proofs of single functions are in the folders beside
-- this.
pub mod Promised
