-- What the contracts of the calls say. The laws of bank selects are crate `bank_spec`; proofs of single functions are in the folders
-- beside this.
pub mod Promised
