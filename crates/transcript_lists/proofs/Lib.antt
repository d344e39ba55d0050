-- What the contracts of the calls say, and what the crates that lend the lists on need. Proofs of single functions are in the folders
-- beside it.
pub mod Promised
pub mod EachEntry
pub mod Same
