-- What the contracts of the two exports say.
pub mod Promised
