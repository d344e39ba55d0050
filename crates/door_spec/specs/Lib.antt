-- ---- what the contracts of the two calls cite
pub mod Bytes
pub mod Image
pub mod Answer
pub mod Door
-- ---- the words of the laws
pub mod InPlainWords
pub mod Sequences
