-- ---- what the contracts of the two calls cite
pub mod Block
-- ---- what only private functions of crate `block` state
pub mod Parts
-- ---- the words of the laws
pub mod InPlainWords
